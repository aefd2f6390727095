-- The small orders before this one are paid, and the others are as they were.
use Rattle.std.proofs.Common.{◌≡◌, ◌++◌, map, take, drop}
use Rattle.examples.specs.Orders.{paid_if_small}
use Rattle.examples.proofs.pages.pay_each_small.Given as goal

abbrev pub invariant-loop-order : goal.invariant-loop-order
invariant-loop-order l = l.order-items ≡ map paid_if_small (take l.order-index l.fn.orders.items) ++ drop l.order-index l.fn.orders.items

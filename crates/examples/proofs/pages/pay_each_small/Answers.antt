-- One more order is looked at.
use Rattle.std.proofs.Common.{rules}
use Rattle.std.proofs.lemmas.List.Edits.{map_over_more}
use Rattle.examples.specs.Orders.{paid_if_small}
use Rattle.examples.proofs.pages.pay_each_small.Goals as goal

pub loop-order-preserved : goal.loop-order-preserved
loop-order-preserved c = search (rules, map_over_more paid_if_small)

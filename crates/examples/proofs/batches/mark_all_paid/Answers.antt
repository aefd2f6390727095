-- One more order is paid.
use Rattle.std.proofs.Common.{rules}
use Rattle.std.proofs.lemmas.List.Edits.{map_over_more}
use Rattle.examples.specs.Orders.{settled_of}
use Rattle.examples.proofs.batches.mark_all_paid.Goals as goal

pub loop-order-preserved : goal.loop-order-preserved
loop-order-preserved c = search (rules, map_over_more settled_of)

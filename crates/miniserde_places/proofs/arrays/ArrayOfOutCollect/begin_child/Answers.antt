-- Events that give a list no child give an array of N items none (`no_item`).
use Rattle.std.proofs.Common.{map}
use Rattle.miniserde_read.specs.Events.{event_of}
use Rattle.miniserde_places.specs.laws.Arrays.{no_item}
use Rattle.miniserde_places.proofs.arrays.ArrayOfOutCollect.begin_child.Goals as goal

pub returns-then-len-clause-invalid : goal.returns-then-len-clause-invalid
returns-then-len-clause-invalid g c =
    λ e es. no_item g.row.N g.P.Visitor.meaning.from_events
    (map g.P.Visitor.meaning.content c.args.self.now.list.items.items) (event_of c.args.event) es
    (c.begin_child.ensures.invalid e es)

-- `insert` puts the entry at the code of its key (`map_content-inserted`): keys tie by `Ord` exactly if their codes
-- are equal.
use Rattle.std.proofs.Common.{sym, ◌∙◌}
use Rattle.miniserde_read.proofs.Inserts.{map_content-inserted}
use Rattle.miniserde_more.proofs.rest.slots.add.Goals as goal

pub returns-in_ok-insert-in-Some-clause-added : goal.returns-in_ok-insert-in-Some-clause-added
returns-in_ok-insert-in-Some-clause-added g c = rw c.in-Some.is
    (map_content-inserted g.K.MapKey.code g.K.MapKey.content (λ v. v) g.K.Ord.cmp
    g.met.K.Ord.total (λ a b. sym (g.met.K.Ord.matches_eq a b) ∙ g.met.K.MapKey.alike a b) c.in-Some.map.entries
    c.insert.new.self.entries c.args.key c.args.value c.insert.ensures.was_ordered c.in_ok-insert-in-Some.ensures.entries)

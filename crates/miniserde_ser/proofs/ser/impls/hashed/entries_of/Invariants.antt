-- The names so far are the texts of the keys that the iterator has yielded, and the trees so far are those of the
-- values. Each of these keys is valid.
use Rattle.std.proofs.Common.{◌≡◌, map, string_bytes}
use Rattle.std.specs.List.{AllByRecursion}
use Rattle.std.specs.Map.Iter.{deref_pair}
use Rattle.miniserde_ser.proofs.ser.impls.hashed.entries_of.Given as goal

abbrev pub invariant-loop-key : goal.invariant-loop-key
invariant-loop-key g l = record {
  names : map (λ r. string_bytes r.0) l.entries.items ≡ map (λ e. g.K.MapKey.text e.0) (map deref_pair l.yielded);
  trees : map (λ r. g.V.Serialize.tree r.1.now) l.entries.items ≡ map (λ e. g.V.Serialize.tree e.1) (map deref_pair l.yielded);
  valid : AllByRecursion (λ e. g.K.Ranged.valid e.0) (map deref_pair l.yielded);
}

-- The members of the entries that the iterator has yielded are written (`MembersWritten`), and `earlier` is the key of the
-- last of them. If the flag `normal` is true, it was true before, their names rise, and their trees are in normal form.
use Rattle.std.proofs.Common.{◌≡◌, true, map, option_map}
use Rattle.std.specs.Map.Iter.{deref_pair}
use Rattle.miniserde_model.specs.Normal.{Rise}
use Rattle.miniserde_ser.specs.Trees.{members_of, TreesAreNormal}
use Rattle.miniserde_ser.proofs.Members.{MembersWritten}
use Rattle.miniserde_ser.proofs.NormalForms.{last_key}
use Rattle.miniserde_ser.proofs.ser.impls.maps.BTreeMapSerialize.begin.Given as goal

abbrev pub invariant-loop-key : goal.invariant-loop-key
invariant-loop-key g l = record {
  written : MembersWritten g.K.MapKey.text g.V.Serialize.tree l.fn.w (map deref_pair l.yielded) l.w;
  normal : l.w.normal ≡ true → (l.fn.w.normal ≡ true)
      × Rise (members_of g.K.MapKey.text g.V.Serialize.tree (map deref_pair l.yielded))
      × TreesAreNormal (members_of g.K.MapKey.text g.V.Serialize.tree (map deref_pair l.yielded));
  ends : last_key (map deref_pair l.yielded) ≡ option_map (λ k. k.now) l.earlier;
}

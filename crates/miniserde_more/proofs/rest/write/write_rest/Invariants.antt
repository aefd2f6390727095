-- The members of the entries that the iterator has yielded are written, if they are kept.
use Rattle.std.proofs.Common.{◌≡◌, ◌++◌, ◌&&◌, map, string_bytes}
use Rattle.std.specs.Map.Iter.{deref_pair}
use Rattle.miniserde_model.specs.InRange.{MembersInRange}
use Rattle.miniserde_record.specs.InOrder.{KeepsTreesNormal}
use Rattle.miniserde_record.specs.Marks.{has_no_members}
use Rattle.miniserde_record.specs.Structs.{members_text}
use Rattle.miniserde_more.proofs.RestTexts.{written}
use Rattle.miniserde_more.proofs.rest.write.write_rest.Given as goal

abbrev pub invariant-loop-name : goal.invariant-loop-name
invariant-loop-name g l = record {
  is : l.w.text ≡ l.fn.w.text ++ members_text l.fn.w.first
      (written string_bytes g.V.Serialize.tree (g.A.TakenNames.further ++ map (λ n. n.now) l.fn.names) (map deref_pair l.yielded));
  all_in_range : MembersInRange
      (written string_bytes g.V.Serialize.tree (g.A.TakenNames.further ++ map (λ n. n.now) l.fn.names) (map deref_pair l.yielded));
  first : l.w.first ≡ (has_no_members
      (written string_bytes g.V.Serialize.tree (g.A.TakenNames.further ++ map (λ n. n.now) l.fn.names) (map deref_pair l.yielded))
      && l.fn.w.first);
  normal : KeepsTreesNormal l.fn.w
      (written string_bytes g.V.Serialize.tree (g.A.TakenNames.further ++ map (λ n. n.now) l.fn.names) (map deref_pair l.yielded)) l.w;
  refused : l.w.refused ≡ l.fn.w.refused;
}

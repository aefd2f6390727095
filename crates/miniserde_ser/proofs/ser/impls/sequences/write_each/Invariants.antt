-- The text and the elements that are left make those of all. If the trees of these elements are in
-- range, so are those of all. If they are in normal form and the flag `normal` is true, it was true before, and all are in
-- normal form. If the flag `first` was false, it still is. The writer has not failed.
use Rattle.std.proofs.Common.{◌≡◌, ◌++◌, false, true, length}
use Rattle.miniserde_model.specs.Compact.{compact_children}
use Rattle.miniserde_model.specs.InRange.{AllInRange}
use Rattle.miniserde_ser.specs.Trees.{trees_of}
use Rattle.miniserde_ser.proofs.NormalForms.{AreNormal}
use Rattle.miniserde_ser.proofs.ser.impls.sequences.write_each.Given as goal

abbrev pub invariant-loop-item : goal.invariant-loop-item
invariant-loop-item g l = record {
  text : l.w.text ++ compact_children (trees_of g.T.Serialize.tree l.rest)
      ≡ l.fn.w.text ++ compact_children (trees_of g.T.Serialize.tree l.items);
  in_range : AllInRange (trees_of g.T.Serialize.tree l.rest) → AllInRange (trees_of g.T.Serialize.tree l.items);
  normal : AreNormal (trees_of g.T.Serialize.tree l.rest) → l.w.normal ≡ true
      → (l.fn.w.normal ≡ true) × AreNormal (trees_of g.T.Serialize.tree l.items);
  first : l.fn.w.first ≡ false → l.w.first ≡ false;
  unrefused : l.w.refused ≡ false;
}

abbrev pub decreases-loop-item : goal.decreases-loop-item
decreases-loop-item g l = length l.rest

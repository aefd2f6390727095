-- The members of the entries before the index are written (`MembersWritten`). If the flag `normal` is true, it was true
-- before, and the trees of these members are in normal form.
use Rattle.std.proofs.Common.{◌≡◌, true, take, string_bytes}
use Rattle.miniserde_ser.specs.Trees.{members_of, TreesAreNormal}
use Rattle.miniserde_ser.proofs.Members.{MembersWritten}
use Rattle.miniserde_ser.proofs.ser.impls.hashed.write_entries.Given as goal

abbrev pub invariant-loop-entry : goal.invariant-loop-entry
invariant-loop-entry g l = record {
  written : MembersWritten string_bytes (λ v. g.V.Serialize.tree v.now) l.fn.w (take l.entry-index l.entries) l.w;
  normal : l.w.normal ≡ true → (l.fn.w.normal ≡ true)
      × TreesAreNormal (members_of string_bytes (λ v. g.V.Serialize.tree v.now) (take l.entry-index l.entries));
}

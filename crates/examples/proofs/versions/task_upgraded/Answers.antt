-- A tree of an old task without the two new names means a task exactly if that is the old task upgraded. Field by
-- field: `same_field` and `other_field` carry over the three old fields, and `says_missing` gives the two new fields
-- their defaults.
use Rattle.std.proofs.Common.{◌≡◌, ℕ, [], ◌∷◌, Some, None, refl, sym, ap, codes, string_bytes, pos, arith}
use Rattle.std.specs.Prelude.{◌↔◌}
use Rattle.miniserde.specs.Tree.{Tree, members, nonneg}
use Rattle.miniserde.specs.Words.{string_of}
use Rattle.miniserde.specs.Integers.{ReadsUnsigned}
use Rattle.miniserde.specs.Options.{OptionReads, option_of}
use Rattle.miniserde.specs.Meanings.{unsigned_meaning, string_meaning}
use Rattle.miniserde.specs.Said.{says, none_counts}
use Rattle.examples.specs.Versions.{state_of}
use Rattle.examples.specs.contracts.tasks.OldStateFromJson.TheImpl as was
use Rattle.examples.specs.contracts.tasks.StateFromJson.TheImpl as is
use Rattle.examples.proofs.Kept.{same_field, other_field, says_missing}
use Rattle.examples.proofs.versions.task_upgraded.Goals as goal

same : (P : Tree → Type 0) (t : Tree) → P t ↔ P t
same P t = (λ r. r, λ r. r)

http : (n : ℕ) → ReadsUnsigned 32 (nonneg 3) n ↔ (n ≡ 3)
http n = (λ h. let q : 3 ≡ n = cc in sym q, λ e. (ap nonneg (sym e), omega (arith, e)))

pub returns : goal.returns
returns c (members ms) v w r no_retries no_note =
    let n1 = codes "id" in
    let n2 = codes "title" in
    let n3 = codes "state" in
    let n4 = codes "retries" in
    let n5 = codes "note" in
    let u64 = unsigned_meaning 64 in
    let u32 = unsigned_meaning 32 in
    let text = string_meaning string_bytes in
    let f1 = same_field u64.reads u64.from_tree u64.content u64.reads_agrees n1 ms v.id w.id r.0 in
    let f2 = same_field text.reads text.from_tree text.content text.reads_agrees n2 ms v.title w.name r.1.0 in
    let f3 = other_field was.ghosts.means.reads was.ghosts.means.from_tree was.ghosts.means.reads_agrees
    is.ghosts.means.reads is.ghosts.means.from_tree is.ghosts.means.reads_agrees state_of c.states_kept.ensures
    n3 ms v.state w.state r.1.1.0 in
    let g4 = says u32.from_tree (same (λ t. u32.reads t w.retries)) (http w.retries) n4 ms in
    let m4 = says_missing (w.retries ≡ 3) (λ t. u32.reads t w.retries) u32.from_tree n4 ms no_retries in
    let g5 = says (option_of string_of) (same (λ t. OptionReads text.reads t w.note)) (none_counts string_bytes w.note) n5 ms in
    let m5 = says_missing (w.note ≡ None) (λ t. OptionReads text.reads t w.note) (option_of string_of) n5 ms no_note in
    let pos_back : (m n : ℕ) → pos m ≡ pos n → m ≡ n = λ m n e. cc in (
      λ q. (pos_back w.id v.id (f1.0 q.0), f2.0 q.1.0, f3.0 q.1.1.0, m4.0 (g4.0 q.1.1.1.0), m5.0 (g5.0 q.1.1.1.1.0)),
      λ q. (f1.1 (ap pos q.0), (f2.1 q.1, (f3.1 q.2, (g4.1 (m4.1 q.3), (g5.1 (m5.1 q.4), tt))))),
    )
returns c t v w r no_retries no_note = absurd r

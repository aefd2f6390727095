-- The tree of a word or a string gives the value that it means.
use Rattle.std.proofs.Common.{◌≡◌, ℕ, Bool, List, Some, refl, ap}
use Rattle.std.specs.Prelude.{◌↔◌}
use Rattle.miniserde_model.specs.Tree.{Tree, null, truth, nonneg, neg, num, str, list, members}
use Rattle.miniserde_read.specs.types.Words.{unit_of, boolean_of, string_of}

unit_reads : (t : Tree) → unit_of t ≡ Some tt → t ≡ null
unit_reads null e = refl
unit_reads (truth b) e = absurd (cc)
unit_reads (nonneg n) e = absurd (cc)
unit_reads (neg m) e = absurd (cc)
unit_reads (num x) e = absurd (cc)
unit_reads (str s) e = absurd (cc)
unit_reads (list ts) e = absurd (cc)
unit_reads (members ms) e = absurd (cc)

-- a tree is null exactly if `unit_of` returns the unit for it
pub unit-given : (t : Tree) → (t ≡ null) ↔ (unit_of t ≡ Some tt)
unit-given t = (λ e. ap unit_of e, unit_reads t)

truth_reads : (t : Tree) (b : Bool) → boolean_of t ≡ Some b → t ≡ truth b
truth_reads null b e = absurd (cc)
truth_reads (truth c) b e = let same : c ≡ b = cc in ap truth same
truth_reads (nonneg n) b e = absurd (cc)
truth_reads (neg m) b e = absurd (cc)
truth_reads (num x) b e = absurd (cc)
truth_reads (str s) b e = absurd (cc)
truth_reads (list ts) b e = absurd (cc)
truth_reads (members ms) b e = absurd (cc)

-- a tree is the boolean b exactly if `boolean_of` returns b for it
pub truth-given : (t : Tree) (b : Bool) → (t ≡ truth b) ↔ (boolean_of t ≡ Some b)
truth-given t b = (λ e. ap boolean_of e, truth_reads t b)

text_reads : (t : Tree) (s : List ℕ) → string_of t ≡ Some s → t ≡ str s
text_reads null s e = absurd (cc)
text_reads (truth b) s e = absurd (cc)
text_reads (nonneg n) s e = absurd (cc)
text_reads (neg m) s e = absurd (cc)
text_reads (num x) s e = absurd (cc)
text_reads (str r) s e = let same : r ≡ s = cc in ap str same
text_reads (list ts) s e = absurd (cc)
text_reads (members ms) s e = absurd (cc)

-- a tree is the string s exactly if `string_of` returns s for it
pub text-given : (t : Tree) (s : List ℕ) → (t ≡ str s) ↔ (string_of t ≡ Some s)
text-given t s = (λ e. ap string_of e, text_reads t s)

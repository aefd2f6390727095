-- A tree means a number exactly if it is the number's leaf.
use Rattle.std.proofs.Common.{◌≡◌, Some, sym, ap}
use Rattle.std.specs.Prelude.{◌↔◌}
use Rattle.miniserde_model.specs.Tree.{Tree, null, truth, nonneg, neg, num, str, list, members}
use Rattle.miniserde_value.specs.declared.json.number.Number.{Number}
use Rattle.miniserde_value.specs.declared.json.number.Number.TheVariants.{U64, I64, Text}
use Rattle.miniserde_value.specs.Numbers.{number_leaf, if_number, ReadsNumber}

number_reads : (t : Tree) (v : Number) → if_number t ≡ Some (number_leaf v) → ReadsNumber t v
number_reads null v e = absurd (cc)
number_reads (truth b) v e = absurd (cc)
number_reads (nonneg n) (U64 m) e = let same : m ≡ n = cc in ap U64 same
number_reads (nonneg n) (I64 z) e = absurd (cc)
number_reads (nonneg n) (Text x) e = absurd (cc)
number_reads (neg z) (U64 m) e = absurd (cc)
number_reads (neg z) (I64 y) e = let same : y ≡ z = cc in ap I64 same
number_reads (neg z) (Text x) e = absurd (cc)
number_reads (num x) (U64 m) e = absurd (cc)
number_reads (num x) (I64 z) e = absurd (cc)
number_reads (num x) (Text y) e = let same : y ≡ x = cc in ap Text same
number_reads (str s) v e = absurd (cc)
number_reads (list ts) v e = absurd (cc)
number_reads (members ms) v e = absurd (cc)

number_meaning : (t : Tree) (v : Number) → ReadsNumber t v → if_number t ≡ Some (number_leaf v)
number_meaning null v e = absurd e
number_meaning (truth b) v e = absurd e
number_meaning (nonneg n) v e = ap (λ (x : Tree). Some x) (ap number_leaf (sym e))
number_meaning (neg z) v e = ap (λ (x : Tree). Some x) (ap number_leaf (sym e))
number_meaning (num x) v e = ap (λ (x : Tree). Some x) (ap number_leaf (sym e))
number_meaning (str s) v e = absurd e
number_meaning (list ts) v e = absurd e
number_meaning (members ms) v e = absurd e

-- a tree means the number v exactly if `if_number` returns the leaf of v for it
pub number-given : (t : Tree) (v : Number) → ReadsNumber t v ↔ (if_number t ≡ Some (number_leaf v))
number-given t v = (number_meaning t v, number_reads t v)

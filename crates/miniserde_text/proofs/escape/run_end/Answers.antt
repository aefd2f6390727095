-- The first special byte behind the front of the text, counted from the whole text's front.
use Rattle.std.proofs.Common.{◌≡◌, ℕ, ◌+◌, ◌<◌, ◌≤◌, true, not, length, drop, get_or, arith, ap, sym, ◌∙◌, length-drop, List}
use Rattle.std.specs.List.{position_or_len}
use Rattle.std.proofs.lemmas.List.{get_or-drop}
use Rattle.std.proofs.lemmas.List.Sums.{prefix_len-le-length, passes_at_first}
use Rattle.miniserde_model.specs.Bytes.{is_special}
use Rattle.miniserde_text.proofs.Plain.{before_first}
use Rattle.miniserde_text.proofs.escape.run_end.Goals as goal

within : (xs : List ℕ) (i : ℕ) → i ≤ length xs → i + position_or_len is_special (drop i xs) ≤ length xs
within xs i h = omega (arith, prefix_len-le-length (λ x. not (is_special x)) (drop i xs), length-drop i xs)

found : (xs : List ℕ) (i : ℕ) → i + position_or_len is_special (drop i xs) < length xs
    → is_special (get_or xs (i + position_or_len is_special (drop i xs)) 0) ≡ true
found xs i h = ap is_special (sym (get_or-drop i xs _ 0)) ∙ passes_at_first is_special (drop i xs) 0 (omega (arith, length-drop i xs))

pub returns-clause-high : goal.returns-clause-high
returns-clause-high c = rw c.special.ensures (within c.args.text.now c.args.from c.requires)

pub returns-clause-plain : goal.returns-clause-plain
returns-clause-plain c = rw c.special.ensures (before_first c.args.text.now c.args.from)

pub returns-clause-found : goal.returns-clause-found
returns-clause-found c = rw c.special.ensures (found c.args.text.now c.args.from)

-- One word that is `--unique` is all the words.
use Rattle.std.proofs.Common.{◌≡◌, ℕ, ◌≤◌, ◌<◌, List, [], ◌∷◌, String, Global, length, map, codes, sym, ap, ◌∙◌, arith}
use Rattle.std.specs.Prelude.{string_bytes, get_or}
use Rattle.std.proofs.lemmas.Slice.Eq.{bytes_eq-Decides}
use Rattle.miniserde_program.proofs.canon.program.Goals as goal

alone : (words : List (String Global)) (word : String Global) (text : List ℕ) → 1 ≤ length words → length words < 2
    → word ≡ get_or words 0 word → string_bytes word ≡ text → map string_bytes words ≡ text ∷ []
alone [] word text l u e t = absurd (omega (arith, l))
alone (w ∷ []) word text l u e t = ap (λ (z : String Global). string_bytes z ∷ []) (sym e) ∙ ap (λ z. z ∷ []) t
alone (w ∷ v ∷ ws) word text l u e t = absurd (omega (arith, u))

pub returns-in-len1-clause-usage : goal.returns-in-len1-clause-usage
returns-in-len1-clause-usage g c =
    λ l n. absurd (n (alone c.args.args.now c.word-item.result (codes "--unique") c.in-len1.len_at_least
    c.in-len1.len_below c.word-item.is
    (sym c.as_str.ensures.value ∙ (bytes_eq-Decides c.as_str.result.now (codes "--unique")).0 (sym c.if-eq.ensures))))

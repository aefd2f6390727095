-- A text is the text of a kept number exactly if reading keeps it and takes it whole. One direction is by
-- `number_takes` (`kept_of`), the other by `number_only` (`kept_read`).
use Rattle.std.proofs.Common.{◌≡◌, ℕ, ◌≤◌, ◌==◌, List, [], length, length-drop, drop, Some, IsTrue, ◌↔◌, false}
use Rattle.std.proofs.Common.{refl, ap, sym, subst, ◌∙◌, arith, eqb-true, eq-eqb}
use Rattle.std.proofs.lemmas.Bool.{true≢false}
use Rattle.std.proofs.lemmas.List.{append-nil, drop_all}
use Rattle.std.specs.Borrow.{Bor}
use Rattle.miniserde_model.specs.Tree.{num}
use Rattle.miniserde_model.specs.Step.{float}
use Rattle.miniserde_model.specs.Number.{IsNumber}
use Rattle.miniserde_text.specs.declared.json.lex.Event.{Event}
use Rattle.miniserde_text.specs.declared.json.lex.Event.TheVariants.{Null, Bool as Truth, Negative, Nonnegative}
use Rattle.miniserde_text.specs.declared.json.lex.Event.TheVariants.{Number, Str, SeqStart, MapStart}
use Rattle.miniserde_text.specs.Lexer.{event_of_token}
use Rattle.miniserde_text.specs.private.Reading.{number_at}
use Rattle.std.proofs.lemmas.Option.{same_Some}
use Rattle.miniserde_text.proofs.Leaves.{event_of, leaf_of_float}
use Rattle.miniserde_text.proofs.Numbers.{number_takes, number_only}

kept_of : (t x : List ℕ) → number_at t ≡ Some (float x, []) → IsNumber t (num t)
kept_of t x h =
    let n = number_takes t (float x) [] h in
    let int : n.number ≡ t = sym (n.text ∙ append-nil n.number) in
    subst (λ b. IsNumber b (num b)) int (n.is_number, leaf_of_float n.number x n.event)

-- a text that is kept as a number is read as the event of that text, and nothing is left
pub kept_read : (t : List ℕ) → IsNumber t (num t) → number_at t ≡ Some (float t, [])
kept_read t n = ap number_at (sym (append-nil t)) ∙ number_only t [] n.0 tt ∙ ap (λ l. Some (event_of l, [])) n.1

-- what reading keeps is a kept text exactly where nothing is left
pub kept_where : (t x : List ℕ) (i : ℕ) → number_at t ≡ Some (float x, drop i t) → i ≤ length t
    → IsTrue (i == length t) ↔ IsNumber t (num t)
kept_where t x i h within = (
  λ e. kept_of t x (h ∙ ap (λ r. Some (float x, r)) (drop_all i t (omega (arith, eqb-true i (length t) e)))),
  λ n.
      let none : drop i t ≡ [] = ap (λ q. q.1) (same_Some _ _ (sym h ∙ kept_read t n)) in
      eq-eqb i (length t) (omega (arith, within, length-drop i t, ap length none)),
)

-- where reading does not keep a text, it is none
pub no_kept : (t : List ℕ) → (IsNumber t (num t) → ⊥) → IsTrue false ↔ IsNumber t (num t)
no_kept t none = (λ e. absurd (true≢false (sym e)), λ n. absurd (none n))

-- a token whose event is a kept number is a `Number`
pub number_of_float : (e : Event) (x : List ℕ) → event_of_token e [] ≡ float x → (y : Bor (List ℕ)) × (e ≡ Number y)
number_of_float Null x h = cc
number_of_float (Truth b) x h = cc
number_of_float (Negative n) x h = cc
number_of_float (Nonnegative n) x h = cc
number_of_float (Number y) x h = (y, refl)
number_of_float (Str t) x h = cc
number_of_float SeqStart x h = cc
number_of_float MapStart x h = cc

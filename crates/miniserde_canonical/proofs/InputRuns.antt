-- Each step of a draft extends its run of the input, flushes it, or begins a new run. The invariant `Wrote` splits
-- the input into a front, the run and the rest, and each lemma moves bytes from one part to the next.
use Rattle.std.proofs.Common.{◌≡◌, ◌≤◌, ◌-◌, ◌+◌, ℕ, ℤ, pos, negsuc, zero, suc, decimal, List, [], ◌∷◌, ◌++◌}
use Rattle.std.proofs.Common.{length, refl, sym, ap, subst, ◌∙◌, append_assoc, append-nil, arith, length-append}
use Rattle.std.proofs.lemmas.Int.{ints}
use Rattle.std.proofs.lemmas.Fmt.{decimal_digit}
use Rattle.miniserde_model.specs.Ascii.{digit_0}
use Rattle.miniserde_model.specs.Tree.{neg, num}
use Rattle.miniserde_model.specs.Compact.{compact, string_text}
use Rattle.miniserde_model.specs.Number.{IsNumber}
use Rattle.miniserde_model.specs.Normal.{norm_neg}
use Rattle.miniserde_model.specs.Tokens.{Token}
use Rattle.miniserde_model.proofs.Accepted.{value_tree, tells}
use Rattle.miniserde_model.proofs.Shortest.{nonneg_text, neg_text}
use Rattle.miniserde_text.specs.Lexer.{event_of_token, text_of}
use Rattle.miniserde_text.specs.declared.json.lex.Event.{Event}
use Rattle.miniserde_text.specs.declared.json.lex.Event.TheVariants as event
use Rattle.miniserde_text.specs.declared.json.lex.Text.{Text}
use Rattle.miniserde_text.specs.declared.json.lex.Text.TheVariants.{Input, Scratch}
use Rattle.miniserde_canonical.specs.declared.draft.Draft.{Draft}
use Rattle.miniserde_canonical.specs.private.EventTokens.{first_token}
use Rattle.miniserde_canonical.specs.private.Plain.{TextSpelled, PartIsToken}
use Rattle.miniserde_canonical.specs.private.States.{State, TokenStep, AddsBytes}
use Rattle.miniserde_canonical.specs.private.SplicedTexts.{part_between}
use Rattle.miniserde_canonical.specs.private.Drafts.{Wrote}
use Rattle.miniserde_canonical.proofs.SplicedTexts.{between_mid}

-- the run goes on
pub wrote_on : {d : Draft} {rest bs : List ℕ} (part rest' : List ℕ) → Wrote d rest bs → rest ≡ part ++ rest' → Wrote d rest' (bs ++ part)
wrote_on {d = d} {rest = rest} part rest' w e =
    let more : w.run ++ rest ≡ (w.run ++ part) ++ rest' = ap (λ z. w.run ++ z) e ∙ sym (append_assoc w.run part rest') in
    record {
      front = w.front;
      run = w.run ++ part;
      input = w.input ∙ ap (λ z. w.front ++ z) more;
      left = w.left ∙ ap length more;
      text = sym (append_assoc d.out.bytes.items w.run part) ∙ ap (λ z. z ++ part) w.text;
    }

-- d' has the input of d and the text `text`, and its run begins where `rest` is left
pub record RunBegins (d d' : Draft) (rest text : List ℕ) : Type 0 where
  pub input : d'.input.now ≡ d.input.now
  pub left : d'.left ≡ length rest
  pub text_is : d'.out.bytes.items ≡ text

-- a new run begins after the part w
pub rewound : {d d' : Draft} {rest rest' bs text : List ℕ} (w : List ℕ) → Wrote d rest bs → rest ≡ w ++ rest'
    → RunBegins d d' rest' text → Wrote d' rest' text
rewound {d' = d'} {rest' = rest'} w t e b = record {
  front = t.front ++ (t.run ++ w);
  run = [];
  input = b.input ∙ t.input ∙ ap (λ z. t.front ++ (t.run ++ z)) e ∙ rejoin t.front t.run w rest';
  left = b.left;
  text = append-nil d'.out.bytes.items ∙ b.text_is;
}
  where
    rejoin : (a b c x : List ℕ) → a ++ (b ++ (c ++ x)) ≡ (a ++ (b ++ c)) ++ x
    rejoin a b c x = simp append_assoc refl

-- From d to d' the bytes of the input from d's run up to that of d' were appended to the text: those from the index
-- `from` up to the index `to`.
pub record Flushes (d d' : Draft) : Type 0 where
  pub piece : List ℕ
  pub from : ℕ
  pub to : ℕ
  pub from_is : from ≡ length d.input.now - d.left
  pub to_is : to ≡ length d.input.now - d'.left
  pub is_part : from ≤ to → to ≤ length d.input.now → piece ≡ part_between from to d.input.now
  pub appended : d'.out.bytes.items ≡ d.out.bytes.items ++ piece
  pub input : d'.input.now ≡ d.input.now

-- after the run up to the `rest` of the input is appended, the text is bs, and a new run begins there
pub flushed : {d d' : Draft} → Flushes d d' → (rest bs : List ℕ) → Wrote d rest bs → d'.left ≡ length rest
    → Wrote d' rest bs × (d'.out.bytes.items ≡ bs)
flushed {d = d} {d' = d'} f = λ rest bs w e.
    let long = ap length w.input ∙ length-append w.front (w.run ++ rest) in
    let tail = length-append w.run rest in
    let from : f.from ≡ length w.front = omega (arith, f.from_is, long, w.left) in
    let to : f.to ≡ f.from + length w.run = omega (arith, f.from_is, f.to_is, long, w.left, tail, e) in
    let within : f.to ≤ length d.input.now = omega (arith, f.to_is) in
    let is : f.piece ≡ w.run = f.is_part (omega (arith, to)) within
    ∙ between_mid f.from f.to w.front _ w.input from to in
    let out : d'.out.bytes.items ≡ bs = f.appended ∙ ap (λ z. d.out.bytes.items ++ z) is ∙ w.text in
    (rewound [] w refl (record { input = f.input; left = e; text_is = out }), out)

-- ---- what stands in the input is what is written

-- unless z is 0, a number text whose leaf is the integer z with a minus is the compact text of `norm_neg z`
pub as_negative : (z : ℤ) (part : List ℕ) → IsNumber part (neg z) → (z ≡ pos 0 → ⊥) → part ≡ compact (norm_neg z)
as_negative (pos zero) part p n = absurd (n refl)
as_negative (pos (suc k)) part p n = let low = (value_tree (neg (pos (suc k))) part p).0 in absurd (omega (arith, ints, low))
as_negative (negsuc k) part p n = sym (neg_text part (negsuc k) p)

-- the token is no string, no number with a minus and no `{`
pub record IsOtherToken (e : Event) : Type 0 where
  pub not_negative : (z : ℤ) → e ≡ event.Negative z → ⊥
  pub not_string : (t : Text) → e ≡ event.Str t → ⊥
  pub not_object : e ≡ event.MapStart → ⊥

-- each step of the token k appends the bytes x
abbrev pub StepAdds : Token → List ℕ → Type 0
StepAdds k x = (s s' : State) → TokenStep k s s' → AddsBytes x s s'

-- the step of a token other than a string, a number with a minus or `{` appends the bytes of the token
pub as_it_is : (e : Event) (scratch part : List ℕ) → IsOtherToken e → PartIsToken e scratch part
    → StepAdds (first_token (event_of_token e scratch)) part
as_it_is event.Null scratch part o p = λ s s' h. subst (λ z. AddsBytes z s s') (sym p.0) h.0
as_it_is (event.Bool b) scratch part o p = λ s s' h. subst (λ z. AddsBytes z s s') (sym p.0) h.0
as_it_is (event.Negative z) scratch part o p = absurd (o.not_negative z refl)
as_it_is (event.Nonnegative k) scratch part o p = λ s s' h. subst (λ z. AddsBytes z s s') (nonneg_text part k p.0) h.0
as_it_is (event.Number x) scratch part o p = λ s s' h. subst (λ z. AddsBytes z s s') (sym (tells part (num x.now) p.0)) h.0
as_it_is (event.Str t) scratch part o p = absurd (o.not_string t refl)
as_it_is event.SeqStart scratch part o p = λ s s' h. subst (λ z. AddsBytes z s s') (sym p.0) h.0
as_it_is event.MapStart scratch part o p = absurd (o.not_object refl)

-- where the run would end
pub run_length : {d : Draft} {rest bs : List ℕ} (at point : ℕ) → Wrote d rest bs → at ≡ length rest
    → point ≡ length d.out.bytes.items + (d.left - at) → point ≡ length bs
run_length {d = d} {rest = rest} at point w e f =
    omega (arith, e, f, w.left, length-append w.run rest, ap length w.text, length-append d.out.bytes.items w.run)

-- the bytes of a string that is borrowed are its compact text
pub string_stands : (t : Text) (scratch part : List ℕ) → (t ≡ Scratch → ⊥) → TextSpelled t part → string_text (text_of t scratch) ≡ part
string_stands (Input x) scratch part n p = sym p
string_stands Scratch scratch part n p = absurd (n refl)

-- the decimal text of 0 is `0`
pub decimal_zero : decimal 0 ≡ digit_0 ∷ []
decimal_zero = decimal_digit 0 (omega arith)

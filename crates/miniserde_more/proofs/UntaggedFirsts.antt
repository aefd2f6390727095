-- The token that begins a value tells the kind of its tree, and so which variant may be read.
use Rattle.std.proofs.Common.{◌≡◌, true, false, ℕ, List, Option, Some, None, refl, sym, ap, ◌∙◌}
use Rattle.std.specs.Prelude.{option_map}
use Rattle.miniserde_model.specs.Tree.{Tree, null, truth, nonneg, neg, num, str, list, members}
use Rattle.miniserde_model.specs.Step.{Step, boolean, string, negative, nonnegative, float, seq, map}
use Rattle.miniserde_model.specs.Step as step
use Rattle.miniserde_text.specs.Lexer.{event_of_token}
use Rattle.miniserde_text.specs.declared.json.lex.Event.{Event}
use Rattle.miniserde_text.specs.declared.json.lex.Event.TheVariants as event
use Rattle.miniserde_read.specs.Rest.{ValueAt, GivesAt, GivesNoneAt}
use Rattle.miniserde_enum.specs.declared.one_of.OneOf.TheVariants.{First, Later}
use Rattle.miniserde_more.specs.Kinds.{ValueKind, Kinds, OfKinds, tree_kind, token_kind, apart}
use Rattle.miniserde_more.specs.Kinds as kind
use Rattle.miniserde_more.specs.Untagged.{first_of, first_content}
use Rattle.miniserde_more.specs.laws.Kinds.{not_in_other}

-- the kind of the values that begin with an event; no value begins with the last three
abbrev event_kind : Step → ValueKind
event_kind step.null = kind.null
event_kind (boolean b) = kind.boolean
event_kind (string s) = kind.string
event_kind (negative z) = kind.number
event_kind (nonnegative n) = kind.number
event_kind (float x) = kind.number
event_kind seq = kind.array
event_kind map = kind.object
event_kind step.element = kind.null
event_kind (step.key k) = kind.null
event_kind step.finish = kind.null

by_event : (t : Tree) (e : Step) (s r : List ℕ) → ValueAt t e s r → tree_kind t ≡ event_kind e
by_event null e s r p = sym (ap event_kind p.0)
by_event (truth b) e s r p = sym (ap event_kind p.0)
by_event (nonneg n) e s r p = sym (ap event_kind p.0)
by_event (neg z) e s r p = sym (ap event_kind p.0)
by_event (num x) e s r p = sym (ap event_kind p.0)
by_event (str x) e s r p = sym (ap event_kind p.0)
by_event (list ts) e s r p = sym (ap event_kind p.0)
by_event (members ms) e s r p = sym (ap event_kind p.0)

of_token : (token : Event) (y : List ℕ) → event_kind (event_of_token token y) ≡ token_kind token
of_token event.Null y = refl
of_token (event.Bool b) y = refl
of_token (event.Negative z) y = refl
of_token (event.Nonnegative n) y = refl
of_token (event.Number x) y = refl
of_token (event.Str t) y = refl
of_token event.SeqStart y = refl
of_token event.MapStart y = refl

-- the tree of a value is of the kind of its first token
pub kind_at : (token : Event) (y : List ℕ) (t : Tree) (s r : List ℕ) → ValueAt t (event_of_token token y) s r
    → tree_kind t ≡ token_kind token
kind_at token y t s r p = by_event t (event_of_token token y) s r p ∙ of_token token y

-- ---- by the kind of the token, the first variant or a later one

module _ {C D : Type 0} (a b : Kinds) (f : Tree → Option C) (g : Tree → Option D) (token : Event) (y : List ℕ) where
  -- what the first variant gives, all of them give
  pub first_given : {s r : List ℕ} {c : C} → GivesAt f (event_of_token token y) s r c
      → GivesAt (first_of f g) (event_of_token token y) s r (First c)
  first_given h = (h.0, h.1, ap (λ o. first_content o (g h.0)) h.2)

  -- if the token is of a kind of the first variant, and that one gives nothing, none does
  pub first_none : {s : List ℕ} → apart a b ≡ true → OfKinds b g → a (token_kind token) ≡ true
      → GivesNoneAt f (event_of_token token y) s → GivesNoneAt (first_of f g) (event_of_token token y) s
  first_none {s} d only i h t r p =
      let k = kind_at token y t s r p in
      let no : b (tree_kind t) ≡ false = ap b k ∙ not_in_other a b d (token_kind token) i in
      rw (h t r p, only.none t no) refl

  -- if the token is of no kind of the first variant, a later one gives what all of them give
  pub later_given : {s r : List ℕ} {d : D} → OfKinds a f → a (token_kind token) ≡ false
      → GivesAt g (event_of_token token y) s r d → GivesAt (first_of f g) (event_of_token token y) s r (Later d)
  later_given {s} {r} only i h =
      let no : a (tree_kind h.0) ≡ false = ap a (kind_at token y h.0 s r h.1) ∙ i in
      (h.0, h.1, rw (only.none h.0 no, h.2) refl)

  pub later_none : {s : List ℕ} → OfKinds a f → a (token_kind token) ≡ false
      → GivesNoneAt g (event_of_token token y) s → GivesNoneAt (first_of f g) (event_of_token token y) s
  later_none {s} only i h t r p =
      let no : a (tree_kind t) ≡ false = ap a (kind_at token y t s r p) ∙ i in
      rw (only.none t no, h t r p) refl

-- The tree of a value is a list only if the first token is `[`, and an object only if it is `{`. By cases of the
-- tree: only a list begins with the event `seq`, and only an object with `map`.
use Rattle.std.proofs.Common.{◌≡◌, ℕ, true, List, Some, None, is_some, refl, sym, ap, ◌∙◌}
use Rattle.miniserde_model.specs.Tree.{Tree, null, truth, nonneg, neg, num, str, list, members}
use Rattle.miniserde_model.specs.Step.{seq, map}
use Rattle.miniserde_text.specs.Lexer.{event_of_token}
use Rattle.miniserde_text.specs.declared.json.lex.Event.{Event}
use Rattle.miniserde_text.specs.declared.json.lex.Event.TheVariants as token
use Rattle.miniserde_read.specs.Rest.{ValueAt}
use Rattle.miniserde_value.specs.Retained.{retained_tree}
use Rattle.miniserde_value.specs.OnlyContainers.{only_list, only_members}

opens_list : (x : Event) (scratch : List ℕ) → event_of_token x scratch ≡ seq → x ≡ token.SeqStart
opens_list token.SeqStart scratch e = refl
opens_list token.MapStart scratch e = absurd (cc)
opens_list token.Null scratch e = absurd (cc)
opens_list (token.Bool b) scratch e = absurd (cc)
opens_list (token.Negative n) scratch e = absurd (cc)
opens_list (token.Nonnegative n) scratch e = absurd (cc)
opens_list (token.Number x) scratch e = absurd (cc)
opens_list (token.Str t) scratch e = absurd (cc)

opens_members : (x : Event) (scratch : List ℕ) → event_of_token x scratch ≡ map → x ≡ token.MapStart
opens_members token.MapStart scratch e = refl
opens_members token.SeqStart scratch e = absurd (cc)
opens_members token.Null scratch e = absurd (cc)
opens_members (token.Bool b) scratch e = absurd (cc)
opens_members (token.Negative n) scratch e = absurd (cc)
opens_members (token.Nonnegative n) scratch e = absurd (cc)
opens_members (token.Number x) scratch e = absurd (cc)
opens_members (token.Str t) scratch e = absurd (cc)

-- if the first token of a value is not `[`, the retained tree is no array
pub no_list : (t : Tree) (x : Event) (scratch s r : List ℕ) → (x ≡ token.SeqStart → ⊥)
    → ValueAt t (event_of_token x scratch) s r → only_list (Some (retained_tree t)) ≡ None
no_list (list ts) x scratch s r n v = absurd (n (opens_list x scratch v.0))
no_list (members ms) x scratch s r n v = refl
no_list null x scratch s r n v = refl
no_list (truth b) x scratch s r n v = refl
no_list (nonneg i) x scratch s r n v = refl
no_list (neg i) x scratch s r n v = refl
no_list (num i) x scratch s r n v = refl
no_list (str i) x scratch s r n v = refl

-- if the first token of a value is not `{`, the retained tree is no object
pub no_members : (t : Tree) (x : Event) (scratch s r : List ℕ) → (x ≡ token.MapStart → ⊥)
    → ValueAt t (event_of_token x scratch) s r → only_members (Some (retained_tree t)) ≡ None
no_members (members ms) x scratch s r n v = absurd (n (opens_members x scratch v.0))
no_members (list ts) x scratch s r n v = refl
no_members null x scratch s r n v = refl
no_members (truth b) x scratch s r n v = refl
no_members (nonneg i) x scratch s r n v = refl
no_members (neg i) x scratch s r n v = refl
no_members (num i) x scratch s r n v = refl
no_members (str i) x scratch s r n v = refl

-- if the first token of a value is `[`, the retained tree is an array
pub is_list : (t : Tree) (x : Event) (scratch s r : List ℕ) → x ≡ token.SeqStart
    → ValueAt t (event_of_token x scratch) s r → is_some (only_list (Some (retained_tree t))) ≡ true
is_list (list ts) x scratch s r e v = refl
is_list null x scratch s r e v = let other = sym (ap (λ y. event_of_token y scratch) e) ∙ v.0 in absurd (cc)
is_list (truth b) x scratch s r e v = let other = sym (ap (λ y. event_of_token y scratch) e) ∙ v.0 in absurd (cc)
is_list (nonneg i) x scratch s r e v = let other = sym (ap (λ y. event_of_token y scratch) e) ∙ v.0 in absurd (cc)
is_list (neg i) x scratch s r e v = let other = sym (ap (λ y. event_of_token y scratch) e) ∙ v.0 in absurd (cc)
is_list (num i) x scratch s r e v = let other = sym (ap (λ y. event_of_token y scratch) e) ∙ v.0 in absurd (cc)
is_list (str i) x scratch s r e v = let other = sym (ap (λ y. event_of_token y scratch) e) ∙ v.0 in absurd (cc)
is_list (members ms) x scratch s r e v = let other = sym (ap (λ y. event_of_token y scratch) e) ∙ v.0 in absurd (cc)

-- if the first token of a value is `{`, the retained tree is an object
pub is_members : (t : Tree) (x : Event) (scratch s r : List ℕ) → x ≡ token.MapStart
    → ValueAt t (event_of_token x scratch) s r → is_some (only_members (Some (retained_tree t))) ≡ true
is_members (members ms) x scratch s r e v = refl
is_members null x scratch s r e v = let other = sym (ap (λ y. event_of_token y scratch) e) ∙ v.0 in absurd (cc)
is_members (truth b) x scratch s r e v = let other = sym (ap (λ y. event_of_token y scratch) e) ∙ v.0 in absurd (cc)
is_members (nonneg i) x scratch s r e v = let other = sym (ap (λ y. event_of_token y scratch) e) ∙ v.0 in absurd (cc)
is_members (neg i) x scratch s r e v = let other = sym (ap (λ y. event_of_token y scratch) e) ∙ v.0 in absurd (cc)
is_members (num i) x scratch s r e v = let other = sym (ap (λ y. event_of_token y scratch) e) ∙ v.0 in absurd (cc)
is_members (str i) x scratch s r e v = let other = sym (ap (λ y. event_of_token y scratch) e) ∙ v.0 in absurd (cc)
is_members (list ts) x scratch s r e v = let other = sym (ap (λ y. event_of_token y scratch) e) ∙ v.0 in absurd (cc)

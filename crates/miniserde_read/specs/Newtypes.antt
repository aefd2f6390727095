-- Newtypes: types that are read and written as the one value in them, if a check accepts it, or as a string.
use Rattle.std.specs.Prelude.{◌≡◌, ℕ, List, Bool, true, Option, Some, None, option_map, option_and_then, refl}
use Rattle.miniserde_model.specs.Tree.{Tree, str}
use Rattle.miniserde_keys.specs.Checks.{if_accepted}
use Rattle.miniserde_read.specs.Meaning.{Meaning, meaning_with}
use Rattle.miniserde_read.specs.laws.Newtypes.{checked-given}

-- the content that a tree gives by `of`, if the check accepts it
abbrev pub checked_of : {C : Type 0} → (C → Bool) → (Tree → Option C) → Tree → Option C
checked_of accepts of t = option_and_then (if_accepted accepts) (of t)

-- The meaning of a newtype, of which `inner` returns the value inside: a tree means it if it means this value by m,
-- and the check accepts the value's content.
abbrev pub checked_meaning : {V W : Type 0} → (m : Meaning V) → (m.Content → Bool) → (W → V) → Meaning W
checked_meaning m accepts inner =
    meaning_with (λ w. m.content (inner w)) (checked_of accepts m.from_tree)
    (λ t w. m.reads t (inner w) × (accepts (m.content (inner w)) ≡ true))
    (λ t w. checked-given accepts (m.from_tree t) (m.reads_agrees t (inner w)))

-- Two meanings of one type are the same up to the type of their contents: each content of n is one of m (`there`), and
-- each value and each tree gives the same.
pub record SameMeaning {V : Type 0} (n m : Meaning V) : Type 0 where
  pub there : n.Content → m.Content
  pub back : m.Content → n.Content
  pub undone : (c : n.Content) → back (there c) ≡ c
  pub content_same : (v : V) → m.content v ≡ there (n.content v)
  pub given_same : (t : Tree) → m.from_tree t ≡ option_map there (n.from_tree t)

itself : {C : Type 0} (o : Option C) → o ≡ option_map (λ c. c) o
itself None = refl
itself (Some c) = refl

-- a meaning is the same as itself
pub same_meaning : {V : Type 0} (m : Meaning V) → SameMeaning m m
same_meaning m = record {
  there = λ c. c;
  back = λ c. c;
  undone = λ c. refl;
  content_same = λ v. refl;
  given_same = λ t. itself (m.from_tree t);
}

-- the content that a string gives by its text
abbrev pub parsed_of : {C : Type 0} → (List ℕ → Option C) → Tree → Option C
parsed_of parsed (str s) = parsed s
parsed_of parsed _ = None

-- the meaning of a type whose values are written as strings: a string means a value of the content that its text is
-- parsed as
abbrev pub text_value_meaning : {V C : Type 0} → (List ℕ → Option C) → (V → C) → Meaning V
text_value_meaning parsed content =
    meaning_with content (parsed_of parsed) (λ t v. parsed_of parsed t ≡ Some (content v)) (λ t v. (λ e. e, λ e. e))

-- The tag, read as a field of its object, gives the same content as the meaning of the enum. By recursion over the
-- members the last tag is the same in both, and the tag and the data have one tree (`value_same`).
use Rattle.std.proofs.Common.{◌≡◌, ℕ, true, false, cond, not, ◌&&◌, List, [], ◌∷◌, Option, Some, None, refl, sym, ap, subst, ◌∙◌}
use Rattle.std.specs.Prelude.{option_map, option_and_then, bytes_eq}
use Rattle.std.specs.Option.{option_or}
use Rattle.miniserde_model.specs.Tree.{Tree, members, Members, no_members, member}
use Rattle.miniserde_model.specs.Step.{map}
use Rattle.miniserde_text.specs.declared.json.lex.Event.{Event}
use Rattle.miniserde_text.specs.declared.json.lex.Event.TheVariants.{MapStart}
use Rattle.miniserde_text.specs.Lexer.{event_of_token}
use Rattle.miniserde_read.specs.types.Objects.{Name, object_of}
use Rattle.miniserde_read.specs.types.Words.{string_of}
use Rattle.miniserde_read.specs.Rest.{ValueAt, GivesAt, GivesNoneAt}
use Rattle.miniserde_read.proofs.Same.{value_same}
use Rattle.miniserde_record.specs.Fields.{content_pair, other_members, last_content, FieldRule, fields_content}
use Rattle.miniserde_record.specs.Structs.{is_new}
use Rattle.miniserde_enum.specs.Inside.{inside_of}
use Rattle.miniserde_enum.specs.Cases.{with_data}
use Rattle.miniserde_enum.specs.CasesMeaning.{CasesMeaning, tagged_content}
use Rattle.miniserde_enum.specs.TagName.{name_among, tag_name_of}
use Rattle.miniserde_enum.specs.laws.Cases.{is-name}

-- a name is known unless it is new
name_among-unless : (names : List Name) (n : Name) → name_among names n ≡ cond (is_new n names) None (Some n)
name_among-unless [] n = refl
name_among-unless (m ∷ ms) n =
    elim (bytes_eq n m) as (λ b. bytes_eq n m ≡ b → cond b (Some m) (name_among ms n) ≡ cond (not b && is_new n ms)
    None (Some n)) [
      | true ↦ λ e. ap Some (sym (is-name n m e))
      | false ↦ λ e. name_among-unless ms n
    ] refl

-- the last member of a name, read through a function g
last-mapped : {C D : Type 0} (of : Tree → Option C) (g : C → D) (n : Name) (d : Option C) (ms : Members)
    → last_content false (λ t. option_map g (of t)) n (option_map g d) ms ≡ option_map (option_map g)
    (last_content false of n d ms)
last-mapped of g n d no_members = refl
last-mapped of g n d (member k t ms) =
    elim (bytes_eq k n) as (λ b.
    cond b (option_and_then (λ c. last_content false (λ t. option_map g (of t)) n (Some c) ms)
    (option_map g (of t))) (last_content false (λ t. option_map g (of t)) n (option_map g d) ms)
    ≡ option_map (option_map g)
    (cond b (option_and_then (λ c. last_content false of n (Some c) ms) (of t)) (last_content false of n d ms))) [
      | true ↦ elim (of t) as (λ o. option_and_then (λ c. last_content false (λ t. option_map g (of t)) n (Some c) ms)
          (option_map g o) ≡ option_map (option_map g)
          (option_and_then (λ c. last_content false of n (Some c) ms) o))
          [ None ↦ refl | Some c ↦ last-mapped of g n (Some c) ms ]
      | false ↦ last-mapped of g n d ms
    ]

-- the tag as the one field of an object
abbrev Tag : Type 0
Tag = Option Name × Unit {0}

-- the content of the tag: the last name of a variant that a member gives
abbrev tag_rule : List Name → FieldRule (Option Name)
tag_rule names = record { once = false; absent = None; of = tag_name_of names }

abbrev tag_field : List Name → Name → Tree → Option Tag
tag_field names tag = object_of (fields_content {S = Unit {0}} (tag_rule names) (λ ns s ms. Some tt) (tag ∷ []) (None, tt))

module _ {V : Type 0} (m : CasesMeaning V) (names : List Name) (tag : Name) where
  -- the content that the data gives by the name, if there is one
  abbrev by_name : Tree → Option Name → Option m.Content
  by_name t o = option_and_then (λ n. m.content_by_name names n (Some t)) o

  -- the content that the other members give by the name, if there is one
  abbrev by_tag : Tree → Option Name → Option m.Content
  by_tag t o = option_and_then (λ n. inside_of tag (with_data (m.content_by_name names n)) t) o

  -- no name that is not known gives anything
  by-name_among : (n : Name) (t : Tree) → m.content_by_name names n (Some t) ≡ by_name t (name_among names n)
  by-name_among n t = rw (name_among-unless names n)
      (elim (is_new n names) as (λ b. is_new n names ≡ b
      → m.content_by_name names n (Some t) ≡ by_name t (cond b None (Some n)))
      [ true ↦ m.fresh names n (Some t) | false ↦ λ e. refl ] refl)

  -- the last string of the tag's name, as the text and as a known name
  by-last : (t : Tree) (o : Option (Option Name))
      → option_and_then (λ (v : Name × Option Tree). m.content_by_name names v.0 v.1)
      (option_map (λ n. (n, Some t)) (option_and_then (λ o. o) o)) ≡ option_and_then (λ (v : Tag). by_name t v.0)
      (option_and_then (λ o. option_and_then (content_pair (Some tt)) (option_or o None))
      (option_map (option_map (name_among names)) o))
  by-last t None = refl
  by-last t (Some None) = refl
  by-last t (Some (Some n)) = by-name_among n t

  -- the tag's text gives what the tag's field does
  by-field : (t : Tree) → tagged_content m tag names t ≡ option_and_then (λ v. by_tag t v.0) (tag_field names tag t)
  by-field (members ms) = rw (last-mapped string_of (name_among names) tag None ms)
      (by-last (members (other_members tag ms)) (last_content false string_of tag None ms))
  by-field t = refl

  -- the tag and the data are read of one text, and so of one tree
  module _ {token : Event} (x y : List ℕ) {s z : List ℕ} (is : token ≡ MapStart) (rest : z ≡ s) where
    pub tag_read : {w : List ℕ} {k o : Option Name} → k ≡ o → GivesAt (tag_field names tag) (event_of_token token y)
        z w (k, tt) → (t : Tree) (r : List ℕ) → ValueAt t (event_of_token token x) s r
        → tagged_content m tag names t ≡ by_tag t o
    tag_read {w} e g t r p =
        let there : ValueAt t map s r = subst (λ e. ValueAt t (event_of_token e x) s r) is p in
        let ahead : ValueAt g.0 map s w =
        subst (λ a. ValueAt g.0 map a w) rest (subst (λ e. ValueAt g.0 (event_of_token e y) z w) is g.1) in
        let same = (value_same t g.0 map s r w there ahead).0 in
        by-field t ∙ ap (option_and_then (λ v. by_tag t v.0)) (ap (tag_field names tag) same ∙ g.2) ∙ ap (by_tag t) e

    pub tag_none : GivesNoneAt (tag_field names tag) (event_of_token token y) z
        → GivesNoneAt (tagged_content m tag names) (event_of_token token x) s
    tag_none g t r p =
        let there : ValueAt t map s r = subst (λ e. ValueAt t (event_of_token e x) s r) is p in
        let ahead : ValueAt t (event_of_token token y) z r =
        subst (λ e. ValueAt t (event_of_token e y) z r) (sym is)
        (subst (λ a. ValueAt t map a r) (sym rest) there) in
        by-field t ∙ ap (option_and_then (λ v. by_tag t v.0)) (g t r ahead)

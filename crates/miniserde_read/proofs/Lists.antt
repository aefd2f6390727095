-- While a list is read child by child, the items so far with those of the remaining children are the items of the
-- whole list. `ListGoes` is this invariant: `list_begins` establishes it, `list_goes` carries it over one child, and
-- `closed_list_gives` uses it where the loop ends. A loop that takes the next bracket or comma ahead keeps `ListNext`.
use Rattle.std.proofs.Common.{◌≡◌, ℕ, Bool, true, false, List, [], ◌∷◌, ◌++◌, map, Option, Some, None, refl, ap}
use Rattle.std.proofs.Common.{subst, ◌∙◌, append-nil, append_assoc, arith}
use Rattle.std.specs.Prelude.{option_and_then, option_map}
use Rattle.std.proofs.lemmas.List.{map-append}
use Rattle.miniserde_model.specs.Tree.{Tree, list, Trees, no_trees, tree}
use Rattle.miniserde_model.specs.Step.{seq}
use Rattle.miniserde_model.specs.Lexing.{Follows}
use Rattle.miniserde_model.specs.declared.kind.Kind.TheVariants.{Seq}
use Rattle.miniserde_text.specs.Lexer.{event_of_token}
use Rattle.miniserde_text.specs.declared.json.lex.Event.{Event}
use Rattle.miniserde_text.specs.declared.json.lex.Event.TheVariants.{SeqStart}
use Rattle.miniserde_read.specs.Due.{ReadsDue, RejectsDue, NextElement}
use Rattle.miniserde_read.specs.Meaning.{Meaning}
use Rattle.miniserde_read.specs.types.Lists.{each}
use Rattle.miniserde_read.specs.Rest.{ValueAt, ElementsAt, GivesNoneAt}
use Rattle.miniserde_read.proofs.Due.{element_rejects}
use Rattle.miniserde_read.proofs.Same.{value_same, tag, first_event, value_event}
use Rattle.miniserde_read.proofs.Steps.{elements_follow, elements_there, elements_close}

-- The list began with the text `begin` behind its bracket. What is left, s, goes on as some elements exactly where the
-- whole goes on from the beginning, and the whole gives the contents of the items and then those of the elements left.
pub record ListGoes {V : Type 0} (m : Meaning V) (begin : List ℕ) (first : Bool) (s : List ℕ) (items : List V) : Type 0 where
  pub on : (us : Trees) (r : List ℕ) → ElementsAt us first s r → (ts : Trees) × ElementsAt ts true begin r
      × (each m.from_tree ts ≡ option_map (λ xs. map m.content items ++ xs) (each m.from_tree us))
  pub back : (ts : Trees) (r : List ℕ) → ElementsAt ts true begin r → (us : Trees) × ElementsAt us first s r
      × (each m.from_tree ts ≡ option_map (λ xs. map m.content items ++ xs) (each m.from_tree us))

-- The list began with the text `begin` behind its bracket, and gave the items. Then its closing bracket was taken, if
-- `close` is true, or what stands before its next element; s is left.
pub record ListNext {V : Type 0} (m : Meaning V) (begin : List ℕ) (close : Bool) (s : List ℕ) (items : List V) : Type 0 where
  pub first : Bool
  pub before : List ℕ
  pub goes : ListGoes m begin first before items
  pub follows : Follows Seq first close before s

-- what begins with `[` is a list
opened_list : (t : Tree) (s r : List ℕ) → ValueAt t seq s r → (ts : Trees) × (t ≡ list ts) × ElementsAt ts true s r
opened_list (list ts) s r p = (ts, refl, p.1)
opened_list t s r p = let k : 6 ≡ tag (first_event t) = ap tag (value_event t seq s r p) in absurd (omega (arith, k))

-- what no list gives, no text that begins with `[` gives
pub list_rejects : {R : Type 0} (of : Tree → Option R) (e : Event) (x s : List ℕ) → e ≡ SeqStart
    → ((ts : Trees) (r : List ℕ) → ElementsAt ts true s r → of (list ts) ≡ None) → GivesNoneAt of (event_of_token e x) s
list_rejects of e x s i n t r p =
    let o = opened_list t s r (subst (λ z. ValueAt t (event_of_token z x) s r) i p) in
    ap of o.1 ∙ n o.0 r o.2

module _ {V : Type 0} (m : Meaning V) where
  -- the contents of the items and then those that the elements us give, if each gives one
  abbrev with : List V → Trees → Option (List m.Content)
  with items us = option_map (λ xs. map m.content items ++ xs) (each m.from_tree us)

  all_left : (us : Trees) → each m.from_tree us ≡ with [] us
  all_left us = elim (each m.from_tree us) as (λ o. o ≡ option_map (λ xs. xs) o) [ None ↦ refl | Some xs ↦ refl ]

  one_more : (items : List V) (v : V) (t : Tree) (us : Trees) → m.from_tree t ≡ Some (m.content v)
      → with items (tree t us) ≡ with (items ++ v ∷ []) us
  one_more items v t us e = rw (e, map-append m.content items (v ∷ [])) (elim (each m.from_tree us)
      as (λ o. option_map (λ xs. map m.content items ++ xs) (option_and_then (λ xs. Some (m.content v ∷ xs)) o)
      ≡ option_map (λ xs. (map m.content items ++ m.content v ∷ []) ++ xs) o)
      [ None ↦ refl | Some xs ↦ simp append_assoc ])

  none_more : (items : List V) (t : Tree) (us : Trees) → m.from_tree t ≡ None → with items (tree t us) ≡ None
  none_more items t us e = rw e refl

  pub list_begins : (begin : List ℕ) → ListGoes m begin true begin []
  list_begins begin = record { on = λ us r p. (us, p, all_left us); back = λ ts r p. (ts, p, all_left ts) }

module _ {V : Type 0} {m : Meaning V} {begin : List ℕ} where
  pub list_goes : {f : Bool} {s d : List ℕ} {items : List V} {v : V} → ListGoes m begin f s items
      → NextElement m f s d (Some v) → ListGoes m begin false d (items ++ v ∷ [])
  list_goes {f} {s} {d} {items} {v} g h =
      let k = h.2 in
      record {
        on = λ us r p.
            let a = g.on (tree k.one us) r
            (record {
              begin = h.0;
              event = k.event;
              behind = k.behind;
              rest = d;
              follows = h.1;
              starts = k.starts;
              is_value = k.is_value;
              is_rest = p;
            }) in
            (a.0, a.1, a.2 ∙ one_more m items v k.one us k.gives);
        back = λ ts r p.
            let a = g.back ts r p in
            let u = elements_there a.0 f s k.event h.1 k.starts a.1 in
            let same = value_same u.one k.one k.event k.behind u.rest d u.is_value k.is_value in (
              u.more,
              subst (λ z. ElementsAt u.more false z r) same.1 u.is_rest,
              a.2 ∙ ap (with m items) (u.is ∙ ap (λ z. tree z u.more) same.0) ∙ one_more m items v k.one u.more k.gives,
            );
      }

  -- If the closing bracket is next, with b behind it, then from `begin` to b stand the children ts and the bracket, and
  -- ts give the contents of the items that were read.
  pub closed_list_gives : {f : Bool} {s : List ℕ} {items : List V} (b : List ℕ) → ListGoes m begin f s items → Follows Seq f true s b
      → (ts : Trees) × ElementsAt ts true begin b × (each m.from_tree ts ≡ Some (map m.content items))
  closed_list_gives {items = items} b g h =
      let a = g.on no_trees b h in
      (a.0, a.1, a.2 ∙ ap Some (append-nil (map m.content items)))

  -- and any children that `begin` spells up to a closing bracket give these contents
  pub closed_list_gives_no_other : {f : Bool} {s : List ℕ} {items : List V} (b : List ℕ) → ListGoes m begin f s items
      → Follows Seq f true s b → (ts : Trees) (r : List ℕ) → ElementsAt ts true begin r → each m.from_tree ts ≡ Some (map m.content items)
  closed_list_gives_no_other {f} {s} {items} b g h ts r p =
      let a = g.back ts r p in
      a.2 ∙ ap (with m items) (elements_close a.0 f s b r h a.1).0 ∙ ap Some (append-nil (map m.content items))

  -- neither the closing bracket nor an element is next
  pub no_list_follows : {f : Bool} {s : List ℕ} {items : List V} → ListGoes m begin f s items
      → ((a : Bool) (b : List ℕ) → Follows Seq f a s b → ⊥) → (ts : Trees) (r : List ℕ) → ElementsAt ts true begin r
      → each m.from_tree ts ≡ None
  no_list_follows {f} {s} g n ts r p =
      let a = g.back ts r p in
      let b = elements_follow a.0 f s r a.1 in absurd (n b.0 b.1 b.2)

  -- the element that is next means a value
  pub next_goes : {s d : List ℕ} {items : List V} {v : V} → ListNext m begin false s items → ReadsDue m.from_tree s d (m.content v)
      → ListGoes m begin false d (items ++ v ∷ [])
  next_goes {s} g p = list_goes g.goes (s, g.follows, p)

  -- the element that is next means no value
  pub next_none : {s : List ℕ} {items : List V} → ListNext m begin false s items → RejectsDue m.from_tree s
      → (ts : Trees) (r : List ℕ) → ElementsAt ts true begin r → each m.from_tree ts ≡ None
  next_none {s} {items} g n ts r p =
      let a = g.goes.back ts r p in
      let b = element_rejects m.from_tree g.first g.before s g.follows n a.0 r a.1 in
      a.2 ∙ ap (with m items) b.2 ∙ none_more m items b.0 b.1 b.3

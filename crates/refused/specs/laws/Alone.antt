-- Whether a field gives a content by itself, by the trees of the members of its name (`alone-fits`, `fits-alone`). So it
-- depends on these alone (`alone-depends`), and follows if each tree's content does (`alone-both`).
use Rattle.std.proofs.Common.{◌≡◌, Bool, true, false, ◌&&◌, cond, List, [], ◌∷◌, Option, Some, None, ◌⊎◌, inl, inr}
use Rattle.std.proofs.Common.{refl, sym, ap, subst, ◌∙◌, true≢false}
use Rattle.std.specs.Prelude.{IsSome, bytes_eq, is_some, option_and_then, option_map, ⊤}
use Rattle.std.specs.Option.{option_or}
use Rattle.miniserde.specs.Tree.{Tree, null, members, Members, no_members, member}
use Rattle.miniserde.specs.Objects.{Name}
use Rattle.miniserde.specs.Options.{option_of}
use Rattle.miniserde.specs.Fields.{content_pair, FieldRule, last_content}
use Rattle.refused.specs.Agree.{AgreeAt, Pairwise, trees_named}
use Rattle.refused.specs.Ways.{DependsAt}
use Rattle.refused.specs.Wrong.{alone, any_number, first_alone, name_or_empty}

pub none-some : {C : Type 0} (o : Option C) → o ≡ None → IsSome o → ⊥
none-some o n s = true≢false (sym s ∙ ap is_some n)

map-some : {C D : Type 0} (f : C → D) (o : Option C) → IsSome (option_map f o) → IsSome o
map-some f None s = s
map-some f (Some x) s = refl

some-map : {C D : Type 0} (f : C → D) (o : Option C) → IsSome o → IsSome (option_map f o)
some-map f None s = s
some-map f (Some x) s = refl

-- P holds of each tree, and if `once` is true, there is at most one. `has` says whether one stood before them. If there
-- is none at all, `Absent` holds.
abbrev pub Fits : Bool → (Tree → Type 0) → Type 0 → Bool → List Tree → Type 0
Fits once P Absent false [] = Absent
Fits once P Absent true [] = ⊤
Fits once P Absent has (t ∷ ts) = ((once && has) ≡ false) × P t × Fits once P Absent true ts

-- the trees of the members of the first name, if there is one
abbrev pub trees_of : List Name → Members → List Tree
trees_of [] ms = []
trees_of (n ∷ ns) ms = trees_named n ms

-- the content of a field by itself, by that of the last member of its name
abbrev pub ends : {C : Type 0} → Option C → Option (Option C) → Option (C × Unit {0})
ends absent o = option_and_then (λ o. option_and_then (content_pair (Some (tt {0}))) (option_or o absent)) o

module _ {C : Type 0} (rule : FieldRule C) where
  -- what the members give of the name, after the content d
  abbrev last : Name → Option C → Members → Option (Option C)
  last n d ms = last_content rule.once rule.of n d ms

  -- the trees fit the rule; the first argument says whether one stood before them
  abbrev AllFit : Bool → List Tree → Type 0
  AllFit has ts = Fits rule.once (λ t. IsSome (rule.of t)) (IsSome rule.absent) has ts

  pair-some : (c : Option C) → IsSome (option_and_then (content_pair (Some (tt {0}))) c) → IsSome c
  pair-some None h = h
  pair-some (Some x) h = refl

  some-pair : (c : Option C) → IsSome c → IsSome (option_and_then (content_pair (Some (tt {0}))) c)
  some-pair None h = h
  some-pair (Some x) h = refl

  -- the trees of one name give a content exactly if they fit
  fits-last : (n : Name) (d : Option C) (ms : Members) → IsSome (ends rule.absent (last n d ms))
      → AllFit (is_some d) (trees_named n ms)
  fits-last n None no_members h = pair-some rule.absent h
  fits-last n (Some d) no_members h = tt
  fits-last n d (member k t ms) h =
      elim (bytes_eq k n) as (λ b. IsSome (ends rule.absent (cond b (cond (rule.once && is_some d) None
      (option_and_then (λ c. last n (Some c) ms) (rule.of t))) (last n d ms)))
      → AllFit (is_some d) (cond b (t ∷ trees_named n ms) (trees_named n ms))) [
        | true ↦ elim (rule.once && is_some d) as (λ b. IsSome (ends rule.absent (cond b None
            (option_and_then (λ c. last n (Some c) ms) (rule.of t))))
            → (b ≡ false) × IsSome (rule.of t) × AllFit true (trees_named n ms)) [
              | true ↦ λ h. absurd (none-some {C = C × Unit {0}} None refl h)
              | false ↦ elim (rule.of t) as (λ o. IsSome (ends rule.absent (option_and_then (λ c. last n (Some c) ms) o))
                  → (false ≡ false) × IsSome o × AllFit true (trees_named n ms)) [
                    | None ↦ λ h. absurd (none-some {C = C × Unit {0}} None refl h)
                    | Some c ↦ λ h. (refl, refl, fits-last n (Some c) ms h)
                  ]
            ]
        | false ↦ fits-last n d ms
      ] h

  last-fits : (n : Name) (d : Option C) (ms : Members)
      → AllFit (is_some d) (trees_named n ms)
      → IsSome (ends rule.absent (last n d ms))
  last-fits n None no_members h = some-pair rule.absent h
  last-fits n (Some d) no_members h = refl
  last-fits n d (member k t ms) h =
      elim (bytes_eq k n) as (λ b.
      AllFit (is_some d) (cond b (t ∷ trees_named n ms) (trees_named n ms))
      → IsSome (ends rule.absent (cond b (cond (rule.once && is_some d) None
      (option_and_then (λ c. last n (Some c) ms) (rule.of t))) (last n d ms)))) [
        | true ↦ elim (rule.once && is_some d) as (λ b.
            (b ≡ false) × IsSome (rule.of t) × AllFit true (trees_named n ms)
            → IsSome (ends rule.absent (cond b None (option_and_then (λ c. last n (Some c) ms) (rule.of t))))) [
              | true ↦ λ h. absurd (true≢false h.0)
              | false ↦ elim (rule.of t) as (λ o.
                  (false ≡ false) × IsSome o × AllFit true (trees_named n ms)
                  → IsSome (ends rule.absent (option_and_then (λ c. last n (Some c) ms) o))) [
                    | None ↦ λ h. absurd (none-some {C = C} None refl h.1)
                    | Some c ↦ λ h. last-fits n (Some c) ms h.2
                  ]
            ]
        | false ↦ last-fits n d ms
      ] h

  alone-fits : (names : List Name) (ms : Members) → IsSome (alone rule (first_alone names) (members ms))
      → AllFit false (trees_of names ms)
  alone-fits [] ms h = pair-some rule.absent h
  alone-fits (n ∷ ns) ms h = fits-last n None ms h

  fits-alone : (names : List Name) (ms : Members)
      → AllFit false (trees_of names ms)
      → IsSome (alone rule (first_alone names) (members ms))
  fits-alone [] ms h = some-pair rule.absent h
  fits-alone (n ∷ ns) ms h = last-fits n None ms h

module _ {P Q R : Tree → Type 0} {A B D : Type 0} (once twice : Bool) (pass : (t : Tree) → P t → Q t → R t) (lack : A → B → D) where
  fits-both : (has : Bool) (ts : List Tree) → Fits once P A has ts → Fits twice Q B has ts → Fits false R D has ts
  fits-both false [] p q = lack p q
  fits-both true [] p q = tt
  fits-both has (t ∷ ts) p q = (refl, pass t p.1 q.1, fits-both true ts p.2 q.2)

-- what gives a content by two rules gives one by the third
pub record GivesAsBoth {C D E : Type 0} (one : FieldRule C) (two : FieldRule D) (to : FieldRule E) : Type 0 where
  -- any number of members may have the name
  pub many : to.once ≡ false
  -- a tree does
  pub tree : (t : Tree) → IsSome (one.of t) → IsSome (two.of t) → IsSome (to.of t)
  -- a missing field does
  pub absent : IsSome one.absent → IsSome two.absent → IsSome to.absent

-- a field gives a content by a rule if it does by two others and each tree and a missing field follow (`GivesAsBoth`)
pub alone-both : {C D E : Type 0} {one : FieldRule C} {two : FieldRule D} {to : FieldRule E} → GivesAsBoth one two to
    → (names : List Name) (t : Tree) → IsSome (alone one (first_alone names) t) → IsSome (alone two (first_alone names) t)
    → IsSome (alone to (first_alone names) t)
alone-both {one = one} {two = two} {to = to} as_both names (members ms) p q =
    fits-alone to names ms
    (rw as_both.many (fits-both one.once two.once as_both.tree as_both.absent false (trees_of names ms)
    (alone-fits one names ms p) (alone-fits two names ms q)))
alone-both {C = C} as_both names t p q = absurd (none-some {C = C × Unit {0}} None refl p)

module _ {P : Tree → Type 0} {R : Tree → Tree → Type 0} (A : Type 0) (once : Bool) (pass : (t u : Tree) → R t u → P t → P u) where
  fits-pairwise : (has : Bool) (ts us : List Tree) → Pairwise R ts us → Fits once P A has ts → Fits once P A has us
  fits-pairwise has [] [] r p = p
  fits-pairwise has [] (u ∷ us) r p = absurd r
  fits-pairwise has (t ∷ ts) [] r p = absurd r
  fits-pairwise has (t ∷ ts) (u ∷ us) r p = (p.0, pass t u r.0 p.1, fits-pairwise true ts us r.1 p.2)

-- members that agree at the first name have it in trees that agree pairwise
of-first : (names rest : List Name) (ms ls : Members)
    → Pairwise (AgreeAt rest) (trees_named (name_or_empty names) ms) (trees_named (name_or_empty names) ls)
    → Pairwise (AgreeAt rest) (trees_of names ms) (trees_of names ls)
of-first [] rest ms ls p = tt
of-first (n ∷ ns) rest ms ls p = p

-- what a field gives depends on the members of its name, as what it gives of their trees depends on them
pub alone-depends : {C : Type 0} (rule : FieldRule C) (names rest : List Name) → DependsAt rule.of rest
    → DependsAt (alone rule (first_alone names)) (name_or_empty names ∷ rest)
alone-depends rule names rest d t u (inl e) s = subst (λ t. IsSome (alone rule (first_alone names) t)) e s
alone-depends rule names rest d t u (inr (ms, ls, e, f, p)) s =
    let o = subst (λ t. IsSome (alone rule (first_alone names) t)) e s in
    subst (λ t. IsSome (alone rule (first_alone names) t)) (sym f)
    (fits-alone rule names ls (fits-pairwise (IsSome rule.absent) rule.once d false (trees_of names ms) (trees_of names ls)
    (of-first names rest ms ls p) (alone-fits rule names ms o)))

option-cases : {C : Type 0} (of : Tree → Option C) (t : Tree) → IsSome (option_of of t) → (t ≡ null) ⊎ IsSome (of t)
option-cases of null s = inl refl
option-cases of t s = inr (map-some Some (of t) s)

some-option : {C : Type 0} (of : Tree → Option C) (t : Tree) → IsSome (of t) → IsSome (option_of of t)
some-option of null s = refl
some-option of t s = some-map Some (of t) s

-- what content members give an optional field without marks
abbrev pub optional_rule : {C : Type 0} → (Tree → Option C) → FieldRule (Option C)
optional_rule of = any_number (Some None) (option_of of)

-- an optional field gives a content by h if it does by f and g, if a tree does: it does too if the tree is null
pub option-both : {C D E : Type 0} (f : Tree → Option C) (g : Tree → Option D) (h : Tree → Option E)
    → ((t : Tree) → IsSome (f t) → IsSome (g t) → IsSome (h t)) → GivesAsBoth (optional_rule f) (optional_rule g) (optional_rule h)
option-both f g h pass = record {
  many = refl;
  tree = λ t p q. elim (option-cases f t p) as (λ _. IsSome (option_of h t)) [
    | inl e ↦ subst (λ t. IsSome (option_of h t)) (sym e) refl
    | inr a ↦ elim (option-cases g t q) as (λ _. IsSome (option_of h t)) [
      | inl e ↦ subst (λ t. IsSome (option_of h t)) (sym e) refl
      | inr b ↦ some-option h t (pass t a b)
    ]
  ];
  absent = λ p q. refl;
}

abbrev is_null : Tree → Bool
is_null null = true
is_null _ = false

null-agrees : (path : List Name) (u : Tree) → AgreeAt path null u → null ≡ u
null-agrees [] u a = a
null-agrees (n ∷ ns) u (inl e) = e
null-agrees (n ∷ ns) u (inr (ms, ls, e, f, p)) = absurd (true≢false (ap is_null e))

-- an optional value depends on what the value inside depends on
pub option-depends : {C : Type 0} (of : Tree → Option C) (path : List Name) → DependsAt of path → DependsAt (option_of of) path
option-depends of path d t u a s =
    elim (option-cases of t s) as (λ _. IsSome (option_of of u)) [
      | inl e ↦ subst (λ u. IsSome (option_of of u)) (null-agrees path u (subst (λ t. AgreeAt path t u) e a)) refl
      | inr i ↦ some-option of u (d t u a i)
    ]

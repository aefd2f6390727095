-- Members of the names, and members of other names behind them: each part is found again (`other_part`, `own_part`), and
-- fields of some of the names look only at the first (`reads_open`). The entries that are kept have other names (`none_kept`).
use Rattle.std.proofs.Common.{◌≡◌, suc, ◌&&◌, true, false, cond, ◌||◌, List, [], ◌∷◌, ◌++◌, Option, Some, None}
use Rattle.std.proofs.Common.{refl, sym, ap, ◌∙◌, true≢false}
use Rattle.std.specs.Prelude.{◌↔◌, ⊤, bytes_eq, option_and_then}
use Rattle.std.specs.Map.{keys_of}
use Rattle.std.specs.List.{AllByRecursion}
use Rattle.std.specs.List.Sorted.{IsStrictlySortedBy}
use Rattle.std.specs.declared.cmp.Ordering.{Ordering}
use Rattle.std.specs.declared.cmp.Ordering.TheVariants.{Less}
use Rattle.miniserde_model.specs.Tree.{Tree, members, Members, no_members, member}
use Rattle.miniserde_read.specs.types.Objects.{Name, after_members}
use Rattle.miniserde_read.specs.types.Maps.{first_and_last, first_and_last_at, entry_at, EntryFits, MapReads}
use Rattle.miniserde_read.proofs.Entries.{equal_if_tested}
use Rattle.miniserde_ser.specs.Trees.{members_of}
use Rattle.miniserde_record.specs.Fields.{count_named}
use Rattle.miniserde_record.specs.FieldsMeaning.{FieldsMeaning}
use Rattle.miniserde_record.specs.Marks.{is_among}
use Rattle.miniserde_record.specs.Structs.{is_new, with_names}
use Rattle.miniserde_record.proofs.Names.{same, both, count_new}
use Rattle.miniserde_more.specs.Rest.{others, kept, members_then, name_keys}
use Rattle.miniserde_more.specs.RestMeaning.{IsOpen}
use Rattle.miniserde_more.proofs.RestKept.{kept-at}
use Rattle.miniserde_more.proofs.RestTaken.{front}

module _ (ns : List Name) where
  -- the members of the names
  abbrev pub own : Members → Members
  own no_members = no_members
  own (member k t ms) = cond (is_among ns k) (member k t (own ms)) (own ms)

  -- each member has one of the names
  abbrev pub AllOwn : Members → Type 0
  AllOwn no_members = ⊤
  AllOwn (member k t ms) = (is_among ns k ≡ true) × AllOwn ms

  -- no member has one of the names
  abbrev pub NoneOwn : Members → Type 0
  NoneOwn no_members = ⊤
  NoneOwn (member k t ms) = (is_among ns k ≡ false) × NoneOwn ms

  others_none : (rs : Members) → NoneOwn rs → others ns rs ≡ rs
  others_none no_members h = refl
  others_none (member k t rs) h = rw h.0 (ap (member k t) (others_none rs h.1))

  own_none : (rs : Members) → NoneOwn rs → own rs ≡ no_members
  own_none no_members h = refl
  own_none (member k t rs) h = rw h.0 (own_none rs h.1)

  -- behind members of the names the others are what is no member of the names
  pub other_part : (fs rs : Members) → AllOwn fs → NoneOwn rs → others ns (members_then fs rs) ≡ rs
  other_part no_members rs a n = others_none rs n
  other_part (member k t fs) rs a n = rw a.0 (other_part fs rs a.1 n)

  -- and the members of the names are those in front
  pub own_part : (fs rs : Members) → AllOwn fs → NoneOwn rs → own (members_then fs rs) ≡ fs
  own_part no_members rs a n = own_none rs n
  own_part (member k t fs) rs a n = rw a.0 (ap (member k t) (own_part fs rs a.1 n))

  -- members of some of the names
  pub all_of_names : (names : List Name) (ts : List (Option Tree)) → ((k : Name) → is_among names k ≡ true → is_among ns k ≡ true)
      → AllOwn (with_names names ts)
  all_of_names [] ts h = tt
  all_of_names (n ∷ names) [] h = tt
  all_of_names (n ∷ names) (None ∷ ts) h = all_of_names names ts (λ k e. h k (later n names k e))
    where
      later : (n : Name) (names : List Name) (k : Name) → is_among names k ≡ true → is_among (n ∷ names) k ≡ true
      later n names k e = elim (bytes_eq k n) as (λ b. (b || is_among names k) ≡ true) [ true ↦ refl | false ↦ e ]
  all_of_names (n ∷ names) (Some t ∷ ts) h = (h n (rw (same n) refl), all_of_names names ts (λ k e. h k (later n names k e)))
    where
      later : (n : Name) (names : List Name) (k : Name) → is_among names k ≡ true → is_among (n ∷ names) k ≡ true
      later n names k e = elim (bytes_eq k n) as (λ b. (b || is_among names k) ≡ true) [ true ↦ refl | false ↦ e ]

  -- ---- fields of some of the names

  module _ {S : Type 0} (next : S → Name → Tree → Option S)
      (skips : (s : S) (k : Name) (t : Tree) → is_among ns k ≡ false → next s k t ≡ Some s) where
    skip : (s : S) (rs : Members) → NoneOwn rs → after_members next s rs ≡ Some s
    skip s no_members n = refl
    skip s (member k t rs) n = rw (skips s k t n.0) (skip s rs n.1)

    after_then : (s : S) (fs rs : Members) → NoneOwn rs → after_members next s (members_then fs rs) ≡ after_members next s fs
    after_then s no_members rs n = skip s rs n
    after_then s (member k t fs) rs n = elim (next s k t)
        as (λ o. option_and_then (λ r. after_members next r (members_then fs rs)) o ≡ option_and_then (λ r. after_members next r fs) o)
        [ None ↦ refl | Some r ↦ after_then r fs rs n ]

  pub reads_open : {W : Type 0} (n : FieldsMeaning W) → IsOpen n → (names : List Name)
      → ((k : Name) → is_among ns k ≡ false → is_among names k ≡ false) → (fs rs : Members) (v : W) → NoneOwn rs
      → n.reads [] names (members_then fs rs) v ↔ n.reads [] names fs v
  reads_open n open_n names within fs rs v none =
      let e : n.from_members names n.empty (members_then fs rs) ≡ n.from_members names n.empty fs =
      sym (n.members_agree names n.empty (members_then fs rs))
      ∙ ap (option_and_then n.end) (after_then (n.next_state names) (λ s k t h. open_n names s k t (within k h)) n.empty fs rs none)
      ∙ n.members_agree names n.empty fs in
      let all = n.reads_agrees [] names (members_then fs rs) v in
      let front = n.reads_agrees [] names fs v in
      (λ h. front.1 (sym e ∙ all.0 h), λ h. all.1 (e ∙ front.0 h))

  -- ---- entries

  module _ {K V : Type 0} (text : K → Name) (f : V → Tree) where
    pub none_kept : (es : List (K × V)) → NoneOwn (members_of text f (kept text ns es))
    none_kept [] = tt
    none_kept (e ∷ es) =
        elim (is_among ns (text e.0)) as (λ b. is_among ns (text e.0) ≡ b
        → NoneOwn (members_of text f (cond b (kept text ns es) (e ∷ kept text ns es))))
        [ true ↦ λ b. none_kept es | false ↦ λ b. (b, none_kept es) ] refl

  module _ {K V : Type 0} (text : K → Name) where
    -- what holds of all entries holds of those that are kept
    pub kept_all : (P : K × V → Type 0) (es : List (K × V)) → AllByRecursion P es → AllByRecursion P (kept text ns es)
    kept_all P [] h = tt
    kept_all P (e ∷ es) h =
        elim (is_among ns (text e.0)) as (λ b. AllByRecursion P (cond b (kept text ns es) (e ∷ kept text ns es)))
        [ true ↦ kept_all P es h.1 | false ↦ (h.0, kept_all P es h.1) ]

    kept_keys : (P : K → Type 0) (es : List (K × V)) → AllByRecursion P (keys_of es) → AllByRecursion P (keys_of (kept text ns es))
    kept_keys P [] h = tt
    kept_keys P (e ∷ es) h =
        elim (is_among ns (text e.0)) as (λ b. AllByRecursion P (keys_of (cond b (kept text ns es) (e ∷ kept text ns es))))
        [ true ↦ kept_keys P es h.1 | false ↦ (h.0, kept_keys P es h.1) ]

    -- sorted entries that are kept are sorted
    pub kept_sorted : (cmp : K → K → Ordering) (es : List (K × V)) → IsStrictlySortedBy cmp (keys_of es)
        → IsStrictlySortedBy cmp (keys_of (kept text ns es))
    unfolding IsStrictlySortedBy
    kept_sorted cmp [] h = tt
    kept_sorted cmp (e ∷ es) h =
        elim (is_among ns (text e.0)) as (λ b. IsStrictlySortedBy cmp (keys_of (cond b (kept text ns es) (e ∷ kept text ns es))))
        [ true ↦ kept_sorted cmp es h.1 | false ↦ (kept_keys (λ k. cmp e.0 k ≡ Less) es h.0, kept_sorted cmp es h.1) ]

  -- at one of the names no member of other names is met
  none_met : (q : Name) (rs : Members) → NoneOwn rs → is_among ns q ≡ true → first_and_last_at Some (λ k. k) q rs ≡ None
  none_met q no_members n e = refl
  none_met q (member k t rs) n e =
      elim (bytes_eq k q) as (λ b. bytes_eq k q ≡ b
      → first_and_last (cond b (Some k) None) t (first_and_last_at Some (λ k. k) q rs) ≡ None) [
        | true ↦ λ b. absurd (true≢false (sym e ∙ ap (is_among ns) (sym (equal_if_tested k q b)) ∙ n.0))
        | false ↦ λ b. none_met q rs n.1 e
      ] refl

  -- members of other names mean of a map what they mean of its entries that are kept
  pub kept_fits : {K V C : Type 0} (text : K → Name) (of : Tree → Option C) (R : Tree → V → Type 0) (rs : Members) (es : List (K × V))
      → NoneOwn rs → MapReads (name_keys text) of R (members rs) es → MapReads (name_keys text) of R (members rs) (kept text ns es)
  kept_fits text of R rs es n h = (
    h.0,
    λ q. elim (is_among ns q) as (λ b. is_among ns q ≡ b
        → EntryFits text R (first_and_last_at Some (λ k. k) q rs) (entry_at text q (kept text ns es))) [
          | true ↦ λ b. rw (none_met q rs n b, kept-at text ns q es, b) tt
          | false ↦ λ b. rw (kept-at text ns q es, b) (h.1 q)
        ] refl,
  )

  -- members of other names have none of the names
  count_other : (q : Name) (rs : Members) → NoneOwn rs → is_among ns q ≡ true → count_named q rs ≡ 0
  count_other q no_members n e = refl
  count_other q (member k t rs) n e =
      elim (bytes_eq k q) as (λ b. bytes_eq k q ≡ b → cond b (suc (count_named q rs)) (count_named q rs) ≡ 0) [
        | true ↦ λ b. absurd (true≢false (sym e ∙ ap (is_among ns) (sym (equal_if_tested k q b)) ∙ n.0))
        | false ↦ λ b. count_other q rs n.1 e
      ] refl

count_then : (q : Name) (fs rs : Members) → count_named q fs ≡ 0 → count_named q rs ≡ 0 → count_named q (members_then fs rs) ≡ 0
count_then q no_members rs f r = r
count_then q (member k t fs) rs f r =
    elim (bytes_eq k q) as (λ b. cond b (suc (count_named q fs)) (count_named q fs) ≡ 0
    → cond b (suc (count_named q (members_then fs rs))) (count_named q (members_then fs rs)) ≡ 0)
    [ true ↦ λ f. absurd (cc) | false ↦ λ f. count_then q fs rs f r ] f

-- no written member has one of the further names, unless it is a field's
pub further_named : {K V : Type 0} (text : K → Name) (f : V → Tree) (names further : List Name) (ts : List (Option Tree))
    (es : List (K × V))
    (q : Name) → (is_among further q && is_new q names) ≡ true
    → count_named q (members_then (with_names names ts) (members_of text f (kept text (further ++ names) es))) ≡ 0
further_named text f names further ts es q h =
    let p = both (is_among further q) (is_new q names) h in
    let taken = further ++ names in
    let rs = members_of text f (kept text taken es) in
    count_then q (with_names names ts) rs (count_new q names ts p.1)
    (count_other taken q rs (none_kept taken text f es) (front further names q p.0))

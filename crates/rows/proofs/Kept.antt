-- What a store holds after a put: a row of the key with the body, and each row with another key, since only rows of the key
-- are taken out.
use Rattle.std.proofs.Common.{◌≡◌, ◌⊎◌, inl, inr, ℕ, ℤ, List, [], ◌∷◌, true, not, Less, sym, ap, subst, ◌∙◌, true≢false}
use Rattle.std.specs.List.{AllByRecursion}
use Rattle.std.specs.Ordering.{is_eq}
use Rattle.std.proofs.lemmas.Cmp.{tied_itself}
use Rattle.sqlite_rules.specs.Lists.{Has}
use Rattle.sqlite_rules.specs.Edit.{id_in, put_all, without_all, row_at}
use Rattle.sqlite_rules.proofs.ListLemmas.{all_has, all_from, has_filtered, test_has}
use Rattle.sqlite_rules.proofs.ProbeLemmas.{has_mapped}
use Rattle.sqlite_rules.proofs.TableLemmas.{int_is, put_all_has, put_all_keeps, put_all_adds, without_all_has}
use Rattle.sqlite_rules.proofs.PlaceLemmas.{row_at_is, left_or_taken}
use Rattle.sqlite_value.proofs.OrderLemmas.{value_cmp_total}
use Rattle.sqlite_trees.proofs.ListLemmas.{ascending-filter}
use Rattle.sqlite_trees.proofs.TreeLemmas.{IsTable-put_row}
use Rattle.sqlite.specs.declared.types.Value.{Value}
use Rattle.sqlite.specs.declared.types.Value.TheVariants.{Text}
use Rattle.sqlite.specs.Order.{Row, column, value_cmp}
use Rattle.sqlite.specs.Tree.{rowid, has_rowid, without_rowid, put_row, IsTable}
use Rattle.sqlite.specs.View.{is_int}
use Rattle.rows.specs.Entries.{key_of, body_of}
use Rattle.rows.proofs.Puts.{IsPutIn}

-- ---- the rows that are taken out

itself : (v : Value) → is_eq (value_cmp v v) ≡ true
itself v = ap is_eq (tied_itself value_cmp_total v)

pub own_id : (row : Row) → is_int (rowid row) ≡ true → has_rowid (id_in (rowid row)) row ≡ true
own_id row keyed = subst (λ v. is_eq (value_cmp (rowid row) v) ≡ true) (int_is (rowid row) keyed) (itself (rowid row))

pub not_left : (ids : List ℤ) (rows : List Row) (id : ℤ) (row : Row) → Has ids id → has_rowid id row ≡ true
    → Has (without_all rows ids) row → ⊥
not_left [] rows id row listed is there = listed
not_left (i ∷ ids) rows id row (inl same) is there =
    let kept = (has_filtered (λ r. not (has_rowid i r)) rows row (without_all_has ids (without_rowid i rows) row there)).1 in
    true≢false (sym kept ∙ ap not (subst (λ k. has_rowid k row ≡ true) same is))
not_left (i ∷ ids) rows id row (inr later) is there = not_left ids (without_rowid i rows) id row later is there

pub rising_left : (ids : List ℤ) (rows : List Row) → IsTable rows → IsTable (without_all rows ids)
rising_left [] rows up = up
rising_left (i ∷ ids) rows up = rising_left ids (without_rowid i rows)
    (ascending-filter (λ a b. value_cmp (rowid a) (rowid b) ≡ Less) (λ r. not (has_rowid i r)) rows up)

rising_put : (news rows : List Row) → IsTable rows → IsTable (put_all rows news)
rising_put [] rows up = up
rising_put (n ∷ news) rows up = rising_put news (put_row n rows) (IsTable-put_row n rows up)

-- one value is one text
pub text_of_same : (a b : List ℕ) → ◌≡◌ {A = Value} (Text a) (Text b) → a ≡ b
text_of_same a b e = cc

-- a row is left unless its rowid is that of a row that is taken out
pub left_unless : (rows : List Row) (ids : List ℤ) (key : List ℕ) (x : Row) → IsTable rows
    → AllByRecursion (λ row. is_int (rowid row) ≡ true) rows
    → ((id : ℤ) → Has ids id → (r : Row) × Has rows r × (key_of r ≡ Text key) × (id ≡ id_in (rowid r)))
    → Has rows x → (key_of x ≡ Text key → ⊥) → Has (without_all rows ids) x
left_unless rows ids key x rising keyed taken there other = elim (left_or_taken rows ids x rising there) [
  | inl stays ↦ stays
  | inr out ↦
      let i = has_mapped (row_at rows) ids x out in
      let r = taken i.0 i.1 in
      let at = row_at_is rows (id_in (rowid r.0)) r.0 rising r.1 (own_id r.0 (all_has _ rows r.0 keyed r.1)) in
      let same : x ≡ r.0 = i.2 ∙ ap (row_at rows) r.3 ∙ at in
      absurd (other (ap key_of same ∙ r.2))
]

-- ---- the table

module _ (rows : List Row) (key body : List ℕ) (out : List Row) (keyed : AllByRecursion (λ row. is_int (rowid row) ≡ true) rows)
    (rising : IsTable rows) (it : IsPutIn rows key body out) where
  abbrev left : List Row
  left = without_all rows it.gone

  in_out : (x : Row) → Has (put_all left it.news) x → Has out x
  in_out x h = subst (λ l. Has l x) (sym it.rows_are) h

  from_out : (x : Row) → Has out x → Has it.news x ⊎ Has rows x
  from_out x h = elim (put_all_has it.news left x (subst (λ l. Has l x) it.rows_are h)) [
    | inl new ↦ inl new
    | inr old ↦ inr (without_all_has it.gone rows x old)
  ]

  -- a row has the key and the body
  pub is_there : (x : Row) × Has out x × (key_of x ≡ Text key) × (body_of x ≡ Text body)
  is_there =
      let n = it.some in
      let e = it.each n.0 n.1 in
      (n.0, in_out n.0 (put_all_adds it.news left n.0 it.fresh n.1), e.0, e.1)

  -- each rowid is an integer
  pub keyed_still : AllByRecursion (λ r. is_int (rowid r) ≡ true) out
  keyed_still = all_from (λ r. is_int (rowid r) ≡ true) out (λ x h. elim (from_out x h) [
    | inl new ↦ test_has (λ r. is_int (rowid r)) it.news x it.keyed new
    | inr old ↦ all_has _ rows x keyed old
  ])

  -- the rowids increase
  pub rising_still : IsTable out
  rising_still = subst IsTable (sym it.rows_are) (rising_put it.news left (rising_left it.gone rows rising))

  -- a row of another key was there before
  pub was_there : (x : Row) (other : List ℕ) → (other ≡ key → ⊥) → column x 1 ≡ Text other → Has out x → Has rows x
  was_there x other apart has there = elim (from_out x there) [
    | inl new ↦ absurd (apart (text_of_same other key (sym has ∙ (it.each x new).0)))
    | inr old ↦ old
  ]

  -- a row of another key stays
  pub stays : (x : Row) (other : List ℕ) → (other ≡ key → ⊥) → column x 1 ≡ Text other → Has rows x → Has out x
  stays x other apart has there = in_out x (put_all_keeps it.news left x it.fresh
      (left_unless rows it.gone key x rising keyed it.taken there (λ e. apart (text_of_same other key (sym has ∙ e)))))

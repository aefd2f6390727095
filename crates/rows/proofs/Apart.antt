-- The keys of a store are apart: no two of its rows have the same, so rows in the order of their keys rise.
use Rattle.std.proofs.Common.{arith, ◌≡◌, ◌+◌, inl, inr, List, [], ◌∷◌, map, Bool, false, refl, sym, ap, subst, ◌∙◌}
use Rattle.std.proofs.Common.{true≢false, IsPermutation}
use Rattle.std.specs.List.{IsDistinct}
use Rattle.std.specs.List.Sorted.{IsSortedBy, IsStrictlySortedBy}
use Rattle.std.specs.Ordering.{is_eq, is_lt, eq_by_cmp, ordering_reverse}
use Rattle.std.specs.declared.cmp.Ordering.{Ordering}
use Rattle.std.specs.declared.cmp.Ordering.TheVariants.{Less, Equal, Greater}
use Rattle.std.proofs.lemmas.Bool.{cases_Bool}
use Rattle.std.proofs.lemmas.Cmp.{tied_itself, eq_by_cmp_equiv}
use Rattle.std.proofs.lemmas.Map.Keys.{IsDistinct-IsPermutation, apart_from_distinct, sorted_from_all_adjacent}
use Rattle.std.proofs.lemmas.Map.Lookups.{exact_bytes}
use Rattle.sqlite_rules.specs.Lists.{Has}
use Rattle.sqlite_rules.proofs.ListLemmas.{all_has, all_from}
use Rattle.sqlite_rules.proofs.ProbeLemmas.{has_mapped}
use Rattle.sqlite_schema.specs.Rules.{Obeys}
use Rattle.sqlite_schema.specs.declared.schema.Constraint.TheVariants.{Unique}
use Rattle.sqlite_value.proofs.OrderLemmas.{value_cmp_total, value_cmp-Text}
use Rattle.sqlite.specs.declared.types.Value.{Value}
use Rattle.sqlite.specs.declared.types.Value.TheVariants.{Text}
use Rattle.sqlite.specs.Order.{Row, value_cmp}
use Rattle.sqlite.specs.Tree.{rowid, IsTable}
use Rattle.sqlite.specs.Effect.{Database, IsDatabase}
use Rattle.rows.specs.Entries.{key_of, IsStore}
use Rattle.rows.proofs.Each.{less}
use Rattle.rows.proofs.Found.{is_equal}
use Rattle.rows.proofs.Mapped.{is_map}
use Rattle.rows.proofs.Unique.{one_row}

-- two values are tied
abbrev pub tie : Value → Value → Bool
tie = eq_by_cmp value_cmp

module _ (db : Database) (sound : IsDatabase db) (store : IsStore db) where
  -- rows of rising rowids have two keys
  apart : (x y : Row) → Has (db.trees 0) x → Has (db.trees 0) y → value_cmp (rowid x) (rowid y) ≡ Less → tie (key_of x) (key_of y) ≡ false
  apart x y hx hy rises =
      let texts = (is_map db sound store).texts in
      let kx = texts x hx in
      let ky = texts y hy in
      elim (cases_Bool (tie (key_of x) (key_of y))) [
        | inl tied ↦
            let equal = is_equal _ (ap is_eq (sym (value_cmp-Text kx.0 ky.0)) ∙ rw (kx.2, ky.2) at tied) in
            let key : ky.0 ≡ kx.0 = sym (exact_bytes kx.0 ky.0 equal) in
            let obeys = subst (λ s. Obeys s db.trees) store.schema sound.obeys in
            let same = one_row db.trees x y kx.0 (obeys.rules Unique) store.keyed store.rising hx hy kx.2 (ky.2 ∙ ap Text key) in
            let less = subst (λ z. value_cmp (rowid x) (rowid z) ≡ Less) (sym same) rises in
            absurd (true≢false (sym (ap is_lt less) ∙ ap is_lt (tied_itself value_cmp_total (rowid x))))
        | inr not_tied ↦ not_tied
      ]

  -- rows of the table have keys that are apart
  pub distinct_keys : (rows : List Row) → ((r : Row) → Has rows r → Has (db.trees 0) r) → IsTable rows → IsDistinct tie (map key_of rows)
  unfolding IsDistinct
  distinct_keys [] among up = tt
  distinct_keys (x ∷ rows) among up = (
    all_from (λ k. tie (key_of x) k ≡ false) (map key_of rows) (λ k h.
        let y = has_mapped key_of rows k h in
        subst (λ v. tie (key_of x) v ≡ false) (sym y.2)
        (apart x y.0 (among x (inl refl)) (among y.0 (inr y.1)) (all_has _ rows y.0 up.0 y.1))),
    distinct_keys rows (λ r h. among r (inr h)) up.1,
  )

-- ---- values in order

rises : (o w : Ordering) → w ≡ ordering_reverse o → is_lt w ≡ false → is_eq o ≡ false → o ≡ Less
rises Less w back up other = refl
rises Equal w back up other = absurd (true≢false other)
rises Greater w back up other = absurd (true≢false (sym (ap is_lt back) ∙ up))

-- values in order that are apart rise
pub strict : (vs : List Value) (d : Value) → IsSortedBy less vs → IsDistinct tie vs → IsStrictlySortedBy value_cmp vs
strict vs d up distinct = sorted_from_all_adjacent value_cmp_total vs d (λ k high.
    rises _ _ (value_cmp_total.antisymm _ _) (up k d (omega arith) high)
    (apart_from_distinct tie vs k (k + 1) d distinct (omega arith) high))

-- and so do values that have changed places
pub distinct_permuted : (vs ws : List Value) → IsPermutation vs ws → IsDistinct tie vs → IsDistinct tie ws
distinct_permuted = IsDistinct-IsPermutation tie (eq_by_cmp_equiv value_cmp_total).symm

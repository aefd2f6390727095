-- No two rows of a database of this schema have the same key: the index of the primary key forbids it.
use Rattle.std.proofs.Common.{◌≡◌, inl, inr, ℕ, List, [], ◌∷◌, Bool, true, false, not, ◌&&◌, refl, sym, subst, ◌∙◌, true≢false}
use Rattle.std.specs.List.{AllByRecursion, list_any}
use Rattle.std.specs.Ordering.{is_ne}
use Rattle.std.specs.declared.cmp.Ordering.{Ordering}
use Rattle.std.specs.declared.cmp.Ordering.TheVariants.{Less, Equal, Greater}
use Rattle.std.proofs.lemmas.Bool.{cases_Bool}
use Rattle.sqlite_rules.specs.Lists.{Has}
use Rattle.sqlite_rules.proofs.ListLemmas.{all_has, some_from}
use Rattle.sqlite_rules.proofs.PlaceLemmas.{tied_same}
use Rattle.sqlite_value.specs.Keys.{plain, first_key}
use Rattle.sqlite_sql.specs.Ops.{binary}
use Rattle.sqlite_schema.specs.declared.schema.Constraint.TheVariants.{Unique}
use Rattle.sqlite_schema.specs.Rules.{equal, differ, agree, Keeps}
use Rattle.sqlite.specs.Collation.TheVariants.{Binary}
use Rattle.sqlite.specs.declared.types.Value.{Value}
use Rattle.sqlite.specs.declared.types.Value.TheVariants.{Null, Int, Real, Text, Blob}
use Rattle.sqlite.specs.Order.{Row, column, value_cmp}
use Rattle.sqlite.specs.Tree.{Trees, rowid, IsTable}
use Rattle.sqlite.specs.View.{is_int}
use Rattle.rows.specs.Entries.{entry_schema, key_of}
use Rattle.rows.proofs.Found.{text_is, truth_back}

not_apart : (o : Ordering) → is_ne o ≡ false → o ≡ Equal
not_apart Less h = absurd (true≢false h)
not_apart Equal h = refl
not_apart Greater h = absurd (true≢false h)

-- integers that do not differ are tied
tied : (a b : Value) → is_int a ≡ true → is_int b ≡ true → differ a b ≡ false → value_cmp a b ≡ Equal
unfolding binary
tied (Int m) (Int n) p q h = not_apart _ (sym (truth_back _) ∙ h)
tied (Int m) Null p q h = absurd (true≢false (sym q))
tied (Int m) (Real x) p q h = absurd (true≢false (sym q))
tied (Int m) (Text t) p q h = absurd (true≢false (sym q))
tied (Int m) (Blob b) p q h = absurd (true≢false (sym q))
tied Null b p q h = absurd (true≢false (sym p))
tied (Real x) b p q h = absurd (true≢false (sym p))
tied (Text t) b p q h = absurd (true≢false (sym p))
tied (Blob c) b p q h = absurd (true≢false (sym p))

and_yes : {b : Bool} → b ≡ true → (b && true) ≡ true
and_yes e = rw e refl

and_both : {a b : Bool} → a ≡ true → b ≡ true → (a && b) ≡ true
and_both p q = rw (p, q) refl

none_clashes : (b : Bool) → (not b && true) ≡ true → b ≡ false
none_clashes true h = absurd (true≢false (sym h))
none_clashes false h = refl

-- two rows of one key agree at it
agrees : (r s : Row) (key : List ℕ) → key_of r ≡ Text key → key_of s ≡ Text key → agree plain (1 ∷ []) r (1 ∷ []) s ≡ true
unfolding first_key
agrees r s key kr ks = and_yes (subst (λ v. equal Binary (column r 1) v ≡ true) (sym ks) (text_is (column r 1) key kr))

-- and are one row
pub one_row : (db : Trees) (r s : Row) (key : List ℕ) → Keeps Unique entry_schema db
    → AllByRecursion (λ row. is_int (rowid row) ≡ true) (db 0) → IsTable (db 0) → Has (db 0) r → Has (db 0) s
    → key_of r ≡ Text key → key_of s ≡ Text key → r ≡ s
one_row db r s key unique keyed rising hr hs kr ks =
    let test = λ (other : Row). agree plain (1 ∷ []) other (1 ∷ []) s && differ (rowid other) (rowid s) in
    let none : list_any test (db 0) ≡ false = none_clashes _ (all_has _ (db 0) s unique.0 hs) in
    elim (cases_Bool (differ (rowid r) (rowid s))) [
      | inl apart ↦ absurd (true≢false (sym (some_from test (db 0) r hr (and_both (agrees r s key kr ks) apart)) ∙ none))
      | inr same ↦
          tied_same (db 0) r s rising hr hs
          (tied (rowid r) (rowid s) (all_has _ (db 0) r keyed hr) (all_has _ (db 0) s keyed hs) same)
    ]

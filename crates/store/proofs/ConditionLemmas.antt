-- What the conditions of a request say of any tag.
use Rattle.std.proofs.Common.{◌≡◌, ℕ, List, [], ◌∷◌, Bool, true, false, not, ◌&&◌, ◌||◌, if◌then◌else◌, Option, Some, None, is_some, map}
use Rattle.std.proofs.Common.{refl, sym, ap, ◌∙◌, true≢false}
use Rattle.std.specs.Prelude.{bytes_eq, codes, slice_get}
use Rattle.http_header.specs.FieldValue.{FieldValue}
use Rattle.http_header.specs.HeaderMap.{Entries, get, get_all}
use Rattle.store.specs.declared.conditions.Condition.{Condition}
use Rattle.store.specs.declared.conditions.Condition.TheVariants.{Met, Failed, Cached}
use Rattle.store.specs.Conditions.{values_of, lists, is_any_met, has_any, has_if_match, wants_none, matches_any, condition}

-- a field with the value `*` is met by any tag
any_met : (tag : List ℕ) (weak : Bool) (values : List (List ℕ)) → has_any values ≡ true → is_any_met tag weak values ≡ true
any_met tag weak [] any = absurd (true≢false (sym any))
any_met tag weak (value ∷ values) any =
    by (bytes_eq value (codes "*")) (lists value tag weak) (λ rest. any_met tag weak values rest) any
  where
    by : (star listed : Bool) → (has_any values ≡ true → is_any_met tag weak values ≡ true) → (star || has_any values) ≡ true
        → ((star || listed) || is_any_met tag weak values) ≡ true
    by true listed later any = refl
    by false true later any = refl
    by false false later any = later any

-- a field without a value is met by none
none_met : (tag : List ℕ) (weak : Bool) (values : List FieldValue) → values ≡ []
    → is_any_met tag weak (map (λ v. v.bytes) values) ≡ false
none_met tag weak values none = ap (λ (vs : List FieldValue). is_any_met tag weak (map (λ v. v.bytes) vs)) none

no_values : (values : List FieldValue) → slice_get values 0 ≡ None → values ≡ []
no_values [] none = refl
no_values (v ∷ values) none = absurd (true≢false (ap is_some none))

module _ (headers : Entries FieldValue) (passes : matches_any headers ≡ true) where
  -- `If-Match` does not fail
  holds : (tag : List ℕ) → (has_if_match headers && not (is_any_met tag false (values_of headers (codes "if-match")))) ≡ false
  holds tag = by (has_if_match headers) (is_any_met tag false (values_of headers (codes "if-match")))
      (any_met tag false (values_of headers (codes "if-match"))) passes
    where
      by : (asks met : Bool) → (has_any (values_of headers (codes "if-match")) ≡ true → met ≡ true)
          → (not asks || has_any (values_of headers (codes "if-match"))) ≡ true → (asks && not met) ≡ false
      by false met is it = refl
      by true true is it = refl
      by true false is it = absurd (true≢false (sym (is it)))

  pub any_cached : wants_none headers ≡ true → (tag : List ℕ) → condition headers tag ≡ Cached
  any_cached none tag =
      ap (λ (b : Bool). if b then Failed else (if is_any_met tag true (values_of headers (codes "if-none-match")) then Cached else Met))
      (holds tag)
      ∙ ap (λ (b : Bool). if b then Cached else Met) (any_met tag true (values_of headers (codes "if-none-match")) none)

  pub any_passes : get headers (codes "if-none-match") ≡ None → (tag : List ℕ) → condition headers tag ≡ Met
  any_passes none tag =
      ap (λ (b : Bool). if b then Failed else (if is_any_met tag true (values_of headers (codes "if-none-match")) then Cached else Met))
      (holds tag)
      ∙ ap (λ (b : Bool). if b then Cached else Met)
      (none_met tag true (get_all headers (codes "if-none-match")) (no_values (get_all headers (codes "if-none-match")) none))

-- The conditions of a request on its entry (RFC 9110, section 13).
use Rattle.std.specs.Prelude.{ℕ, suc, zero, ◌==◌, Bool, true, false, not, ◌&&◌, ◌||◌, if◌then◌else◌, Option, Some, None, is_some}
use Rattle.std.specs.Prelude.{List, map, take, drop, length, codes, bytes_eq}
use Rattle.std.specs.List.{list_any, starts_with, ends_with}
use Rattle.http_header.specs.FieldValue.{FieldValue}
use Rattle.http_header.specs.HeaderMap.{Entries, get, get_all}
use Rattle.store.specs.declared.conditions.Condition.{Condition}
use Rattle.store.specs.declared.conditions.Condition.TheVariants.{Met, Failed, Cached}

-- the values of the fields of a name
abbrev pub values_of : Entries FieldValue → List ℕ → List (List ℕ)
values_of headers name = map (λ v. v.bytes) (get_all headers name)

-- The tag stands at this index of the value. No `W/` stands before it, unless weak tags count. In a list of tags it is then
-- an element: it has its quotes, and no tag has one inside (section 8.8.3).
abbrev pub stands_at : List ℕ → List ℕ → Bool → ℕ → Bool
stands_at value tag weak i =
    starts_with ◌==◌ (drop i value) tag && (weak || not (ends_with ◌==◌ (take i value) (codes "W/")))

-- the tag stands at one of the first indices
abbrev pub lists_below : List ℕ → List ℕ → Bool → ℕ → Bool
lists_below value tag weak zero = false
lists_below value tag weak (suc i) = lists_below value tag weak i || stands_at value tag weak i

-- the value lists the tag
abbrev pub lists : List ℕ → List ℕ → Bool → Bool
lists value tag weak = lists_below value tag weak (length value)

-- the value is `*`, or lists the tag
abbrev pub is_met : List ℕ → Bool → List ℕ → Bool
is_met tag weak value = bytes_eq value (codes "*") || lists value tag weak

-- one of the values is `*`
abbrev pub has_any : List (List ℕ) → Bool
has_any values = list_any (λ value. bytes_eq value (codes "*")) values

-- one of the values is `*`, or lists the tag
abbrev pub is_any_met : List ℕ → Bool → List (List ℕ) → Bool
is_any_met tag weak values = list_any (is_met tag weak) values

-- the request has the field `If-Match`
abbrev pub has_if_match : Entries FieldValue → Bool
has_if_match headers = is_some (get headers (codes "if-match"))

-- `If-None-Match` is `*`: the request asks for no entry that there is
abbrev pub wants_none : Entries FieldValue → Bool
wants_none headers = has_any (values_of headers (codes "if-none-match"))

-- `If-Match` holds for any entry: it is absent or `*`
abbrev pub matches_any : Entries FieldValue → Bool
matches_any headers = not (has_if_match headers) || has_any (values_of headers (codes "if-match"))

-- What the conditions say of an entry of this tag. `If-Match` compares strongly and goes first (sections 13.1.1 and 13.2.2),
-- `If-None-Match` compares weakly (section 13.1.2).
abbrev pub condition : Entries FieldValue → List ℕ → Condition
condition headers tag =
    if has_if_match headers && not (is_any_met tag false (values_of headers (codes "if-match"))) then Failed
    else (if is_any_met tag true (values_of headers (codes "if-none-match")) then Cached else Met)

-- what the conditions say of a key whose entry has this tag, or that has no entry
abbrev pub condition_at : Entries FieldValue → Option (List ℕ) → Condition
condition_at headers None = if has_if_match headers then Failed else Met
condition_at headers (Some tag) = condition headers tag

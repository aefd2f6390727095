-- What a text says of one host, and of one host more.
use Rattle.std.proofs.Common.{arith, ◌+◌, inl, inr, ◌≡◌, ◌<◌, ℕ, List, [], ◌∷◌, Bool, true, false, ◌&&◌, ◌||◌, map, take, drop, length}
use Rattle.std.proofs.Common.{refl, sym, ap, ◌∙◌, true≢false}
use Rattle.std.specs.Prelude.{bytes_eq, get_or, String, string_bytes}
use Rattle.std.specs.Global.{Global}
use Rattle.std.specs.List.{list_any}
use Rattle.std.proofs.lemmas.Bool.{cases_Bool}
use Rattle.std.proofs.lemmas.List.{length-map, length-take, map_more}
use Rattle.std.proofs.lemmas.List.Folds.{list_any-append}
use Rattle.std.proofs.lemmas.Slice.Eq.{bytes_eq-Decides}
use Rattle.store.specs.Hosts.{ends_host, in_lowercase, names_host, is_served}

-- a text that is shorter than the host is another
pub too_short : (text host : List ℕ) → length text < length host → names_host text host ≡ false
too_short text host short = elim (cases_Bool (bytes_eq (in_lowercase (take (length host) text)) (in_lowercase host))) [
  | inl same ↦
      let is = (bytes_eq-Decides (in_lowercase (take (length host) text)) (in_lowercase host)).0 same in
      let size = ap length is in
      absurd (never size)
  | inr other ↦ ap (λ (b : Bool). b && ends_host (drop (length host) text)) other
]
  where
    never : length (in_lowercase (take (length host) text)) ≡ length (in_lowercase host) → ⊥
    never size =
        let front : length (in_lowercase (take (length host) text)) ≡ length (take (length host) text) =
        length-map (take (length host) text) _ in
        let whole : length (in_lowercase host) ≡ length host = length-map host _ in
        let most = length-take (length host) text in
        grind (arith, size, front, whole, most, short)

or_false : (a b : Bool) → (a || (b || false)) ≡ (a || b)
or_false true b = refl
or_false false true = refl
or_false false false = refl

-- one host more
pub served_more : (text : List ℕ) (hosts : List (String Global)) (i : ℕ) (d : String Global) → i < length hosts
    → is_served (map string_bytes (take (i + 1) hosts)) text
    ≡ (is_served (map string_bytes (take i hosts)) text || names_host text (string_bytes (get_or hosts i d)))
served_more text hosts i d low =
    let before = map string_bytes (take i hosts) in
    let one = string_bytes (get_or hosts i d) in
    ap (λ l. is_served l text) (map_more string_bytes hosts i d low)
    ∙ list_any-append (names_host text) before (one ∷ [])
    ∙ or_false (is_served before text) (names_host text one)

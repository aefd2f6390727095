-- The last call that changed a key says what the map has there, by induction on the calls.
use Rattle.std.proofs.Common.{◌≡◌, ◌⊎◌, inl, inr, ℕ, List, [], ◌∷◌, Bool, true, false, if◌then◌else◌}
use Rattle.std.proofs.Common.{Option, Some, None, is_some, MatchOption}
use Rattle.std.proofs.Common.{refl, sym, ap, subst, ◌∙◌, true≢false, arith}
use Rattle.std.specs.Prelude.{bytes_eq}
use Rattle.std.proofs.lemmas.Slice.Eq.{bytes_eq-Decides}
use Rattle.http_header.specs.FieldValue.{FieldValue}
use Rattle.http_header.specs.HeaderMap.{Entries}
use Rattle.http_server.specs.declared.response.Response.{Response}
use Rattle.http_server.specs.Exchange.{Call, Chain}
use Rattle.store.specs.declared.conditions.Condition.{Condition}
use Rattle.store.specs.declared.conditions.Condition.TheVariants.{Met, Failed, Cached}
use Rattle.store.specs.Routes.{IsEntry, path_of, method_of, headers_of}
use Rattle.store.specs.Answered.{Codec, outcome, IsStatus, condition_on, is_bare, ShownBy, Shows}
use Rattle.store.specs.Lists.{query_of, start_of, object_text}
use Rattle.store.specs.Maps.{Map, empty, with_text, without_key, ListsFromMap, AnsweredListMap, AnsweredAtMap, AnsweredMap, AnsweredMapFor}
use Rattle.store.specs.Last.{Changes, IsPutOf, IsRemovalOf, AreQuiet, LastIs, NoPutStands}

-- ---- statuses

abbrev IsSuccess : ℕ → Type 0
IsSuccess n = (n ≡ 201) ⊎ (n ≡ 204)

no_success : (n : ℕ) (r : Response) → r.status ≡ n → (IsSuccess n → ⊥) → IsSuccess r.status → ⊥
no_success n r is none (inl e) = none (inl (sym is ∙ e))
no_success n r is none (inr e) = none (inr (sym is ∙ e))

quiet_200 : IsSuccess 200 → ⊥
quiet_200 (inl e) = omega arith
quiet_200 (inr e) = omega arith

quiet_304 : IsSuccess 304 → ⊥
quiet_304 (inl e) = omega arith
quiet_304 (inr e) = omega arith

quiet_412 : IsSuccess 412 → ⊥
quiet_412 (inl e) = omega arith
quiet_412 (inr e) = omega arith

quiet_400 : IsSuccess 400 → ⊥
quiet_400 (inl e) = omega arith
quiet_400 (inr e) = omega arith

quiet_404 : IsSuccess 404 → ⊥
quiet_404 (inl e) = omega arith
quiet_404 (inr e) = omega arith

quiet_405 : IsSuccess 405 → ⊥
quiet_405 (inl e) = omega arith
quiet_405 (inr e) = omega arith

quiet_503 : IsSuccess 503 → ⊥
quiet_503 (inl e) = omega arith
quiet_503 (inr e) = omega arith

quiet_421 : IsSuccess 421 → ⊥
quiet_421 (inl e) = omega arith
quiet_421 (inr e) = omega arith

by_quiet : (bare : Bool) (c : Condition) (text : List ℕ) (r : Response) → ShownBy bare c text r → IsSuccess r.status → ⊥
by_quiet false Met text r h = no_success 200 r h.status quiet_200
by_quiet true Met text r h = no_success 200 r h.status quiet_200
by_quiet false Cached text r h = no_success 304 r h.status quiet_304
by_quiet true Cached text r h = no_success 304 r h.status quiet_304
by_quiet false Failed text r h = no_success 412 r h.status quiet_412
by_quiet true Failed text r h = no_success 412 r h.status quiet_412

shown_quiet : (bare : Bool) (headers : Entries FieldValue) (o : Option (List ℕ)) (r : Response) → Shows bare headers o r
    → IsSuccess r.status → ⊥
shown_quiet bare headers None r h = no_success 404 r h.status quiet_404
shown_quiet bare headers (Some text) r h = by_quiet bare (condition_on headers (Some text)) text r h

stored_success : (b : Bool) (r : Response) → IsStatus (if b then 204 else 201) r → IsSuccess r.status
stored_success true r h = inr h.status
stored_success false r h = inl h.status

-- ---- one call

one_key : (path key other : List ℕ) → IsEntry path key → IsEntry path other → key ≡ other
one_key path key other a b = sym a.decoded ∙ b.decoded

module _ {V : Type 0} (of : Codec V) (key : List ℕ) where
  -- what a call makes of the text of the key
  abbrev Step : Map → Call → Map → Type 0
  Step m c next =
      ((next key ≡ m key) × (Changes key c → ⊥))
      ⊎ (((text : List ℕ) × (next key ≡ Some text) × IsPutOf of key text c) ⊎ ((next key ≡ None) × IsRemovalOf key c))

  same_at : (m next : Map) → next ≡ m → next key ≡ m key
  same_at m next same = ap (λ (f : Map). f key) same

  apart_by : (other : List ℕ) → bytes_eq key other ≡ false → key ≡ other → ⊥
  apart_by other e same = true≢false (sym ((bytes_eq-Decides key other).1 same) ∙ e)

  put_step : (m next : Map) (c : Call) (other text : List ℕ) (entry : IsEntry (path_of c.0) other) → next ≡ with_text m other text
      → (IsEntry (path_of c.0) key → IsPutOf of key text c) → (v : Bool) → bytes_eq key other ≡ v → Step m c next
  put_step m next c other text entry is put true e =
      let same : key ≡ other = (bytes_eq-Decides key other).0 e in
      inr (inl (
        text,
        same_at (with_text m other text) next is ∙ ap (λ b. if b then Some text else m key) e,
        put (subst (IsEntry (path_of c.0)) (sym same) entry),
      ))
  put_step m next c other text entry is put false e =
      inl (
        same_at (with_text m other text) next is ∙ ap (λ b. if b then Some text else m key) e,
        λ change. apart_by other e (one_key (path_of c.0) key other change.0 entry),
      )

  removal_step : (m next : Map) (c : Call) (other : List ℕ) (entry : IsEntry (path_of c.0) other) → next ≡ without_key m other
      → (IsEntry (path_of c.0) key → IsRemovalOf key c) → (v : Bool) → bytes_eq key other ≡ v → Step m c next
  removal_step m next c other entry is removal true e =
      let same : key ≡ other = (bytes_eq-Decides key other).0 e in
      inr (inr (
        same_at (without_key m other) next is ∙ ap (λ b. if b then None else m key) e,
        removal (subst (IsEntry (path_of c.0)) (sym same) entry),
      ))
  removal_step m next c other entry is removal false e =
      inl (
        same_at (without_key m other) next is ∙ ap (λ b. if b then None else m key) e,
        λ change. apart_by other e (one_key (path_of c.0) key other change.0 entry),
      )

  at_step : (m next : Map) (c : Call) (other : List ℕ) → IsEntry (path_of c.0) other
      → AnsweredAtMap of other c.0 (outcome m c.1 next) → Step m c next
  at_step m next c other entry (inl (is, (same, inl shown))) =
      inl (
        same_at m next same,
        λ change. shown_quiet (is_bare (method_of c.0) (headers_of c.0)) (headers_of c.0) (m other) c.1 shown change.1,
      )
  at_step m next c other entry (inl (is, (same, inr failed))) =
      inl (same_at m next same, λ change. no_success 503 c.1 failed.status quiet_503 change.1)
  at_step m next c other entry (inr (inl (is, inl (met, inl (text, meant, put, status))))) =
      put_step m next c other text entry put (λ there. (there, is, meant, stored_success (is_some (m other)) c.1 status))
      (bytes_eq key other) refl
  at_step m next c other entry (inr (inl (is, inl (met, inr (same, inl bad))))) =
      inl (same_at m next same, λ change. no_success 400 c.1 bad.1.2.status quiet_400 change.1)
  at_step m next c other entry (inr (inl (is, inl (met, inr (same, inr failed))))) =
      inl (same_at m next same, λ change. no_success 503 c.1 failed.status quiet_503 change.1)
  at_step m next c other entry (inr (inl (is, inr (same, inl unmet)))) =
      inl (same_at m next same, λ change. no_success 412 c.1 unmet.1.status quiet_412 change.1)
  at_step m next c other entry (inr (inl (is, inr (same, inr failed)))) =
      inl (same_at m next same, λ change. no_success 503 c.1 failed.status quiet_503 change.1)
  at_step m next c other entry (inr (inr (inl (is, inl (had, met, removed, status))))) =
      removal_step m next c other entry removed (λ there. (there, is, status.status)) (bytes_eq key other) refl
  at_step m next c other entry (inr (inr (inl (is, inr (same, inl missing))))) =
      inl (same_at m next same, λ change. no_success 404 c.1 missing.1.status quiet_404 change.1)
  at_step m next c other entry (inr (inr (inl (is, inr (same, inr (inl unmet)))))) =
      inl (same_at m next same, λ change. no_success 412 c.1 unmet.2.status quiet_412 change.1)
  at_step m next c other entry (inr (inr (inl (is, inr (same, inr (inr failed)))))) =
      inl (same_at m next same, λ change. no_success 503 c.1 failed.status quiet_503 change.1)
  at_step m next c other entry (inr (inr (inr (is, same, sent)))) =
      inl (same_at m next same, λ change. no_success 405 c.1 sent.status quiet_405 change.1)

  from_step : (m next : Map) (c : Call) (bare : Bool) (start : List ℕ) (limit : ℕ)
      → ListsFromMap (outcome m c.1 next) bare (headers_of c.0) start limit → Step m c next
  from_step m next c bare start limit (same, inl (inl (entries, page, shown))) =
      inl (same_at m next same, λ change. shown_quiet bare (headers_of c.0) (Some (object_text entries)) c.1 shown change.1)
  from_step m next c bare start limit (same, inl (inr any)) =
      inl (same_at m next same, λ change. shown_quiet bare (headers_of c.0) (Some []) c.1 (any []) change.1)
  from_step m next c bare start limit (same, inr failed) =
      inl (same_at m next same, λ change. no_success 503 c.1 failed.status quiet_503 change.1)

  list_step : (m next : Map) (c : Call) → AnsweredListMap c.0 (outcome m c.1 next) → Step m c next
  list_step m next c (inl (is, inl (limit, asks, from))) =
      from_step m next c (is_bare (method_of c.0) (headers_of c.0)) (start_of (query_of c.0)) limit from
  list_step m next c (inl (is, inr (same, inl bad))) =
      inl (same_at m next same, λ change. no_success 400 c.1 bad.1.status quiet_400 change.1)
  list_step m next c (inl (is, inr (same, inr failed))) =
      inl (same_at m next same, λ change. no_success 503 c.1 failed.status quiet_503 change.1)
  list_step m next c (inr (other, same, sent)) =
      inl (same_at m next same, λ change. no_success 405 c.1 sent.status quiet_405 change.1)

  one_step : (m next : Map) (c : Call) → AnsweredMap of m c.0 c.1 next → Step m c next
  one_step m next c (inl (other, entry, answer)) = at_step m next c other entry answer
  one_step m next c (inr (inl (is, lists))) = list_step m next c lists
  one_step m next c (inr (inr (none, no_list, same, sent))) = inl (same_at m next same, λ change. none key change.0)

  step_for : (hosts : List (List ℕ)) (m next : Map) (c : Call) → AnsweredMapFor hosts of m c.0 c.1 next → Step m c next
  step_for hosts m next c (inl (served, answer)) = one_step m next c answer
  step_for hosts m next c (inr (other, same, sent)) =
      inl (same_at m next same, λ change. no_success 421 c.1 sent.status quiet_421 change.1)

  -- ---- many calls

  abbrev Stands : Map → List Call → Option (List ℕ) → Type 0
  Stands m calls o =
      ((o ≡ m key) × AreQuiet key calls)
      ⊎ (((text : List ℕ) × (o ≡ Some text) × LastIs (IsPutOf of key text) key calls)
      ⊎ ((o ≡ None) × LastIs (IsRemovalOf key) key calls))

  later_too : (P : Call → Type 0) (c : Call) (calls : List Call) → LastIs P key calls → LastIs P key (c ∷ calls)
  later_too P c calls (before, d, later, split, is, quiet) = (c ∷ before, d, later, ap (λ l. c ∷ l) split, is, quiet)

  joined : (m next : Map) (c : Call) (calls : List Call) (o : Option (List ℕ)) → Step m c next → Stands next calls o
      → Stands m (c ∷ calls) o
  joined m next c calls o step (inr (inl (text, is, last))) = inr (inl (text, is, later_too (IsPutOf of key text) c calls last))
  joined m next c calls o step (inr (inr (is, last))) = inr (inr (is, later_too (IsRemovalOf key) c calls last))
  joined m next c calls o (inl (same, quiet)) (inl (is, all)) = inl (is ∙ same, (quiet, all))
  joined m next c calls o (inr (inl (text, there, put))) (inl (is, all)) = inr (inl (text, is ∙ there, ([], c, calls, refl, put, all)))
  joined m next c calls o (inr (inr (none, removal))) (inl (is, all)) = inr (inr (is ∙ none, ([], c, calls, refl, removal, all)))

  stands : (hosts : List (List ℕ)) (calls : List Call) (m after : Map) → Chain (AnsweredMapFor hosts of) m calls after
      → Stands m calls (after key)
  stands hosts [] m after same = inl (same_at m after same, tt)
  stands hosts (c ∷ calls) m after (next, step, later) =
      joined m next c calls (after key) (step_for hosts m next c step) (stands hosts calls next after later)

  shows : (calls : List Call) (o : Option (List ℕ)) → Stands empty calls o
      → MatchOption o (NoPutStands key calls) (λ text. LastIs (IsPutOf of key text) key calls)
  shows calls None (inl (is, quiet)) = inl quiet
  shows calls None (inr (inl (text, is, last))) = absurd (true≢false (sym (ap is_some is)))
  shows calls None (inr (inr (is, last))) = inr last
  shows calls (Some text) (inl (is, quiet)) = absurd (true≢false (ap is_some is))
  shows calls (Some text) (inr (inl (other, is, last))) =
      subst (λ t. LastIs (IsPutOf of key t) key calls) (sym (one_text is)) last
    where
      one_text : {a b : List ℕ} → ◌≡◌ {A = Option (List ℕ)} (Some a) (Some b) → a ≡ b
      one_text e = cc
  shows calls (Some text) (inr (inr (is, last))) = absurd (true≢false (ap is_some is))

  pub last_put_shown : (hosts : List (List ℕ)) (calls : List Call) (m : Map) → Chain (AnsweredMapFor hosts of) empty calls m
      → MatchOption (m key) (NoPutStands key calls) (λ text. LastIs (IsPutOf of key text) key calls)
  last_put_shown hosts calls m chain = shows calls (m key) (stands hosts calls empty m chain)

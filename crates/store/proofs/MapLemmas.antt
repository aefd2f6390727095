-- Each response of the store is one of a map that has its rows.
use Rattle.std.proofs.Common.{◌≡◌, ◌≢◌, ◌⊎◌, ◌↔◌, inl, inr, ℕ, List, Bool, true, false, if◌then◌else◌, Option, Some, None, is_some, IsTrue}
use Rattle.std.proofs.Common.{refl, sym, ap, subst, ◌∙◌, true≢false}
use Rattle.std.specs.Prelude.{bytes_eq}
use Rattle.std.proofs.lemmas.Slice.Eq.{bytes_eq-Decides}
use Rattle.http.specs.declared.request.Request.{Request as HttpRequest}
use Rattle.http.specs.Request.{body_of}
use Rattle.http_header.specs.FieldValue.{FieldValue}
use Rattle.http_header.specs.HeaderMap.{Entries}
use Rattle.http_server.specs.declared.response.Response.{Response}
use Rattle.sqlite.specs.declared.types.Value.TheVariants.{Text}
use Rattle.sqlite.specs.State.{State}
use Rattle.rows.specs.Entries.{Holds, HasKey, IsPage, IsPut, IsRemoved, Keeps, key_of}
use Rattle.store.specs.declared.conditions.Condition.TheVariants.{Met}
use Rattle.store.specs.Routes.{method_of, headers_of}
use Rattle.store.specs.Answered.{Codec, outcome, IsTextOf, MeansNoValue, IsProblem, IsStatus, IsCurrent, condition_on, Shows, Reads}
use Rattle.store.specs.Answered.{IfMet, PutsOver, Puts}
use Rattle.store.specs.Answered.{RemovesOver, Removes, ListsFrom, Lists, AnsweredList, AnsweredAt, Answered, AnsweredFor, is_bare}
use Rattle.store.specs.Lists.{query_of, start_of, max_page_bytes}
use Rattle.store.specs.Maps.{Map, with_text, without_key, IsPageOf, ReadsMap, PutsMap, RemovesMap, ListsFromMap, ListsMap}
use Rattle.store.specs.Maps.{AnsweredListMap, AnsweredAtMap, AnsweredMap, AnsweredMapFor, SeesMap}

some_same : {a b : List ℕ} → ◌≡◌ {A = Option (List ℕ)} (Some a) (Some b) → a ≡ b
some_same e = cc

apart_by : (a b : List ℕ) → bytes_eq a b ≡ false → a ≡ b → ⊥
apart_by a b e same = true≢false (sym ((bytes_eq-Decides a b).1 same) ∙ e)

-- what a response leads to
abbrev pub Leads : State → (Map → Type 0) → Type 0
Leads new Answer = (after : Map) × Answer after × SeesMap new after

-- a list changes nothing
pub list_same : (m after : Map) (request : HttpRequest (List ℕ)) (response : Response)
    → AnsweredListMap request (outcome m response after) → after ≡ m
list_same m after request response (inl (is, inl (limit, asks, (same, shown)))) = same
list_same m after request response (inl (is, inr (same, why))) = same
list_same m after request response (inr (other, same, sent)) = same

module _ (old new : State) (m : Map) (sees : SeesMap old m) where
  pub kept_sees : Keeps old new → SeesMap new m
  kept_sees kept live k b =
      let was = kept live in
      subst (λ db. Holds db k b ↔ (m k ≡ Some b)) (sym was.1) (sees was.0 k b)

  put_sees : (key text : List ℕ) → IsTrue old.is_open → IsPut old.now new.now key text → SeesMap new (with_text m key text)
  put_sees key text live p _ k b = entry k b (bytes_eq k key) refl
    where
      entry : (k b : List ℕ) (v : Bool) → bytes_eq k key ≡ v → Holds new.now k b ↔ ((if v then Some text else m k) ≡ Some b)
      entry k b true e =
          let same : k ≡ key = (bytes_eq-Decides k key).0 e in (
            λ h. ap Some (sym (p.only b (subst (λ x. Holds new.now x b) same h))),
            λ is. subst (λ x. Holds new.now x b) (sym same) (subst (λ t. Holds new.now key t) (some_same is) p.here),
          )
      entry k b false e =
          let o = p.others k b (apart_by k key e) in
          let was = sees live k b in (
            λ h. was.0 (o.0 h),
            λ is. o.1 (was.1 is),
          )

  removed_sees : (key : List ℕ) → IsTrue old.is_open → IsRemoved old.now new.now key → SeesMap new (without_key m key)
  removed_sees key live p _ k b = entry k b (bytes_eq k key) refl
    where
      entry : (k b : List ℕ) (v : Bool) → bytes_eq k key ≡ v → Holds new.now k b ↔ ((if v then None else m k) ≡ Some b)
      entry k b true e =
          let same : k ≡ key = (bytes_eq-Decides k key).0 e in (
            λ h. absurd (p.gone (h.0, h.1, subst (λ x. key_of h.0 ≡ Text x) same h.2)),
            λ is. absurd (true≢false (sym (ap is_some is))),
          )
      entry k b false e =
          let o = p.others k b (apart_by k key e) in
          let was = sees live k b in (
            λ h. was.0 (o.0 h),
            λ is. o.1 (was.1 is),
          )

  none_at : (key : List ℕ) → IsTrue old.is_open → (HasKey old.now key → ⊥) → m key ≡ None
  none_at key live lacks = by (m key) refl
    where
      by : (o : Option (List ℕ)) → m key ≡ o → o ≡ None
      by None e = refl
      by (Some text) e = let h = (sees live key text).1 e in absurd (lacks (h.0, h.1, h.2))

  some_at : (key text : List ℕ) → IsTrue old.is_open → Holds old.now key text → m key ≡ Some text
  some_at key text live h = (sees live key text).0 h

  -- what the key has in the map
  current_at : (key : List ℕ) (current : Option (List ℕ)) → IsTrue old.is_open → IsCurrent old.now key current → m key ≡ current
  current_at key None live lacks = none_at key live lacks
  current_at key (Some text) live held = some_at key text live held

  module _ (headers : Entries FieldValue) (key : List ℕ) (response : Response) where
    pub reads_map : (bare : Bool) → Reads (outcome old response new) bare headers key
        → Leads new (λ after. ReadsMap (outcome m response after) bare headers key)
    reads_map bare (kept, inl (live, current, is, shown)) =
        (m, (refl, inl (subst (λ o. Shows bare headers o response) (sym (current_at key current live is)) shown)), kept_sees kept)
    reads_map bare (kept, inr failed) = (m, (refl, inr failed), kept_sees kept)

    -- a removal of what the map has there
    abbrev At : Option (List ℕ) → Map → Type 0
    At o after =
        (IsTrue (is_some o) × (condition_on headers o ≡ Met) × (after ≡ without_key m key) × IsStatus 204 response)
        ⊎ ((after ≡ m) × (((o ≡ None) × IsStatus 404 response)
        ⊎ ((IsTrue (is_some o) × (condition_on headers o ≢ Met) × IsStatus 412 response) ⊎ IsStatus 503 response)))

    removes_at : (current : Option (List ℕ)) → RemovesOver (outcome old response new) headers key current → Leads new (At current)
    removes_at None (kept, status) = (m, inr (refl, inl (refl, status)), kept_sees kept)
    removes_at (Some text) (inl (met, inl (live, late, removed, status))) =
        (without_key m key, inl (refl, met, refl, status), removed_sees key live removed)
    removes_at (Some text) (inl (met, inr (kept, failed))) = (m, inr (refl, inr (inr failed)), kept_sees kept)
    removes_at (Some text) (inr (kept, inl (unmet, status))) =
        (m, inr (refl, inr (inl (refl, unmet, status))), kept_sees kept)
    removes_at (Some text) (inr (kept, inr failed)) = (m, inr (refl, inr (inr failed)), kept_sees kept)

    pub removes_map : Removes (outcome old response new) headers key
        → Leads new (λ after. RemovesMap (outcome m response after) headers key)
    removes_map (inl (live, current, is, removes)) =
        let it = removes_at current removes in
        (it.0, subst (λ o. At o it.0) (sym (current_at key current live is)) it.1, it.2)
    removes_map (inr (kept, failed)) = (m, inr (refl, inr (inr failed)), kept_sees kept)

  -- a page of the rows is one of the map
  page_at : (start : List ℕ) (limit max_bytes : ℕ) (entries : List (List ℕ × List ℕ)) → IsTrue old.is_open
      → IsPage old.now start limit max_bytes entries → IsPageOf m start limit max_bytes entries
  page_at start limit max_bytes entries live page = record {
    held = λ e has. let it = page.held e has in (it.0, (sees live e.0 e.1).0 it.1);
    rising = page.rising;
    most = page.most;
    in_time = page.in_time;
    complete = λ key text from is. page.complete key text from ((sees live key text).1 is);
  }

  module _ (request : HttpRequest (List ℕ)) (response : Response) where
    from_map : (bare : Bool) (start : List ℕ) (limit : ℕ) → ListsFrom (outcome old response new) bare (headers_of request) start limit
        → Leads new (λ after. ListsFromMap (outcome m response after) bare (headers_of request) start limit)
    from_map bare start limit (kept, inl (live, inl (entries, page, shown))) =
        (m, (refl, inl (inl (entries, page_at start limit max_page_bytes entries live page, shown))), kept_sees kept)
    from_map bare start limit (kept, inl (live, inr any)) = (m, (refl, inl (inr any)), kept_sees kept)
    from_map bare start limit (kept, inr failed) = (m, (refl, inr failed), kept_sees kept)

    lists_map : (bare : Bool) → Lists (outcome old response new) bare (headers_of request) (query_of request)
        → Leads new (λ after. ListsMap (outcome m response after) bare (headers_of request) (query_of request))
    lists_map bare (inl (limit, asks, from)) =
        let it = from_map bare (start_of (query_of request)) limit from in
        (it.0, inl (limit, asks, it.1), it.2)
    lists_map bare (inr (kept, why)) = (m, inr (refl, why), kept_sees kept)

    pub answered_list : AnsweredList request (outcome old response new)
        → Leads new (λ after. AnsweredListMap request (outcome m response after))
    answered_list (inl (is, lists)) =
        let it = lists_map (is_bare (method_of request) (headers_of request)) lists in
        (it.0, inl (is, it.1), it.2)
    answered_list (inr (other, kept, sent)) = (m, inr (other, refl, sent), kept_sees kept)

  module _ {V : Type 0} (of : Codec V) where
    module _ (headers : Entries FieldValue) (key body : List ℕ) (response : Response) where
      -- a put over what the map has there
      abbrev ValueAt : Option (List ℕ) → Map → Type 0
      ValueAt o after =
          ((text : List ℕ) × IsTextOf of body text × (after ≡ with_text m key text)
          × IsStatus (if is_some o then 204 else 201) response)
          ⊎ ((after ≡ m) × ((MeansNoValue of.means body × IsProblem of.means body response) ⊎ IsStatus 503 response))

      abbrev OverAt : Option (List ℕ) → Map → Type 0
      OverAt o after =
          ((condition_on headers o ≡ Met) × ValueAt o after)
          ⊎ ((after ≡ m) × (((condition_on headers o ≢ Met) × IsStatus 412 response) ⊎ IsStatus 503 response))

      puts_at : (current : Option (List ℕ)) → IfMet (condition_on headers current) (outcome old response new)
          (PutsOver of (outcome old response new) key body current) → Leads new (OverAt current)
      puts_at current (inl (met, inl (live, late, text, is, put, status))) =
          (with_text m key text, inl (met, inl (text, is, refl, status)), put_sees key text live put)
      puts_at current (inl (met, inr (kept, why))) = (m, inl (met, inr (refl, why)), kept_sees kept)
      puts_at current (inr (kept, why)) = (m, inr (refl, why), kept_sees kept)

      pub puts_map : Puts of (outcome old response new) headers key body
          → Leads new (λ after. PutsMap of (outcome m response after) headers key body)
      puts_map (inl (live, current, is, puts)) =
          let it = puts_at current puts in
          (it.0, subst (λ o. OverAt o it.0) (sym (current_at key current live is)) it.1, it.2)
      puts_map (inr (kept, failed)) = (m, inr (refl, inr failed), kept_sees kept)

    answered_at : (key : List ℕ) (request : HttpRequest (List ℕ)) (response : Response)
        → AnsweredAt of key request (outcome old response new)
        → Leads new (λ after. AnsweredAtMap of key request (outcome m response after))
    answered_at key request response (inl (is, reads)) =
        let it = reads_map (headers_of request) key response (is_bare (method_of request) (headers_of request)) reads in
        (it.0, inl (is, it.1), it.2)
    answered_at key request response (inr (inl (is, puts))) =
        let it = puts_map (headers_of request) key (body_of request) response puts in
        (it.0, inr (inl (is, it.1)), it.2)
    answered_at key request response (inr (inr (inl (is, removes)))) =
        let it = removes_map (headers_of request) key response removes in
        (it.0, inr (inr (inl (is, it.1))), it.2)
    answered_at key request response (inr (inr (inr (is, kept, sent)))) =
        (m, inr (inr (inr (is, refl, sent))), kept_sees kept)

    pub answered_map : (request : HttpRequest (List ℕ)) (response : Response) → Answered of request (outcome old response new)
        → Leads new (AnsweredMap of m request response)
    answered_map request response (inl (key, is, answer)) =
        let it = answered_at key request response answer in
        (it.0, inl (key, is, it.1), it.2)
    answered_map request response (inr (inl (is, lists))) =
        let it = answered_list request response lists in
        (it.0, inr (inl (is, it.1)), it.2)
    answered_map request response (inr (inr (none, no_list, (kept, sent)))) =
        (m, inr (inr (none, no_list, refl, sent)), kept_sees kept)

    pub answered_map_for : (hosts : List (List ℕ)) (request : HttpRequest (List ℕ)) (response : Response)
        → AnsweredFor hosts of request (outcome old response new) → Leads new (AnsweredMapFor hosts of m request response)
    answered_map_for hosts request response (inl (served, answer)) =
        let it = answered_map request response answer in
        (it.0, inl (served, it.1), it.2)
    answered_map_for hosts request response (inr (other, (kept, sent))) = (m, inr (other, refl, sent), kept_sees kept)

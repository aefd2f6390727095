-- The store as a map from keys to texts.
use Rattle.std.specs.Prelude.{◌≡◌, ◌≢◌, ◌⊎◌, ◌↔◌, ◌≤◌, ℕ, List, [], ◌∷◌, map, length, Bool, false, bytes_eq}
use Rattle.std.specs.Prelude.{Option, Some, None, is_some, if◌then◌else◌, IsTrue}
use Rattle.std.specs.declared.cmp.Ordering.TheVariants.{Less}
use Rattle.std.specs.Ordering.{nat_cmp}
use Rattle.std.specs.Cmp.Lexicographic.{slice_cmp}
use Rattle.std.specs.List.Sorted.{IsStrictlySortedBy}
use Rattle.sqlite_rules.specs.Lists.{Has}
use Rattle.http.specs.declared.request.Request.{Request as HttpRequest}
use Rattle.http.specs.Request.{body_of}
use Rattle.http_header.specs.FieldValue.{FieldValue}
use Rattle.http_header.specs.HeaderMap.{Entries}
use Rattle.http_server.specs.declared.response.Response.{Response}
use Rattle.http_server.specs.Response.{IsResponse}
use Rattle.sqlite.specs.Effect.{Database}
use Rattle.sqlite.specs.State.{State}
use Rattle.rows.specs.Entries.{Holds, IsFrom, IsFull, StopsInTime, IsServing}
use Rattle.store.specs.declared.conditions.Condition.TheVariants.{Met}
use Rattle.store.specs.Routes.{IsEntry, IsRead, IsOther, path_of, method_of, headers_of, put_method, delete_method}
use Rattle.store.specs.Hosts.{is_for_host}
use Rattle.store.specs.Lists.{IsList, AsksFor, query_of, start_of, max_page_bytes, object_text}
use Rattle.store.specs.Answered.{allow_field, allow_list_field, problem_field, limit_problem, IsTextOf, MeansNoValue, IsProblem, IsStatus}
use Rattle.store.specs.Answered.{Codec, Outcome, outcome, condition_on, is_bare, Shows}

-- the text of each key that has one
abbrev pub Map : Type 0
Map = List ℕ → Option (List ℕ)

-- no key has a text
abbrev pub empty : Map
empty key = None

-- the map with this text under this key
abbrev pub with_text : Map → List ℕ → List ℕ → Map
with_text m key text other = if bytes_eq other key then Some text else m other

-- the map without the key
abbrev pub without_key : Map → List ℕ → Map
without_key m key other = if bytes_eq other key then None else m other

-- A read shows the text of the key as the conditions of the request say, or that there is none. It may fail instead. It
-- changes nothing.
abbrev pub ReadsMap : Outcome Map → Bool → Entries FieldValue → List ℕ → Type 0
ReadsMap o bare headers key = (o.new ≡ o.old) × (Shows bare headers (o.old key) o.response ⊎ IsStatus 503 o.response)

-- The key gets the canonical text of the value that the body means, or nothing changes. If the body means none, the response
-- says why.
abbrev pub PutsValueMap : {V : Type 0} → Codec V → Outcome Map → List ℕ → List ℕ → Type 0
PutsValueMap of o key body =
    ((text : List ℕ) × IsTextOf of body text × (o.new ≡ with_text o.old key text)
    × IsStatus (if is_some (o.old key) then 204 else 201) o.response)
    ⊎ ((o.new ≡ o.old) × ((MeansNoValue of.means body × IsProblem of.means body o.response) ⊎ IsStatus 503 o.response))

-- A put changes the map only if the conditions of the request hold for what the key has: with `If-Match`, for the text whose
-- tag the client knows.
abbrev pub PutsMap : {V : Type 0} → Codec V → Outcome Map → Entries FieldValue → List ℕ → List ℕ → Type 0
PutsMap of o headers key body =
    ((condition_on headers (o.old key) ≡ Met) × PutsValueMap of o key body)
    ⊎ ((o.new ≡ o.old) × (((condition_on headers (o.old key) ≢ Met) × IsStatus 412 o.response) ⊎ IsStatus 503 o.response))

-- A removal takes the text of the key only if there is one and the conditions hold for it. Any other changes nothing.
abbrev pub RemovesMap : Outcome Map → Entries FieldValue → List ℕ → Type 0
RemovesMap o headers key =
    (IsTrue (is_some (o.old key)) × (condition_on headers (o.old key) ≡ Met) × (o.new ≡ without_key o.old key)
    × IsStatus 204 o.response)
    ⊎ ((o.new ≡ o.old) × (((o.old key ≡ None) × IsStatus 404 o.response)
    ⊎ ((IsTrue (is_some (o.old key)) × (condition_on headers (o.old key) ≢ Met) × IsStatus 412 o.response)
    ⊎ IsStatus 503 o.response)))

-- The entries are keys of the map that do not come before `start`, with their texts, in the byte order of the keys, each once. A
-- page has at most `limit` entries, and ends with the entry that brings it to `max_bytes`. A key from `start` on that has a text
-- is missing only if the page is full and the key comes after all of its keys.
pub record IsPageOf (m : Map) (start : List ℕ) (limit max_bytes : ℕ) (entries : List (List ℕ × List ℕ)) : Type 0 where
  pub held : (e : List ℕ × List ℕ) → Has entries e → IsFrom start e.0 × (m e.0 ≡ Some e.1)
  pub rising : IsStrictlySortedBy (slice_cmp nat_cmp) (map (λ e. e.0) entries)
  pub most : length entries ≤ limit
  pub in_time : StopsInTime max_bytes entries
  pub complete : (key text : List ℕ) → IsFrom start key → m key ≡ Some text → Has entries (key, text)
      ⊎ (IsFull limit max_bytes entries × ((e : List ℕ × List ℕ) → Has entries e → slice_cmp nat_cmp e.0 key ≡ Less))

-- A page of the entries from a key on is shown as one object, or the response is right for any page. It may fail instead. It
-- changes nothing.
abbrev pub ListsFromMap : Outcome Map → Bool → Entries FieldValue → List ℕ → ℕ → Type 0
ListsFromMap o bare headers start limit =
    (o.new ≡ o.old) × ((((entries : List (List ℕ × List ℕ)) × IsPageOf o.old start limit max_page_bytes entries
    × Shows bare headers (Some (object_text entries)) o.response)
    ⊎ ((text : List ℕ) → Shows bare headers (Some text) o.response))
    ⊎ IsStatus 503 o.response)

-- A query shows a page of the entries from the key that it gives, at most as many as it asks for. It is refused if its limit is
-- not a number from 1 to 1000.
abbrev pub ListsMap : Outcome Map → Bool → Entries FieldValue → List ℕ → Type 0
ListsMap o bare headers query =
    ((limit : ℕ) × AsksFor query limit × ListsFromMap o bare headers (start_of query) limit)
    ⊎ ((o.new ≡ o.old) × ((((limit : ℕ) → AsksFor query limit → ⊥) × IsResponse 400 (problem_field ∷ []) limit_problem o.response)
    ⊎ IsStatus 503 o.response))

-- the response to a request for the list of entries, by its method
abbrev pub AnsweredListMap : HttpRequest (List ℕ) → Outcome Map → Type 0
AnsweredListMap request o =
    (IsRead (method_of request) × ListsMap o (is_bare (method_of request) (headers_of request)) (headers_of request) (query_of request))
    ⊎ ((IsRead (method_of request) → ⊥) × (o.new ≡ o.old) × IsResponse 405 (allow_list_field ∷ []) [] o.response)

-- the response to a request for an entry, by its method
abbrev pub AnsweredAtMap : {V : Type 0} → Codec V → List ℕ → HttpRequest (List ℕ) → Outcome Map → Type 0
AnsweredAtMap of key request o =
    (IsRead (method_of request) × ReadsMap o (is_bare (method_of request) (headers_of request)) (headers_of request) key)
    ⊎ (((method_of request ≡ put_method) × PutsMap of o (headers_of request) key (body_of request))
    ⊎ (((method_of request ≡ delete_method) × RemovesMap o (headers_of request) key)
    ⊎ (IsOther (method_of request) × (o.new ≡ o.old) × IsResponse 405 (allow_field ∷ []) [] o.response)))

-- the response to a request for a host that is served, from the map before it to the map after it
abbrev pub AnsweredMap : {V : Type 0} → Codec V → Map → HttpRequest (List ℕ) → Response → Map → Type 0
AnsweredMap of m request response after =
    ((key : List ℕ) × IsEntry (path_of request) key × AnsweredAtMap of key request (outcome m response after))
    ⊎ ((IsList (path_of request) × AnsweredListMap request (outcome m response after))
    ⊎ (((key : List ℕ) → IsEntry (path_of request) key → ⊥) × (IsList (path_of request) → ⊥) × (after ≡ m) × IsStatus 404 response))

-- the response to a request, from the map before it to the map after it. 421: it is for no host that is served.
abbrev pub AnsweredMapFor : {V : Type 0} → List (List ℕ) → Codec V → Map → HttpRequest (List ℕ) → Response → Map → Type 0
AnsweredMapFor hosts of m request response after =
    (IsTrue (is_for_host hosts request) × AnsweredMap of m request response after)
    ⊎ ((is_for_host hosts request ≡ false) × (after ≡ m) × IsStatus 421 response)

-- the rows of a database are the entries of the map
abbrev pub IsMapOf : Database → Map → Type 0
IsMapOf db m = (key text : List ℕ) → Holds db key text ↔ (m key ≡ Some text)

-- the connection sees the entries of the map, unless it is shut
abbrev pub SeesMap : State → Map → Type 0
SeesMap s m = IsTrue s.is_open → IsMapOf s.now m

-- the connection serves a store whose rows are the entries of the map, unless it is shut
abbrev pub ServesMap : State → Map → Type 0
ServesMap s m = IsServing s × SeesMap s m

-- What the store answers to a request, and what becomes of its rows.
use Rattle.std.specs.Prelude.{◌≡◌, ◌≢◌, ◌⊎◌, ◌||◌, ℕ, List, [], ◌∷◌, ◌++◌, Bool, true, false, bytes_eq, Option}
use Rattle.std.specs.Prelude.{Some, None, is_some, option_map, if◌then◌else◌, codes, IsTrue}
use Rattle.sha2.specs.Sha256.{sha256}
use Rattle.hex.specs.Hex.{encode_lower}
use Rattle.http.specs.declared.request.Request.{Request as HttpRequest}
use Rattle.http.specs.Request.{body_of}
use Rattle.http_header.specs.FieldValue.{FieldValue}
use Rattle.http_header.specs.HeaderMap.{Entries}
use Rattle.http1.specs.Fields.{Header}
use Rattle.http_server.specs.declared.response.Response.{Response}
use Rattle.http_server.specs.Response.{IsResponse}
use Rattle.miniserde.specs.Tree.{Tree}
use Rattle.miniserde.specs.Value.{IsJson}
use Rattle.miniserde.specs.Meaning.{Meaning}
use Rattle.miniserde.specs.Compact.{compact}
use Rattle.sqlite.specs.Effect.{Database}
use Rattle.sqlite.specs.State.{State, HasCleanDisk}
use Rattle.rows.specs.Entries.{Holds, HasKey, IsStore, IsPage, IsPut, IsRemoved, IsServing, Keeps}
use Rattle.rows.specs.Values.{canonical_text}
use Rattle.store.specs.declared.conditions.Condition.{Condition}
use Rattle.store.specs.declared.conditions.Condition.TheVariants.{Met, Failed, Cached}
use Rattle.store.specs.declared.reason.Reason.{Reason}
use Rattle.store.specs.Conditions.{condition_at, wants_none}
use Rattle.store.specs.Hosts.{is_for_host}
use Rattle.store.specs.Reasons.{IsReason, problem, problem_text}
use Rattle.store.specs.Lists.{IsList, AsksFor, query_of, start_of, max_page_bytes, object_text}
use Rattle.store.specs.Routes.{IsEntry, IsRead, IsOther, path_of, method_of, headers_of, head_method, put_method, delete_method}

-- the field that says that a body is JSON
abbrev pub json_field : Header
json_field = (codes "content-type", codes "application/json")

-- the mark of a quotation
abbrev pub quote : ℕ
quote = 34

-- the strong entity tag of a text: its SHA-256 in hex, in quotes
abbrev pub entity_tag : List ℕ → List ℕ
entity_tag text = quote ∷ (encode_lower (sha256 text) ++ quote ∷ [])

-- the field that has a tag
abbrev pub etag_field : List ℕ → Header
etag_field tag = (codes "etag", tag)

-- the fields of a response that shows a text
abbrev pub shown_fields : List ℕ → List Header
shown_fields text = json_field ∷ etag_field (entity_tag text) ∷ []

-- the field that says that a body is the details of a problem (RFC 9457, section 3)
abbrev pub problem_field : Header
problem_field = (codes "content-type", codes "application/problem+json")

-- the field that says by which methods an entry is requested
abbrev pub allow_field : Header
allow_field = (codes "allow", codes "GET, HEAD, PUT, DELETE")

-- the field that says by which methods the list of entries is requested
abbrev pub allow_list_field : Header
allow_list_field = (codes "allow", codes "GET, HEAD")

-- the details of the problem that a limit is not valid
abbrev pub limit_problem : List ℕ
limit_problem = compact (problem (codes "`limit` must be a number from 1 to 1000") None)

-- how the values of a type are read and written: which trees mean which values, and the tree of a value
pub record Codec (V : Type 0) : Type 1 where
  pub means : Meaning V
  pub tree : V → Tree

-- the codec whose fields are the arguments
abbrev pub codec : {V : Type 0} → Meaning V → (V → Tree) → Codec V
codec means tree = record { means = means; tree = tree }

-- what a call leads to: from the state before, by its response, to the state after
pub record Outcome {ℓ} (S : Type ℓ) : Type ℓ where
  pub old : S
  pub response : Response
  pub new : S

-- the outcome whose fields are the arguments
abbrev pub outcome {ℓ} : {S : Type ℓ} → S → Response → S → Outcome S
outcome old response new = record { old = old; response = response; new = new }

-- the body means a value whose canonical text is this
abbrev pub IsTextOf : {V : Type 0} → Codec V → List ℕ → List ℕ → Type 0
IsTextOf {V} of body text = (t : Tree) × (v : V) × IsJson body t × of.means.reads t v × (text ≡ canonical_text (of.tree v))

-- the body means no value
abbrev pub MeansNoValue : {V : Type 0} → Meaning V → List ℕ → Type 0
MeansNoValue {V} means body = (t : Tree) → IsJson body t → (v : V) → means.reads t v → ⊥

-- the response says by a true reason why the body means no value
abbrev pub IsProblem : {V : Type 0} → Meaning V → List ℕ → Response → Type 0
IsProblem means body response =
    (reason : Reason) × IsReason means body reason × IsResponse 400 (problem_field ∷ []) (problem_text reason) response

-- the response is empty and has this status
abbrev pub IsStatus : ℕ → Response → Type 0
IsStatus code response = IsResponse code [] [] response

-- what the conditions of a request say of the text of a key, if it has one
abbrev pub condition_on : Entries FieldValue → Option (List ℕ) → Condition
condition_on headers current = condition_at headers (option_map entity_tag current)

-- The response has no body and no tag: the method is HEAD, or `If-None-Match` is `*`, which names no tag.
abbrev pub is_bare : List ℕ → Entries FieldValue → Bool
is_bare method headers = bytes_eq method head_method || wants_none headers

-- The response to a read of a text: 200 with the text, 304 with its tag if `If-None-Match` lists that, or 412 if `If-Match` does
-- not hold (RFC 9110, sections 13.1.1, 13.1.2 and 15.4.5). A bare one has neither the text nor its tag.
abbrev pub ShownBy : Bool → Condition → List ℕ → Response → Type 0
ShownBy false Met text response = IsResponse 200 (shown_fields text) text response
ShownBy true Met text response = IsResponse 200 (json_field ∷ []) [] response
ShownBy false Cached text response = IsResponse 304 (etag_field (entity_tag text) ∷ []) [] response
ShownBy true Cached text response = IsStatus 304 response
ShownBy false Failed text response = IsStatus 412 response
ShownBy true Failed text response = IsStatus 412 response

-- the response to a read of a key. 404: it has no text, whatever the conditions are (section 13.2.1).
abbrev pub Shows : Bool → Entries FieldValue → Option (List ℕ) → Response → Type 0
Shows bare headers None response = IsStatus 404 response
Shows bare headers (Some text) response = ShownBy bare (condition_on headers (Some text)) text response

-- the body of the key's row, if there is one
abbrev pub IsCurrent : Database → List ℕ → Option (List ℕ) → Type 0
IsCurrent db key None = HasKey db key → ⊥
IsCurrent db key (Some text) = Holds db key text

-- the rows are as before, and the response is empty and has this status
abbrev pub LeavesAt : ℕ → Outcome State → Type 0
LeavesAt code o = Keeps o.old o.new × IsStatus code o.response

-- the response to a read. 503: the database failed, or an allocation. Reads change no row.
abbrev pub Reads : Outcome State → Bool → Entries FieldValue → List ℕ → Type 0
Reads o bare headers key =
    Keeps o.old o.new × ((IsTrue o.old.is_open × (current : Option (List ℕ)) × IsCurrent o.old.now key current
    × Shows bare headers current o.response)
    ⊎ IsStatus 503 o.response)

-- What becomes of a text that is put under a key, with this status if it is. The connection is then open, so what it serves
-- (`IsServing`) is committed.
abbrev pub PutsAs : Outcome State → List ℕ → List ℕ → ℕ → Type 0
PutsAs o key text code =
    (IsTrue o.old.is_open × IsTrue o.new.is_open × IsPut o.old.now o.new.now key text × IsStatus code o.response)
    ⊎ LeavesAt 503 o

-- What becomes of the row of a key that is removed. If it is, the connection is open, so what it serves (`IsServing`) is
-- committed.
abbrev pub TakesRow : Outcome State → List ℕ → Type 0
TakesRow o key =
    (IsTrue o.old.is_open × IsTrue o.new.is_open × IsRemoved o.old.now o.new.now key × IsStatus 204 o.response)
    ⊎ LeavesAt 503 o

-- The body means a value, and its canonical text is put under the key, with this status if it is. The connection is then open,
-- so what it serves is committed. 400: the body means no value, and the response says why. 503: the database failed, or an
-- allocation.
abbrev pub PutsValue : {V : Type 0} → Codec V → Outcome State → List ℕ → List ℕ → ℕ → Type 0
PutsValue of o key body code =
    (IsTrue o.old.is_open × IsTrue o.new.is_open × (text : List ℕ) × IsTextOf of body text × IsPut o.old.now o.new.now key text
    × IsStatus code o.response)
    ⊎ (Keeps o.old o.new × ((MeansNoValue of.means body × IsProblem of.means body o.response) ⊎ IsStatus 503 o.response))

-- The step, if the conditions hold. 412: they do not (RFC 9110, sections 13.1.1 and 13.1.2). 503: that could not be found out.
abbrev pub IfMet : Condition → Outcome State → Type 0 → Type 0
IfMet condition o Step =
    ((condition ≡ Met) × Step) ⊎ (Keeps o.old o.new × (((condition ≢ Met) × IsStatus 412 o.response) ⊎ IsStatus 503 o.response))

-- a put of a value over what the key has. 201: nothing. 204: a text.
abbrev pub PutsOver : {V : Type 0} → Codec V → Outcome State → List ℕ → List ℕ → Option (List ℕ) → Type 0
PutsOver of o key body current = PutsValue of o key body (if is_some current then 204 else 201)

-- the response to a put
abbrev pub Puts : {V : Type 0} → Codec V → Outcome State → Entries FieldValue → List ℕ → List ℕ → Type 0
Puts of o headers key body =
    (IsTrue o.old.is_open × (current : Option (List ℕ)) × IsCurrent o.old.now key current
    × IfMet (condition_on headers current) o (PutsOver of o key body current))
    ⊎ LeavesAt 503 o

-- a removal of what the key has. 204: no row has the key any more. 404: none had it. 412: the conditions do not hold.
abbrev pub RemovesOver : Outcome State → Entries FieldValue → List ℕ → Option (List ℕ) → Type 0
RemovesOver o headers key None = LeavesAt 404 o
RemovesOver o headers key (Some text) = IfMet (condition_on headers (Some text)) o (TakesRow o key)

-- the response to a removal
abbrev pub Removes : Outcome State → Entries FieldValue → List ℕ → Type 0
Removes o headers key =
    (IsTrue o.old.is_open × (current : Option (List ℕ)) × IsCurrent o.old.now key current × RemovesOver o headers key current)
    ⊎ LeavesAt 503 o

-- the response to a request for an entry, by its method
abbrev pub AnsweredAt : {V : Type 0} → Codec V → List ℕ → HttpRequest (List ℕ) → Outcome State → Type 0
AnsweredAt of key request o =
    (IsRead (method_of request) × Reads o (is_bare (method_of request) (headers_of request)) (headers_of request) key)
    ⊎ (((method_of request ≡ put_method) × Puts of o (headers_of request) key (body_of request))
    ⊎ (((method_of request ≡ delete_method) × Removes o (headers_of request) key)
    ⊎ (IsOther (method_of request) × Keeps o.old o.new × IsResponse 405 (allow_field ∷ []) [] o.response)))

-- The response is the bare one of this condition, for any text. 503: the database failed, or an allocation.
abbrev pub ShowsAny : Outcome State → Condition → Type 0
ShowsAny o condition =
    Keeps o.old o.new × ((IsTrue o.old.is_open × ((text : List ℕ) → ShownBy true condition text o.response)) ⊎ IsStatus 503 o.response)

-- A page of the entries from a key on is shown as one object, or the response is right for any page. 503: the database failed, or
-- an allocation.
abbrev pub ListsFrom : Outcome State → Bool → Entries FieldValue → List ℕ → ℕ → Type 0
ListsFrom o bare headers start limit =
    Keeps o.old o.new × ((IsTrue o.old.is_open × (((entries : List (List ℕ × List ℕ))
    × IsPage o.old.now start limit max_page_bytes entries × Shows bare headers (Some (object_text entries)) o.response)
    ⊎ ((text : List ℕ) → Shows bare headers (Some text) o.response)))
    ⊎ IsStatus 503 o.response)

-- the response to a query for entries. 400: the query gives a limit that is not a number from 1 to 1000.
abbrev pub Lists : Outcome State → Bool → Entries FieldValue → List ℕ → Type 0
Lists o bare headers query =
    ((limit : ℕ) × AsksFor query limit × ListsFrom o bare headers (start_of query) limit)
    ⊎ (Keeps o.old o.new × ((((limit : ℕ) → AsksFor query limit → ⊥) × IsResponse 400 (problem_field ∷ []) limit_problem o.response)
    ⊎ IsStatus 503 o.response))

-- the response to a request for the list of entries, by its method
abbrev pub AnsweredList : HttpRequest (List ℕ) → Outcome State → Type 0
AnsweredList request o =
    (IsRead (method_of request) × Lists o (is_bare (method_of request) (headers_of request)) (headers_of request) (query_of request))
    ⊎ ((IsRead (method_of request) → ⊥) × Keeps o.old o.new × IsResponse 405 (allow_list_field ∷ []) [] o.response)

-- what a request for a host that is served leads to
abbrev pub Answered : {V : Type 0} → Codec V → HttpRequest (List ℕ) → Outcome State → Type 0
Answered of request o =
    ((key : List ℕ) × IsEntry (path_of request) key × AnsweredAt of key request o)
    ⊎ ((IsList (path_of request) × AnsweredList request o)
    ⊎ (((key : List ℕ) → IsEntry (path_of request) key → ⊥) × (IsList (path_of request) → ⊥) × LeavesAt 404 o))

-- What a request leads to. 421: it is for no host that is served (RFC 9110, section 15.5.20), and nothing changes.
abbrev pub AnsweredFor : {V : Type 0} → List (List ℕ) → Codec V → HttpRequest (List ℕ) → Outcome State → Type 0
AnsweredFor hosts of request o =
    (IsTrue (is_for_host hosts request) × Answered of request o) ⊎ ((is_for_host hosts request ≡ false) × LeavesAt 421 o)

-- the connection is inside of a transaction, where it sees a store, and its last commit is this store
pub record IsInside (base : Database) (s : State) : Type 0 where
  pub inside : s.in_transaction ≡ true
  pub is_open : IsTrue s.is_open
  pub committed : s.committed ≡ base
  pub store : IsStore s.now
  pub last : IsStore base

-- the transaction is rolled back to its last commit, which is this store, unless the connection is shut
pub record IsLost (base : Database) (s : State) : Type 0 where
  pub outside : s.in_transaction ≡ false
  pub back : IsTrue s.is_open → (s.now ≡ base) × (s.committed ≡ base)
  pub last : IsStore base

-- The connection serves a store: each call is a commit by itself, or a part of a transaction over this last commit.
abbrev pub IsReady : Option Database → State → Type 0
IsReady None s = IsServing s
IsReady (Some base) s = IsInside base s

-- by this step the connection goes on, or its transaction is lost
abbrev pub GoesIn : Option Database → State → Type 0 → Type 0
GoesIn None new Step = IsServing new × Step
GoesIn (Some base) new Step = (IsInside base new × Step) ⊎ IsLost base new

-- A connection that serves a store goes on, by this step. What is said of values holds if the disk has returned what was
-- written.
abbrev pub Goes : State → State → Type 0 → Type 0
Goes old new Step = HasCleanDisk new → HasCleanDisk old × ((mode : Option Database) → IsReady mode old → GoesIn mode new Step)

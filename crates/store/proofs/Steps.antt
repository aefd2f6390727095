-- The exits of a call on one entry: what each of them makes of the rows, by what the calls of `rows` say.
use Rattle.std.proofs.Common.{◌≡◌, ◌⊎◌, inl, inr, ℕ, List, Bool, true, Option, Some, None, Result, Ok, Err, IfOk, OnOk}
use Rattle.std.proofs.Common.{IsTrue, refl, sym, subst, ◌∙◌}
use Rattle.http_header.specs.FieldValue.{FieldValue}
use Rattle.http_header.specs.HeaderMap.{Entries}
use Rattle.http_server.specs.declared.response.Response.{Response}
use Rattle.sqlite.specs.Effect.{Database}
use Rattle.sqlite.specs.State.{State, HasCleanDisk, IsUnchanged, IsRolledBack}
use Rattle.rows.specs.Entries.{entry_schema, IsStore, IsPage, IsPut, IsRemoved, IsServing, StaysInside, Keeps, Aborts}
use Rattle.store.specs.declared.conditions.Condition.{Condition}
use Rattle.store.specs.Conditions.{condition as condition_of}
use Rattle.store.specs.Lists.{max_page_bytes, object_text}
use Rattle.store.specs.Answered.{Codec, Outcome, outcome, entity_tag, IsTextOf, IsStatus, IsCurrent, condition_on, ShownBy, Shows}
use Rattle.store.specs.Answered.{Reads, PutsAs, PutsValue, IfMet, PutsOver, Puts, ShowsAny, ListsFrom}
use Rattle.store.specs.Answered.{TakesRow, RemovesOver, Removes, IsInside, IsLost, IsReady, GoesIn, Goes}

pub keeps_self : (s : State) → Keeps s s
keeps_self s live = (live, refl)

pub keeps_then : (a b c : State) → Keeps a b → Keeps b c → Keeps a c
keeps_then a b c p q live =
    let late = q live in
    let soon = p late.0 in
    (soon.0, late.1 ∙ soon.1)

-- a connection that is ready goes on, and a step is what it says
on_in : (mode : Option Database) (s : State) (P : Type 0) → IsReady mode s → P → GoesIn mode s P
on_in None s P ready p = (ready, p)
on_in (Some base) s P ready p = inl (ready, p)

goes_in_by : (mode : Option Database) (s : State) (P Q : Type 0) → (P → Q) → GoesIn mode s P → GoesIn mode s Q
goes_in_by None s P Q f (ready, p) = (ready, f p)
goes_in_by (Some base) s P Q f (inl (ready, p)) = inl (ready, f p)
goes_in_by (Some base) s P Q f (inr lost) = inr lost

-- a connection that is left alone goes on
pub stays : (s : State) (P : Type 0) → P → Goes s s P
stays s P p clean = (clean, λ mode ready. on_in mode s P ready p)

-- a step is what it says
pub goes_by : (a b : State) (P Q : Type 0) → (P → Q) → Goes a b P → Goes a b Q
goes_by a b P Q f goes clean =
    let it = goes clean in
    (it.0, λ mode ready. goes_in_by mode b P Q f (it.1 mode ready))

-- a step that loses no transaction
abbrev pub Stays : State → State → Type 0 → Type 0
Stays a b Step = HasCleanDisk b → HasCleanDisk a × ((mode : Option Database) → IsReady mode a → IsReady mode b × Step)

pub then : (a b c : State) (P Q R : Type 0) → Stays a b P → Goes b c Q → (P → Q → R) → Goes a c R
then a b c P Q R first second f clean =
    let late = second clean in
    let soon = first late.0 in (
      soon.0,
      λ mode ready.
          let one = soon.1 mode ready in
          goes_in_by mode c Q R (λ q. f one.1 q) (late.1 mode one.0),
    )

-- a call that changed nothing leaves a connection that serves
pub unchanged_serving : (a b : State) → IsServing a → IsUnchanged a b → IsServing b
unchanged_serving a b s same = (
  same.0.mode ∙ s.0,
  λ live.
      let was = s.1 same.0.was_open in
      (same.0.committed_is ∙ was.0 ∙ sym same.0.now_is, subst IsStore (sym same.0.now_is) was.1),
)

-- what holds of a value of a result
pub result_by : {A E : Type 0} (r : Result A E) (P Q : A → Type 0) → IfOk r P → ((a : A) → P a → Q a) → IfOk r Q
result_by (Ok a) P Q h f = f a h
result_by (Err e) P Q h f = tt

-- what holds if a result is no error
pub ok_by : {A E : Type 0} (r : Result A E) (P Q : Type 0) → (P → Q) → OnOk r P → OnOk r Q
ok_by (Ok a) P Q f h = f h
ok_by (Err e) P Q f h = tt

-- a text that was put is that of the value that the body means
pub value_by : {V : Type 0} (of : Codec V) (o : Outcome State) (key body text : List ℕ) (code : ℕ)
    → IsTextOf of body text → PutsAs o key text code → PutsValue of o key body code
value_by of o key body text code is (inl (live, on, put, status)) = inl (live, on, text, is, put, status)
value_by of o key body text code is (inr (kept, status)) = inr (kept, inr status)

-- what `rows` says of a query that returned
pub record Finds (a b : State) : Type 0 where
  pub clean : HasCleanDisk b → HasCleanDisk a
  pub serving : HasCleanDisk b → IsServing a → IsServing b
  pub live : HasCleanDisk b → IsServing a → IsTrue a.is_open
  pub kept : HasCleanDisk b → IsServing a → Keeps a b
  pub same : HasCleanDisk b → a.now.schema ≡ entry_schema → IsUnchanged a b

-- what `rows` says of a call that failed
pub record Fails (a b : State) : Type 0 where
  pub clean : HasCleanDisk b → HasCleanDisk a
  pub serving : HasCleanDisk b → IsServing a → IsServing b
  pub kept : HasCleanDisk b → IsServing a → Keeps a b
  pub aborts : HasCleanDisk b → a.now.schema ≡ entry_schema → Aborts a b

-- what `rows` says of a call that changed the rows
pub record Changes (a b : State) (Change : Type 0) : Type 0 where
  pub clean : HasCleanDisk b → HasCleanDisk a
  pub serving : HasCleanDisk b → IsServing a → IsServing b
  pub live : HasCleanDisk b → IsServing a → IsTrue a.is_open × IsTrue b.is_open
  pub change : HasCleanDisk b → IsStore a.now → Change
  pub inside : HasCleanDisk b → a.now.schema ≡ entry_schema → IsTrue a.in_transaction → StaysInside a b
  pub store : Change → IsStore b.now

-- what the connection sees inside of its transaction is the same
pub unchanged_inside : (base : Database) (a b : State) → IsInside base a → IsUnchanged a b → IsInside base b
unchanged_inside base a b s same = record {
  inside = same.0.mode ∙ s.inside;
  is_open = same.0.is_open;
  committed = same.0.committed_is ∙ s.committed;
  store = subst IsStore (sym same.0.now_is) s.store;
  last = s.last;
}

-- a transaction that is rolled back is lost
pub rolled_lost : (base : Database) (a b : State) → IsInside base a → IsRolledBack a b → IsLost base b
rolled_lost base a b s rolled = record {
  outside = rolled.autocommit;
  back = λ live. let undone = rolled.undone live in (undone.0 ∙ s.committed, undone.1 ∙ s.committed);
  last = s.last;
}

module _ (a b : State) where
  -- a query finds something of an open connection, and keeps what it sees
  abbrev pub Found : Type 0 → Type 0
  Found P = IsTrue a.is_open × Keeps a b × P

  pub found_in_store : (P : Type 0) → Finds a b → (HasCleanDisk b → IsStore a.now → P) → Stays a b (Found P)
  found_in_store P call p clean = (call.clean clean, by)
    where
      by : (mode : Option Database) → IsReady mode a → IsReady mode b × Found P
      by None s =
          let live = call.live clean s in
          (call.serving clean s, (live, call.kept clean s, p clean (s.1 live).1))
      by (Some base) s =
          let same = call.same clean s.store.schema in
          (unchanged_inside base a b s same, (s.is_open, (λ _. (s.is_open, same.0.now_is)), p clean s.store))

  pub found : (P : Type 0) → Finds a b → (HasCleanDisk b → a.now.schema ≡ entry_schema → P) → Stays a b (Found P)
  found P call p = found_in_store P call (λ clean store. p clean store.schema)

  -- a call that failed keeps the rows, or loses the transaction
  pub failed_keeps : Fails a b → Goes a b (Keeps a b)
  failed_keeps call clean = (call.clean clean, by)
    where
      aborted : (base : Database) → IsInside base a → Aborts a b → GoesIn (Some base) b (Keeps a b)
      aborted base s (inl same) = inl (unchanged_inside base a b s same, λ _. (s.is_open, same.0.now_is))
      aborted base s (inr rolled) = inr (rolled_lost base a b s rolled)

      by : (mode : Option Database) → IsReady mode a → GoesIn mode b (Keeps a b)
      by None s = (call.serving clean s, call.kept clean s)
      by (Some base) s = aborted base s (call.aborts clean s.store.schema)

  pub changed : (Change : Type 0) → Changes a b Change → Goes a b (IsTrue a.is_open × IsTrue b.is_open × Change)
  changed Change call clean = (call.clean clean, by)
    where
      by : (mode : Option Database) → IsReady mode a → GoesIn mode b (IsTrue a.is_open × IsTrue b.is_open × Change)
      by None s =
          let live = call.live clean s in
          (call.serving clean s, (live.0, live.1, call.change clean (s.1 live.0).1))
      by (Some base) s =
          let change = call.change clean s.store in
          let on = call.inside clean s.store.schema s.inside in
          let still : IsInside base b = record {
            inside = on.inside;
            is_open = on.is_open;
            committed = on.committed ∙ s.committed;
            store = call.store change;
            last = s.last;
          } in
          inl (still, (s.is_open, on.is_open, change))

  -- what the key has was shown, or could not be
  pub read_found : (bare : Bool) (headers : Entries FieldValue) (key : List ℕ) (current : Option (List ℕ)) (response : Response)
      → Stays a b (Found (IsCurrent a.now key current)) → Shows bare headers current response ⊎ IsStatus 503 response
      → Goes a b (Reads (outcome a response b) bare headers key)
  read_found bare headers key current response query shown =
      then a b b _ (key ≡ key) (Reads (outcome a response b) bare headers key) query (stays b (key ≡ key) refl) (λ it _. by it shown)
    where
      by : Found (IsCurrent a.now key current) → Shows bare headers current response ⊎ IsStatus 503 response
          → Reads (outcome a response b) bare headers key
      by (live, kept, is) (inl shown) = (kept, inl (live, current, is, shown))
      by (live, kept, is) (inr status) = (kept, inr status)

  -- a page was shown, or could not be
  pub page_found : (bare : Bool) (headers : Entries FieldValue) (start : List ℕ) (limit : ℕ) (entries : List (List ℕ × List ℕ))
      (response : Response) → Stays a b (Found (IsPage a.now start limit max_page_bytes entries))
      → Shows bare headers (Some (object_text entries)) response ⊎ IsStatus 503 response
      → Goes a b (ListsFrom (outcome a response b) bare headers start limit)
  page_found bare headers start limit entries response query shown =
      then a b b _ (start ≡ start) (ListsFrom (outcome a response b) bare headers start limit) query (stays b (start ≡ start) refl)
      (λ it _. by it shown)
    where
      by : Found (IsPage a.now start limit max_page_bytes entries)
          → Shows bare headers (Some (object_text entries)) response ⊎ IsStatus 503 response
          → ListsFrom (outcome a response b) bare headers start limit
      by (live, kept, is) (inl shown) = (kept, inl (live, inl (entries, is, shown)))
      by (live, kept, is) (inr status) = (kept, inr status)

  -- the database could be read, and the response needs no page
  pub any_found : (condition : Condition) (response : Response) → Stays a b (Found (Unit {0}))
      → ((text : List ℕ) → ShownBy true condition text response) ⊎ IsStatus 503 response
      → Goes a b (ShowsAny (outcome a response b) condition)
  any_found condition response query shown =
      then a b b _ (condition ≡ condition) (ShowsAny (outcome a response b) condition) query (stays b (condition ≡ condition) refl)
      (λ it _. by it shown)
    where
      by : Found (Unit {0}) → ((text : List ℕ) → ShownBy true condition text response) ⊎ IsStatus 503 response
          → ShowsAny (outcome a response b) condition
      by (live, kept, is) (inl shown) = (kept, inl (live, shown))
      by (live, kept, is) (inr status) = (kept, inr status)

  -- which is right for any page, if the condition is that of the request whatever the page is
  pub lists_any : (headers : Entries FieldValue) (start : List ℕ) (limit : ℕ) (condition : Condition) (response : Response)
      → ((tag : List ℕ) → condition_of headers tag ≡ condition) → Goes a b (ShowsAny (outcome a response b) condition)
      → Goes a b (ListsFrom (outcome a response b) true headers start limit)
  lists_any headers start limit condition response known shown =
      goes_by a b (ShowsAny (outcome a response b) condition) (ListsFrom (outcome a response b) true headers start limit) by shown
    where
      by : ShowsAny (outcome a response b) condition → ListsFrom (outcome a response b) true headers start limit
      by (kept, inl (live, shown)) = (
        kept,
        inl (live, inr (λ text. subst (λ c. ShownBy true c text response) (sym (known (entity_tag text))) (shown text))),
      )
      by (kept, inr status) = (kept, inr status)

  -- the query was followed by another call, from b to c
  module _ (c : State) where
    module _ {V : Type 0} (of : Codec V) (headers : Entries FieldValue) (key body : List ℕ) (response : Response) where
      value_from : (code : ℕ) → Keeps a b → PutsValue of (outcome b response c) key body code
          → PutsValue of (outcome a response c) key body code
      value_from code keeps (inl (live, late, text, is, put, status)) =
          inl ((keeps live).0, late, text, is, subst (λ db. IsPut db c.now key text) (keeps live).1 put, status)
      value_from code keeps (inr (on, why)) = inr (keeps_then a b c keeps on, why)

      -- a put over what the key has, if the conditions hold for that
      abbrev IfMetOver : State → Option (List ℕ) → Type 0
      IfMetOver s current =
          let o = outcome s response c in
          IfMet (condition_on headers current) o (PutsOver of o key body current)

      over_from : (current : Option (List ℕ)) → Keeps a b → IfMetOver b current → IfMetOver a current
      over_from current keeps (inl (met, value)) = inl (met, value_from _ keeps value)
      over_from current keeps (inr (on, why)) = inr (keeps_then a b c keeps on, why)

      pub put_over : (current : Option (List ℕ)) → Stays a b (Found (IsCurrent a.now key current))
          → Goes b c (IfMetOver b current) → Goes a c (Puts of (outcome a response c) headers key body)
      put_over current query goes = then a b c _ _ (Puts of (outcome a response c) headers key body) query goes (λ it over.
          inl (it.0, current, it.2, over_from current it.1 over))

    module _ (headers : Entries FieldValue) (key : List ℕ) (response : Response) where
      take_from : Keeps a b → TakesRow (outcome b response c) key → TakesRow (outcome a response c) key
      take_from keeps (inl (live, late, removed, status)) =
          inl ((keeps live).0, late, subst (λ db. IsRemoved db c.now key) (keeps live).1 removed, status)
      take_from keeps (inr (on, status)) = inr (keeps_then a b c keeps on, status)

      removes_from : (current : Option (List ℕ)) → Keeps a b → RemovesOver (outcome b response c) headers key current
          → RemovesOver (outcome a response c) headers key current
      removes_from None keeps (on, status) = (keeps_then a b c keeps on, status)
      removes_from (Some text) keeps (inl (met, takes)) = inl (met, take_from keeps takes)
      removes_from (Some text) keeps (inr (on, why)) = inr (keeps_then a b c keeps on, why)

      pub remove_over : (current : Option (List ℕ)) → Stays a b (Found (IsCurrent a.now key current))
          → Goes b c (RemovesOver (outcome b response c) headers key current) → Goes a c (Removes (outcome a response c) headers key)
      remove_over current query goes = then a b c _ _ (Removes (outcome a response c) headers key) query goes (λ it over.
          inl (it.0, current, it.2, removes_from current it.1 over))

-- What becomes of a round at each call, by what the calls of `rows` say.
use Rattle.std.proofs.Common.{◌≡◌, ◌⊎◌, ◌↔◌, inl, inr, ℕ, List, Bool, true, false, not, if◌then◌else◌}
use Rattle.std.proofs.Common.{Some, Result, Ok, Err, is_ok, OnOk, OnErr, IsTrue}
use Rattle.std.proofs.Common.{refl, sym, subst, ◌∙◌, true≢false}
use Rattle.http.specs.declared.request.Request.{Request as HttpRequest}
use Rattle.http_server.specs.declared.response.Response.{Response}
use Rattle.sqlite.specs.Effect.{Database}
use Rattle.sqlite.specs.State.{State, HasCleanDisk}
use Rattle.sqlite.specs.declared.error.Error.{Error}
use Rattle.rows.specs.Entries.{entry_schema, IsStore, IsCommitted, IsBegun, IsBack, IsServing, Keeps, Holds, Aborts}
use Rattle.rows.proofs.Serving.{aborts_keeps, aborts_serving}
use Rattle.store.specs.Hosts.{is_for_host}
use Rattle.store.specs.Answered.{Codec, outcome, IsInside, IsLost, GoesIn}
use Rattle.store.specs.Maps.{Map, IsMapOf, SeesMap, ServesMap, AnsweredMap}
use Rattle.store.specs.Rounds.{IsUnderWay, IsOff, InRound, IsBetween, round_state, AnsweredInRound, SettlesRound}
use Rattle.store.proofs.MapLemmas.{Leads, kept_sees}
use Rattle.store.proofs.Steps.{unchanged_inside, rolled_lost}

-- the round is inside of a transaction or not
pub was_outside : (begun m : Map) (s : State) → IsUnderWay begun s m → s.in_transaction ≡ false → ServesMap s m × (m ≡ begun)
was_outside begun m s (inl it) outside = it
was_outside begun m s (inr it) outside = absurd (true≢false (sym it.1.inside ∙ outside))

pub was_inside : (begun m : Map) (s : State) → IsUnderWay begun s m → s.in_transaction ≡ true
    → (base : Database) × IsInside base s × IsMapOf base begun × SeesMap s m
was_inside begun m s (inl it) inside = absurd (true≢false (sym inside ∙ it.0.0.0))
was_inside begun m s (inr it) inside = it

-- what is seen is the same
same_map : (a b : Database) (m : Map) → b ≡ a → IsMapOf a m → IsMapOf b m
same_map a b m same is key text = subst (λ db. Holds db key text ↔ (m key ≡ Some text)) (sym same) (is key text)

-- a statement that fails inside of a transaction leaves it, or loses it
aborts_off : (begun : Map) (base : Database) (a b : State) → IsInside base a → IsMapOf base begun → Aborts a b → IsOff begun b
aborts_off begun base a b s is (inl same) = (base, inr (unchanged_inside base a b s same), is)
aborts_off begun base a b s is (inr rolled) = (base, inl (rolled_lost base a b s rolled), is)

module _ (begun m : Map) (a b : State) where
  pub begins : (r : Result ℕ Error) → IsUnderWay begun a m → a.in_transaction ≡ false
      → (a.now.schema ≡ entry_schema → OnOk r (IsBegun a b)) → OnOk r (IsTrue a.is_open) → OnErr r (Aborts a b)
      → IsUnderWay begun b m × (IsTrue (is_ok r) → IsTrue b.in_transaction)
  begins (Ok count) way outside begin live aborts =
      let (was, same) = was_outside begun m a way outside in
      let seen = was.0.1 live in
      let it = begin seen.1.schema in
      let inside : IsInside a.now b = record {
        inside = it.inside;
        is_open = it.is_open;
        committed = it.committed ∙ seen.0;
        store = subst IsStore (sym it.now) seen.1;
        last = seen.1;
      } in (
        inr (a.now, inside, subst (IsMapOf a.now) same (was.1 live), λ _. same_map a.now b.now m it.now (was.1 live)),
        λ _. it.inside,
      )
  begins (Err e) way outside begin live aborts =
      let (was, same) = was_outside begun m a way outside in (
        inl ((aborts_serving a b was.0 aborts, kept_sees a b m was.1 (aborts_keeps a b was.0 aborts)), same),
        λ no. absurd (true≢false (sym no)),
      )

  pub commits : (r : Result ℕ Error) → IsUnderWay begun a m → a.in_transaction ≡ true
      → (a.now.schema ≡ entry_schema → OnOk r (IsTrue a.in_transaction × IsCommitted b × (b.now ≡ a.now) × IsTrue b.is_open))
      → OnErr r (Aborts a b)
      → IsBetween (if is_ok r then m else begun) b (is_ok r) × (IsTrue (is_ok r) → IsTrue b.is_open ⊎ (m ≡ begun))
  commits (Ok count) way inside commit aborts =
      let (base, s, is, sees) = was_inside begun m a way inside in
      let it = commit s.store.schema in (
        ((it.1.0, λ _. (it.1.1, subst IsStore (sym it.2) s.store)), λ _. same_map a.now b.now m it.2 (sees s.is_open)),
        λ _. inl it.3,
      )
  commits (Err e) way inside commit aborts =
      let (base, s, is, sees) = was_inside begun m a way inside in
      (aborts_off begun base a b s is aborts, λ no. absurd (true≢false (sym no)))

  pub rolls_back : (r : Result ℕ Error) → IsOff begun a → a.in_transaction ≡ true
      → (a.now.schema ≡ entry_schema → OnOk r (IsTrue a.in_transaction × IsBack a b)) → OnErr r (Aborts a b) → IsOff begun b
  rolls_back r (base, inl lost, is) inside back aborts = absurd (true≢false (sym inside ∙ lost.outside))
  rolls_back (Ok count) (base, inr s, is) inside back aborts =
      let it = (back s.store.schema).1 in
      let lost : IsLost base b = record {
        outside = it.is_outside;
        back = λ live. (it.now live ∙ s.committed, it.committed live ∙ s.committed);
        last = s.last;
      } in
      (base, inl lost, is)
  rolls_back (Err e) (base, inr s, is) inside back aborts = aborts_off begun base a b s is aborts

-- a round that is off is over once the connection is outside of a transaction
pub is_over : (begun : Map) (s : State) (inside : Bool) → inside ≡ s.in_transaction → IsOff begun s → IsBetween begun s (not inside)
is_over begun s true is off = off
is_over begun s false is (base, inl lost, mapped) = (
  (lost.outside, λ live. let it = lost.back live in (it.1 ∙ sym it.0, subst IsStore (sym it.0) lost.last)),
  λ live. same_map base s.now begun (lost.back live).0 mapped,
)
is_over begun s false is (base, inr it, mapped) = absurd (true≢false (sym it.inside ∙ sym is))

-- a call inside of the transaction of a round, which stands if the connection is still inside of it
pub called : (begun : Map) (base : Database) (s : State) (P : Type 0) (Answer : Map → Type 0) (stands : Bool) → IsMapOf base begun
    → GoesIn (Some base) s P → (P → Leads s Answer) → stands ≡ s.in_transaction
    → (after : Map) × InRound begun s stands after × (IsTrue stands → Answer after)
called begun base s P Answer true is (inl (inside, p)) leads same =
    let it = leads p in
    (it.0, inr (base, inside, is, it.2), λ _. it.1)
called begun base s P Answer false is (inl (inside, p)) leads same = absurd (true≢false (sym inside.inside ∙ sym same))
called begun base s P Answer true is (inr lost) leads same = absurd (true≢false (same ∙ lost.outside))
called begun base s P Answer false is (inr lost) leads same = (begun, (base, inl lost, is), λ no. absurd (true≢false (sym no)))

-- a call in a round that stood, whose answer is that of the map
pub answered : {V : Type 0} (hosts : List (List ℕ)) (of : Codec V) (old new : State) (stood stands : Bool)
    (request : HttpRequest (List ℕ)) (response : Response) (Answer : Map → Map → Type 0) → IsTrue (is_for_host hosts request) → stood ≡ true
    → (HasCleanDisk new → HasCleanDisk old × ((begun m : Map) → IsUnderWay begun old m → (after : Map)
    × InRound begun new stands after × (IsTrue stands → Answer m after)))
    → ((m after : Map) → Answer m after → AnsweredMap of m request response after)
    → AnsweredInRound hosts of request (outcome (round_state old stood) response (round_state new stands))
answered hosts of old new stood stands request response Answer served stood_is call leads =
    subst (λ v. AnsweredInRound hosts of request (outcome (round_state old v) response (round_state new stands))) (sym stood_is) (λ clean.
    let it = call clean in (
      it.0,
      λ begun m way.
          let one = it.1 begun m way in
          (one.0, one.1, λ yes. (refl, inl (served, leads m one.0 (one.2 yes)))),
    ))

-- what the call that commits a round says
abbrev pub CommitsRound : State → State → Bool → Type 0
CommitsRound old new kept = HasCleanDisk new → HasCleanDisk old × ((begun m : Map) → IsUnderWay begun old m
    → IsBetween (if kept then m else begun) new kept × (IsTrue kept → IsTrue new.is_open ⊎ (m ≡ begun)))

-- a round that stood and was committed, and one that was dropped
pub kept_round : (old new : State) (stood kept : Bool) → stood ≡ true → kept ≡ true
    → CommitsRound old new kept
    → SettlesRound old stood true new stood
kept_round old new true true is done commit clean =
    let it = commit clean in (
      it.0,
      λ begun m way.
          let (between, open_or) = it.1 begun m way in
          (between, λ _. (refl, refl, open_or refl)),
    )
kept_round old new true false is done commit clean = absurd (true≢false (sym done))
kept_round old new false kept is done commit clean = absurd (true≢false (sym is))

pub lost_round : (old mid new : State) (stood kept stands : Bool) → stood ≡ true → kept ≡ false
    → CommitsRound old mid kept
    → (HasCleanDisk new → HasCleanDisk mid × ((begun : Map) → IsOff begun mid → IsBetween begun new stands))
    → SettlesRound old stood false new stands
lost_round old mid new true false stands is failed commit drop clean =
    let late = drop clean in
    let soon = commit late.0 in
    (soon.0, λ begun m way. (late.1 begun (soon.1 begun m way).0, λ no. absurd (true≢false (sym no))))
lost_round old mid new true true stands is failed commit drop clean = absurd (true≢false failed)
lost_round old mid new false kept stands is failed commit drop clean = absurd (true≢false (sym is))

pub off_round : (old new : State) (stood stands : Bool) → stood ≡ false
    → (HasCleanDisk new → HasCleanDisk old × ((begun : Map) → IsOff begun old → IsBetween begun new stands))
    → SettlesRound old stood false new stands
off_round old new false stands is drop clean =
    let it = drop clean in
    (it.0, λ begun m off. (it.1 begun off, λ no. absurd (true≢false (sym no))))
off_round old new true stands is drop clean = absurd (true≢false is)

-- Between two rounds a connection is shut, if a query of an open one would say so.
pub shut_between : (m : Map) (s : State) (stands : Bool) → stands ≡ true → IsBetween m s stands
    → (s.now.schema ≡ entry_schema → s.is_open ≡ false) → s.is_open ≡ false
shut_between m s true is serves says = by s.is_open refl
  where
    by : (v : Bool) → s.is_open ≡ v → s.is_open ≡ false
    by true live = says (serves.0.1 live).1.schema
    by false shut = shut
shut_between m s false is off says = absurd (true≢false (sym is))

-- A query changes nothing between two rounds.
pub stays_between : (m : Map) (a b : State) (stands : Bool) → stands ≡ true → IsBetween m a stands → (IsServing a → IsServing b)
    → (IsServing a → Keeps a b) → IsBetween m b stands
stays_between m a b true is serves serving kept = (serving serves.0, kept_sees a b m serves.1 (kept serves.0))
stays_between m a b false is off serving kept = absurd (true≢false (sym is))

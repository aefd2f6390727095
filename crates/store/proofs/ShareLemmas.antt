-- A round of connections that share a store is one of a map.
use Rattle.std.proofs.Common.{◌≡◌, ◌⊎◌, inl, ℕ, List, [], ◌∷◌, Bool, true, false, if◌then◌else◌, Option}
use Rattle.std.proofs.Common.{IsTrue, refl, sym, subst, ◌∙◌, true≢false}
use Rattle.http.specs.declared.request.Request.{Request as HttpRequest}
use Rattle.http_server.specs.declared.response.Response.{Response}
use Rattle.http_server.specs.Exchange.{Call, Chain}
use Rattle.sqlite_trees.specs.declared.store.Store.{Ghosts}
use Rattle.sqlite.specs.Held.{Held, state}
use Rattle.sqlite.specs.State.{State, HasCleanDisk}
use Rattle.turns.specs.declared.peers.Peer.{Peer}
use Rattle.turns.specs.declared.settled.RoundResult.{RoundResult}
use Rattle.turns.specs.Shared.{Turns, all_calls}
use Rattle.turns.specs.Settled.{IsSettled}
use Rattle.store.specs.Answered.{Codec, outcome}
use Rattle.store.specs.Maps.{Map, AnsweredMapFor}
use Rattle.store.specs.Rounds.{InRound, IsBetween, round_state, AnsweredInRound, SettlesRound, AnsweredIf, LeavesMap}
use Rattle.store.proofs.ChainLemmas.{back}

-- a round begins at the map of what was between the rounds
starts : (m : Map) (s : State) (ready : Bool) → IsBetween m s ready → InRound m s ready m
starts m s true represents = inl (represents, refl)
starts m s false off = off

-- what a clause sees of the service: its connection, whether the round still stands, and its hosts
abbrev pub Round : Type 0 → Type 0
Round S = Held S × (Bool × List (List ℕ))

module _ {S : Type 0} (g : Ghosts S) {V : Type 0} (of : Codec V) where
  -- what the service answers in a round
  abbrev pub answers : Round S → HttpRequest (List ℕ) → Response → Round S → Type 0
  answers old request response new = (new.1.1 ≡ old.1.1)
      × AnsweredInRound old.1.1 of request (outcome (round_state (state g old.0) old.1.0) response (round_state (state g new.0) new.1.0))

  -- the calls of a round that still stands are answered by the map to which it has come
  answered_in_round : (hosts : List (List ℕ)) (calls : List Call) (old new : Round S) (begun m : Map) → old.1.1 ≡ hosts
      → Chain answers old calls new → HasCleanDisk (state g new.0) → InRound begun (state g old.0) old.1.0 m
      → (last : Map) × InRound begun (state g new.0) new.1.0 last
      × (IsTrue new.1.0 → IsTrue old.1.0 × Chain (AnsweredMapFor hosts of) m calls last)
  answered_in_round hosts [] old new begun m served same clean way = (
    m,
    subst (λ (h : Round S). InRound begun (state g h.0) h.1.0 m) (sym same) way,
    λ yes. (subst (λ (h : Round S). IsTrue h.1.0) same yes, refl),
  )
  answered_in_round hosts (c ∷ calls) old new begun m served (next, step, later) clean way =
      let late = back answers (λ h. HasCleanDisk (state g h.0)) (λ _ _ _ one was. (one.1 was).0) calls next new later clean in
      let one = (step.1 late).1 begun m way in
      let rest = answered_in_round hosts calls next new begun one.0 (step.0 ∙ served) later clean one.1 in (
        rest.0,
        rest.1,
        λ yes.
            let late = rest.2 yes in
            let soon = one.2 late.0 in
            (soon.0, (one.0, subst (λ hs. AnsweredMapFor hs of m c.0 c.1 one.0) served soon.1, late.1)),
      )

module _ {S : Type 0} (g : Ghosts S) where
  -- how the service settles a round
  abbrev pub settles : Round S → Bool → Round S → Type 0
  settles old kept new = (new.1.1 ≡ old.1.1) × SettlesRound (state g old.0) old.1.0 kept (state g new.0) new.1.0

module _ {V : Type 0} (hosts : List (List ℕ)) (of : Codec V) where
  -- the calls of a round that is committed, and of one that is not
  answered_if : (calls : List Call) (m last : Map) → Chain (AnsweredMapFor hosts of) m calls last
      → Chain (AnsweredIf hosts of true) m calls last
  answered_if [] m last same = same
  answered_if (c ∷ calls) m last (next, one, later) = (next, λ _. one, answered_if calls next last later)

  unanswered : (calls : List Call) (m : Map) → Chain (AnsweredIf hosts of false) m calls m
  unanswered [] m = refl
  unanswered (c ∷ calls) m = (m, λ no. absurd (true≢false (sym no)), unanswered calls m)

module _ {S : Type 0} (g : Ghosts S) {V T : Type 0} (of : Codec V) (remaining contents : T → Option (List ℕ))
    (keys : List ℕ) (old new : Round S) (before after : ℕ → Option (Peer T)) (turns : Turns) where
  -- what a round is to the service, and to the map
  abbrev pub Settled : RoundResult → Type 0
  Settled result = IsSettled (answers g of) (settles g) remaining contents keys old new before after turns result

  abbrev pub SettledMap : Map → Map → RoundResult → Type 0
  SettledMap m last result =
      IsSettled (AnsweredIf old.1.1 of result.stands) (LeavesMap m) remaining contents keys m last before after turns result

  -- the round of the service, with the maps in place of its states
  over_map : (result : RoundResult) (m called last : Map) (it : Settled result)
      → Chain (AnsweredIf old.1.1 of result.stands) m (all_calls turns) called → LeavesMap m called result.stands last
      → SettledMap m last result
  over_map result m called last it calls leaves = record {
    called = called;
    heard = it.heard;
    shared = record { calls = calls; each = it.shared.each };
    among = it.among;
    settled = leaves;
    round = it.round;
  }

  pub round_of_map : (result : RoundResult) → Settled result → HasCleanDisk (state g new.0) → (m : Map)
      → IsBetween m (state g old.0) old.1.0
      → (last : Map) × SettledMap m last result × IsBetween last (state g new.0) new.1.0
      × (IsTrue result.stands → IsTrue new.1.0 × (IsTrue (state g new.0).is_open ⊎ (last ≡ m)))
  round_of_map result it clean m ready = by result.stands refl
    where
      by : (kept : Bool) → result.stands ≡ kept → (last : Map) × SettledMap m last result × IsBetween last (state g new.0) new.1.0
          × (IsTrue result.stands → IsTrue new.1.0 × (IsTrue (state g new.0).is_open ⊎ (last ≡ m)))
      by true e =
          let settled = (subst (λ v. settles g it.called v new) e it.settled).1 clean in
          let way = answered_in_round g of old.1.1 (all_calls turns) old it.called m m refl it.shared.calls settled.0
          (starts m (state g old.0) old.1.0 ready) in
          let end = settled.1 m way.0 way.1 in
          let stood = end.1 refl in
          let calls = subst (λ v. Chain (AnsweredIf old.1.1 of v) m (all_calls turns) way.0) (sym e)
          (answered_if old.1.1 of (all_calls turns) m way.0 (way.2 stood.0).1) in
          let leaves = subst (λ v. LeavesMap m way.0 v way.0) (sym e) refl in
          (way.0, over_map result m way.0 way.0 it calls leaves, end.0, λ _. (stood.1, stood.2))
      by false e =
          let settled = (subst (λ v. settles g it.called v new) e it.settled).1 clean in
          let way = answered_in_round g of old.1.1 (all_calls turns) old it.called m m refl it.shared.calls settled.0
          (starts m (state g old.0) old.1.0 ready) in
          let end = settled.1 m way.0 way.1 in
          let calls = subst (λ v. Chain (AnsweredIf old.1.1 of v) m (all_calls turns) m) (sym e)
          (unanswered old.1.1 of (all_calls turns) m) in
          let leaves = subst (λ v. LeavesMap m m v m) (sym e) refl in
          (m, over_map result m m m it calls leaves, end.0, λ yes. absurd (true≢false (sym yes ∙ e)))

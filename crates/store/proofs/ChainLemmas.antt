-- The calls of a service that lead from one state of its database to another are answered by a map.
use Rattle.std.proofs.Common.{◌≡◌, ℕ, List, [], ◌∷◌, None, refl, sym, subst, ◌∙◌}
use Rattle.http.specs.declared.request.Request.{Request as HttpRequest}
use Rattle.http_server.specs.declared.response.Response.{Response}
use Rattle.http_server.specs.Exchange.{Call, Chain}
use Rattle.sqlite_trees.specs.declared.store.Store.{Ghosts}
use Rattle.sqlite.specs.Held.{Held, state}
use Rattle.sqlite.specs.State.{HasCleanDisk}
use Rattle.store.specs.Answered.{Codec, outcome, AnsweredFor, Goes}
use Rattle.store.specs.Maps.{Map, AnsweredMapFor, ServesMap}
use Rattle.store.proofs.MapLemmas.{answered_map_for}

-- what each call hands back to the state before it holds before all of them
pub back : {S : Type 0} (answers : S → HttpRequest (List ℕ) → Response → S → Type 0) (P : S → Type 0)
    → ((old new : S) (c : Call) → answers old c.0 c.1 new → P new → P old)
    → (calls : List Call) (old new : S) → Chain answers old calls new → P new → P old
back answers P step [] old new same p = subst P same p
back answers P step (c ∷ calls) old new (next, one, later) p = step old next c one (back answers P step calls next new later p)

module _ {S : Type 0} (g : Ghosts S) {V : Type 0} (of : Codec V) where
  -- what the service answers; a state is its connection and its hosts
  abbrev pub answers : Held S × List (List ℕ) → HttpRequest (List ℕ) → Response → Held S × List (List ℕ) → Type 0
  answers old request response new = (new.1 ≡ old.1)
      × Goes (state g old.0) (state g new.0) (AnsweredFor old.1 of request (outcome (state g old.0) response (state g new.0)))

  pub answered_by_map : (hosts : List (List ℕ)) (calls : List Call) (old new : Held S × List (List ℕ)) (m : Map) → old.1 ≡ hosts
      → Chain answers old calls new → HasCleanDisk (state g new.0) → ServesMap (state g old.0) m
      → (after : Map) × Chain (AnsweredMapFor hosts of) m calls after × ServesMap (state g new.0) after
  answered_by_map hosts [] old new m served same clean r =
      (m, refl, subst (λ (h : Held S × List (List ℕ)). ServesMap (state g h.0) m) (sym same) r)
  answered_by_map hosts (c ∷ calls) old new m served (next, step, later) clean r =
      let late = back answers (λ h. HasCleanDisk (state g h.0)) (λ _ _ _ one was. (one.1 was).0) calls next new later clean in
      let went = (step.1 late).1 None r.0 in
      let one = answered_map_for (state g old.0) (state g next.0) m r.1 of old.1 c.0 c.1 went.1 in
      let rest = answered_by_map hosts calls next new one.0 (step.0 ∙ served) later clean (went.0, one.2) in (
        rest.0,
        (one.0, subst (λ hs. AnsweredMapFor hs of m c.0 c.1 one.0) served one.1, rest.1),
        rest.2,
      )

-- The store in rounds: what becomes of its map if a round is committed, and if it is lost.
use Rattle.std.specs.Prelude.{◌≡◌, ◌⊎◌, Bool, true, false, if◌then◌else◌, List, ℕ, IsTrue}
use Rattle.http.specs.declared.request.Request.{Request as HttpRequest}
use Rattle.http_server.specs.declared.response.Response.{Response}
use Rattle.sqlite.specs.Effect.{Database}
use Rattle.sqlite.specs.State.{State, HasCleanDisk}
use Rattle.store.specs.Answered.{Codec, Outcome, IsInside, IsLost}
use Rattle.store.specs.Maps.{Map, AnsweredMapFor, IsMapOf, SeesMap, ServesMap}

-- A round that began at the first map and has come to the second: nothing was put yet, or the connection is inside of a
-- transaction.
abbrev pub IsUnderWay : Map → State → Map → Type 0
IsUnderWay begun s m =
    (ServesMap s m × (m ≡ begun)) ⊎ ((base : Database) × IsInside base s × IsMapOf base begun × SeesMap s m)

-- a round that began at this map and will not be committed: its transaction is rolled back, or is still to be
abbrev pub IsOff : Map → State → Type 0
IsOff begun s = (base : Database) × (IsLost base s ⊎ IsInside base s) × IsMapOf base begun

-- a round, and whether it stands
abbrev pub InRound : Map → State → Bool → Map → Type 0
InRound begun s true m = IsUnderWay begun s m
InRound begun s false m = IsOff begun s

-- Between two rounds the connection serves a store whose rows are the entries of the map. If a transaction could not be rolled
-- back, that is still to be done, and these are the rows of the last commit.
abbrev pub IsBetween : Map → State → Bool → Type 0
IsBetween m s true = ServesMap s m
IsBetween m s false = IsOff m s

-- what a round is to the connection, and whether it stands
pub record RoundState : Type 1 where
  pub connection : State
  pub stands : Bool

-- the state of a round whose fields are the arguments
abbrev pub round_state : State → Bool → RoundState
round_state connection stands = record { connection = connection; stands = stands }

-- The response to a request, if the round still stands afterwards, is that of the map to which the round has come.
abbrev pub AnsweredInRound : {V : Type 0} → List (List ℕ) → Codec V → HttpRequest (List ℕ) → Outcome RoundState → Type 0
AnsweredInRound hosts of request o = HasCleanDisk o.new.connection → HasCleanDisk o.old.connection
    × ((begun m : Map) → InRound begun o.old.connection o.old.stands m
    → (after : Map) × InRound begun o.new.connection o.new.stands after
    × (IsTrue o.new.stands → IsTrue o.old.stands × AnsweredMapFor hosts of m request o.response after))

-- The round is settled. If its answers stand, the map to which it has come is committed, on a connection that is open if the
-- round changed the map, and else the map is the one from before the round.
abbrev pub SettlesRound : State → Bool → Bool → State → Bool → Type 0
SettlesRound old stood kept new stands = HasCleanDisk new → HasCleanDisk old
    × ((begun m : Map) → InRound begun old stood m
    → IsBetween (if kept then m else begun) new stands
    × (IsTrue kept → IsTrue stood × IsTrue stands × (IsTrue new.is_open ⊎ (m ≡ begun))))

-- how a request is answered, if the round is committed
abbrev pub AnsweredIf : {V : Type 0} → List (List ℕ) → Codec V → Bool → (Map → HttpRequest (List ℕ) → Response → Map → Type 0)
AnsweredIf hosts of kept m request response after = IsTrue kept → AnsweredMapFor hosts of m request response after

-- the map after a round is the one to which its calls lead, if it is committed, and else the one from before
abbrev pub LeavesMap : Map → Map → Bool → Map → Type 0
LeavesMap begun called kept last = last ≡ (if kept then called else begun)

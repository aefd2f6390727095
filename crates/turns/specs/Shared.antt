-- Connections that share one service.
use Rattle.std.specs.List.{AllByRecursion}
use Rattle.std.specs.Prelude.{◌≡◌, ℕ, ◌==◌, Bool, true, false, List, [], ◌++◌, flat_map, if◌then◌else◌, Option, Some, IfSome}
use Rattle.http.specs.declared.request.Request.{Request}
use Rattle.http_server.specs.declared.response.Response.{Response}
use Rattle.http_server.specs.declared.connection.Connection.{Connection}
use Rattle.http_server.specs.Connection.{config_of, history}
use Rattle.http_server.specs.Exchange.{Call, Chain}
use Rattle.http_server.specs.History.{IsServed, Rests}
use Rattle.turns.specs.declared.peers.Peer.{Peer}
use Rattle.turns.specs.declared.turn.Turn.{Turn}
use Rattle.turns.specs.declared.turn.Turn.TheVariants.{Waits, More, Done}

-- the turns that were given: the key of the connection, and the calls of the service that were made for it
abbrev pub Turns : Type 0
Turns = List (ℕ × List Call)

-- the calls of all turns
abbrev pub all_calls : Turns → List Call
all_calls turns = flat_map (λ t. t.1) turns

-- the calls for the connection of a key
abbrev pub calls_at : ℕ → Turns → List Call
calls_at key turns = flat_map (λ t. if t.0 == key then t.1 else []) turns

-- The calls of all turns lead, one after another, from the first state of the service to the second. Each connection that
-- is there afterwards was there before, and its calls since are those of its turns.
pub record IsShared {S T : Type 0} (answers : S → Request (List ℕ) → Response → S → Type 0) (old new : S)
    (before after : ℕ → Option (Peer T)) (turns : Turns) : Type 0 where
  pub calls : Chain answers old (all_calls turns) new
  pub each : (key : ℕ) (peer : Peer T) → after key ≡ Some peer → (was : Peer T) × (before key ≡ Some was)
      × ((history peer.connection).calls ≡ (history was.connection).calls ++ calls_at key turns)

-- If the connection is open, it has called the service for each whole request that it received, as far as its output has room.
-- What it has sent and is still to send are the responses to its calls, in their order, with what `http_server` adds: an invitation
-- to go on, or a refusal. If memory ran out, it is the first part of these.
abbrev pub IsCaughtUp : Connection → Type 0
IsCaughtUp connection = ∥ IsServed (config_of connection) (history connection) ∥₁ × Rests (config_of connection) (history connection)

-- a connection that is there is caught up
abbrev pub IsAtRest : {T : Type 0} → Option (Peer T) → Type 0
IsAtRest entry = IfSome entry (λ peer. IsCaughtUp peer.connection)

-- the key is not one of these
abbrev pub IsNotAmong : List ℕ → ℕ → Type 0
IsNotAmong keys other = AllByRecursion (λ key. key ≡ other → ⊥) keys

-- the connections of no key but these have changed
abbrev pub OthersStay : {T : Type 0} → List ℕ → (ℕ → Option (Peer T)) → (ℕ → Option (Peer T)) → Type 0
OthersStay keys before after = (other : ℕ) → IsNotAmong keys other → after other ≡ before other

-- the turn wrote a part of a response
abbrev pub has_written : Turn → Bool
has_written (Waits wrote) = wrote
has_written (More wrote) = wrote
has_written Done = false

-- there may be more to do, in another turn
abbrev pub has_more : Turn → Bool
has_more (More wrote) = true
has_more _ = false

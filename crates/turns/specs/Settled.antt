-- Connections whose responses go out once their round is settled.
use Rattle.std.specs.Prelude.{◌≡◌, ◌≢◌, ◌<◌, ◌≤◌, ◌⊎◌, ℕ, Bool, true, false, List, [], ◌++◌, length, take, drop}
use Rattle.std.specs.Prelude.{Option, Some, None, IfSome, IsTrue}
use Rattle.std.specs.Io.KnownBytes.{Appends, Consumes}
use Rattle.std.specs.List.{AllByRecursion}
use Rattle.http.specs.declared.request.Request.{Request}
use Rattle.http_server.specs.declared.connection.Connection.{Connection}
use Rattle.http_server.specs.declared.response.Response.{Response}
use Rattle.http_server.specs.Connection.{config_of, history}
use Rattle.http_server.specs.History.{output, AreAllCalled, WantsRead}
use Rattle.turns.specs.declared.peers.Peer.{Peer}
use Rattle.turns.specs.declared.settled.RoundResult.{RoundResult}
use Rattle.turns.specs.Shared.{Turns, calls_at, IsShared, IsAtRest, IsNotAmong, OthersStay}

-- each connection that is there afterwards was there before, and became so what it is
abbrev pub Each : {T : Type 0} → (Peer T → Peer T → Type 0) → (ℕ → Option (Peer T)) → (ℕ → Option (Peer T)) → Type 0
Each {T} Became before after = (key : ℕ) (peer : Peer T) → after key ≡ Some peer
    → (was : Peer T) × (before key ≡ Some was) × Became was peer

-- each connection that is there afterwards is as it was
abbrev pub AreLeft : {T : Type 0} → (ℕ → Option (Peer T)) → (ℕ → Option (Peer T)) → Type 0
AreLeft before after = Each (λ was peer. peer ≡ was) before after

-- a connection that was heard: it received the next bytes of its stream, and sent none
pub record IsHeard {T : Type 0} (remaining : T → Option (List ℕ)) (was peer : Peer T) : Type 0 where
  pub received : (bytes : List ℕ) × ((history peer.connection).received ≡ (history was.connection).received ++ bytes)
      × Consumes (remaining was.stream) (remaining peer.stream) bytes
  pub sent : (history peer.connection).sent ≡ (history was.connection).sent
  pub since : peer.since ≡ was.since

abbrev pub AreHeard : {T : Type 0} → (T → Option (List ℕ)) → (ℕ → Option (Peer T)) → (ℕ → Option (Peer T)) → Type 0
AreHeard remaining before after = Each (IsHeard remaining) before after

-- A connection that spoke: its stream took the next bytes of what it had to send. No call was made and nothing was read. Its time
-- moves only if there are such bytes.
pub record IsSpoken {T : Type 0} (contents : T → Option (List ℕ)) (was peer : Peer T) : Type 0 where
  pub calls : (history peer.connection).calls ≡ (history was.connection).calls
  pub output : output (history peer.connection) ≡ output (history was.connection)
  pub sent : (bytes : List ℕ) × ((history peer.connection).sent ≡ (history was.connection).sent ++ bytes)
      × Appends (contents was.stream) (contents peer.stream) bytes
  pub since : (history peer.connection).sent ≡ (history was.connection).sent → peer.since ≡ was.since
  pub received : (history peer.connection).received ≡ (history was.connection).received
  pub ended : (history peer.connection).ended ≡ (history was.connection).ended
  pub state : (history peer.connection).state ≡ (history was.connection).state
  pub config : config_of peer.connection ≡ config_of was.connection
  pub more : peer.more ≡ was.more

abbrev pub AreSpoken : {T : Type 0} → (T → Option (List ℕ)) → (ℕ → Option (Peer T)) → (ℕ → Option (Peer T)) → Type 0
AreSpoken contents before after = Each (IsSpoken contents) before after

-- no key but this has a call
abbrev pub OnlyAt : ℕ → Turns → Type 0
OnlyAt key turns = (other : ℕ) → (other ≡ key → ⊥) → calls_at other turns ≡ []

-- no key but these has a call
abbrev pub OnlyAmong : List ℕ → Turns → Type 0
OnlyAmong keys turns = (other : ℕ) → IsNotAmong keys other → calls_at other turns ≡ []

-- the connection waits for input: it wants to read, and has called the service for each whole request that it received
abbrev pub AwaitsInput : Connection → Type 0
AwaitsInput connection =
    WantsRead (config_of connection) (history connection) × AreAllCalled (config_of connection).limits (history connection)

-- a connection that is there waits for input, unless it is noted that it may have more to read
abbrev pub AwaitsUnlessNoted : {T : Type 0} → Option (Peer T) → Type 0
AwaitsUnlessNoted entry = IfSome entry (λ peer. peer.more ≡ false → AwaitsInput peer.connection)

-- a connection that is there waits for its stream: it has bytes to send, or waits for input
abbrev pub AwaitsStream : {T : Type 0} → Option (Peer T) → Type 0
AwaitsStream entry =
    IfSome entry (λ peer. (0 < length (history peer.connection).pending) ⊎ AwaitsInput peer.connection)

-- A connection that is there has progressed: its stream took bytes, or, if it was heard, it has nothing left to send. So one
-- whose client takes nothing has not.
abbrev pub HasProgressed : {T : Type 0} → Bool → Option (Peer T) → Option (Peer T) → Type 0
HasProgressed heard before after = IfSome after (λ peer. (IsTrue heard × (length (history peer.connection).pending ≡ 0))
    ⊎ IfSome before (λ was. (history peer.connection).sent ≢ (history was.connection).sent))

-- the second keys are among the first, and their connections have progressed
abbrev pub HaveProgressed : {T : Type 0} → Bool → List ℕ → (ℕ → Option (Peer T)) → (ℕ → Option (Peer T)) → List ℕ → Type 0
HaveProgressed heard keys before after found = ((other : ℕ) → IsNotAmong keys other → IsNotAmong found other)
    × AllByRecursion (λ key. HasProgressed heard (before key) (after key)) found

-- a connection that is there counts no byte as waiting if it has none to send
abbrev pub IsCounted : {T : Type 0} → Option (Peer T) → Type 0
IsCounted entry = IfSome entry (λ peer. length (history peer.connection).pending ≡ 0 → peer.waiting ≡ 0)

-- What became of the connections of these keys in a round. The first of the keys were heard, and the others were held, and so are as
-- they were until they write. Then each writes, or those that were heard are closed if their answers do not stand.
pub record IsRound {T : Type 0} (remaining contents : T → Option (List ℕ)) (keys : List ℕ)
    (before heard after : ℕ → Option (Peer T)) (result : RoundResult) : Type 0 where
  pub count : result.heard ≤ length keys
  pub rests : AllByRecursion (λ key. IsAtRest (heard key)) (take result.heard keys)
  pub received : AreHeard remaining before heard
  pub held : OthersStay (take result.heard keys) before heard
  pub sent : AreSpoken contents heard after
  pub gone : result.stands ≡ false → AllByRecursion (λ key. after key ≡ None) (take result.heard keys)
  pub others : OthersStay keys before after
  -- The unfinished keys are some of these, first ones that were heard and then ones that were held.
  pub reads : List ℕ
  pub writes : List ℕ
  pub unfinished : result.unfinished.items ≡ reads ++ writes
  pub read_on : HaveProgressed true (take result.heard keys) heard after reads
  pub write_on : HaveProgressed false (drop result.heard keys) heard after writes
  -- No other connection that was heard has anything to do until its stream has.
  pub waits : AllByRecursion (λ key. IsNotAmong result.unfinished.items key → IsNotAmong (drop result.heard keys) key
      → AwaitsStream (after key)) (take result.heard keys)
  pub counted : AllByRecursion (λ key. IsCounted (after key)) keys

-- The connections of the first of these keys were heard, and of no others: their calls lead from the first state of the service to
-- another. The service settled the round, and what became of the connections is what `IsRound` says.
pub record IsSettled {S T : Type 0} (answers : S → Request (List ℕ) → Response → S → Type 0) (settles : S → Bool → S → Type 0)
    (remaining contents : T → Option (List ℕ)) (keys : List ℕ) (old new : S) (before after : ℕ → Option (Peer T)) (turns : Turns)
    (result : RoundResult) : Type 0 where
  pub called : S
  pub heard : ℕ → Option (Peer T)
  pub shared : IsShared answers old called before heard turns
  pub among : OnlyAmong (take result.heard keys) turns
  pub settled : settles called result.stands new
  pub round : IsRound remaining contents keys before heard after result

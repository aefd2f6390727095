-- Rounds that are settled.
use Rattle.std.proofs.Common.{◌≡◌, ℕ, ◌==◌, List, [], ◌∷◌, ◌++◌, Bool, true, false, Option, Some, None, is_some}
use Rattle.std.proofs.Common.{◌≢◌, ◌<◌, ◌+◌, min, take, subst, refl, sym, ap, ◌∙◌, true≢false, arith, length, append_assoc, append-nil}
use Rattle.std.proofs.lemmas.List.{append_cancel_left, nil_from_length, length-append, length-take}
use Rattle.std.specs.Io.KnownBytes.{Appends, Consumes}
use Rattle.std.proofs.lemmas.Bool.Decides.{nat_tests}
use Rattle.http.specs.declared.request.Request.{Request}
use Rattle.http_server.specs.declared.response.Response.{Response}
use Rattle.http_server.specs.Connection.{history}
use Rattle.http_server.proofs.KnownLemmas.{Consumes-then, Appends-then}
use Rattle.http_server.specs.Exchange.{Call, Chain, Calls}
use Rattle.turns.specs.declared.peers.Peer.{Peer}
use Rattle.turns.specs.Shared.{Turns, calls_at}
use Rattle.turns.specs.Settled.{Each, AreLeft, IsHeard, IsSpoken, AreSpoken, OnlyAt, OnlyAmong}
use Rattle.turns.proofs.SharedLemmas.{at_append, at_other, all_front}

-- calls of what holds a service are calls of the service, and it holds the same one
chain_through : {A B N : Type 0} (of : A → B) (name : A → N) (answers : B → Request (List ℕ) → Response → B → Type 0) (calls : List Call)
    (a b : A) → Chain (λ old request response new. answers (of old) request response (of new) × (name new ≡ name old)) a calls b
    → Chain answers (of a) calls (of b) × (name b ≡ name a)
chain_through of name answers [] a b is = (ap of is, ap name is)
chain_through of name answers (c ∷ calls) a b (next, (one, same), rest) =
    let it = chain_through of name answers calls next b rest in
    ((of next, one, it.0), it.1 ∙ same)

pub calls_through : {A B N : Type 0} (of : A → B) (name : A → N) (answers : B → Request (List ℕ) → Response → B → Type 0) (a b : A)
    (before after : List Call)
    → Calls (λ old request response new. answers (of old) request response (of new) × (name new ≡ name old)) a b before after
    → Calls answers (of a) (of b) before after × (name b ≡ name a)
calls_through of name answers a b before after (calls, is, chain) =
    let it = chain_through of name answers calls a b chain in
    ((calls, is, it.0), it.1)

module _ {T : Type 0} (Became : Peer T → Peer T → Type 0) (same : (peer : Peer T) → Became peer peer) where
  pub each_none : (p : ℕ → Option (Peer T)) → Each Became p p
  each_none p key peer is = (peer, is, same peer)

  -- the connection of a key became another one, if it is still there
  pub each_one : (p q : ℕ → Option (Peer T)) (key : ℕ) (was : Peer T) → p key ≡ Some was
      → ((other : ℕ) → (other ≡ key → ⊥) → q other ≡ p other)
      → ((peer : Peer T) → q key ≡ Some peer → Became was peer) → Each Became p q
  each_one p q key was had others own k peer is = by (k == key) refl
    where
      by : (v : Bool) → (k == key) ≡ v → (was : Peer T) × (p k ≡ Some was) × Became was peer
      by true e =
          let here : k ≡ key = grind (arith, nat_tests) in
          (was, ap p here ∙ had, own peer (ap q (sym here) ∙ is))
      by false e =
          let apart : k ≡ key → ⊥ = λ here. grind (arith, nat_tests) in
          (peer, sym (others k apart) ∙ is, same peer)

  -- the connection of a key is not there
  pub each_left : (p q : ℕ → Option (Peer T)) (key : ℕ) → ((other : ℕ) → (other ≡ key → ⊥) → q other ≡ p other) → q key ≡ None
      → Each Became p q
  each_left p q key others none k peer is = by (k == key) refl
    where
      by : (v : Bool) → (k == key) ≡ v → (was : Peer T) × (p k ≡ Some was) × Became was peer
      by true e =
          let here : k ≡ key = grind (arith, nat_tests) in
          absurd (true≢false (sym (ap is_some (sym (ap q here ∙ none) ∙ is))))
      by false e =
          let apart : k ≡ key → ⊥ = λ here. grind (arith, nat_tests) in
          (peer, sym (others k apart) ∙ is, same peer)

pub each_then : {T : Type 0} (Became : Peer T → Peer T → Type 0) → ((a b c : Peer T) → Became a b → Became b c → Became a c)
    → (p q r : ℕ → Option (Peer T)) → Each Became p q → Each Became q r → Each Became p r
each_then Became follow p q r a b key peer is =
    let late = b key peer is in
    let soon = a key late.0 late.1 in
    (soon.0, soon.1, follow soon.0 late.0 peer soon.2 late.2)

-- ---- what is heard and said

consumes_none : (known : Option (List ℕ)) → Consumes known known []
consumes_none None = tt
consumes_none (Some bytes) = refl

appends_none : (known : Option (List ℕ)) → Appends known known []
appends_none None = tt
appends_none (Some bytes) = sym (append-nil bytes)

-- the first of what is pending are not none
pub taken_some : (n : ℕ) (pending : List ℕ) → n ≢ 0 → 0 < length pending → take n pending ≢ []
taken_some n pending some there none =
    let count : min n (length pending) ≡ 0 = sym (length-take n pending) ∙ ap length none in
    some (grind (arith, count))

-- what was sent in two steps is nothing only if neither sent any
pub neither : (sent first second : List ℕ) → (sent ++ first) ++ second ≡ sent → (first ≡ []) × (second ≡ [])
neither sent first second none =
    let both = append_cancel_left sent (first ++ second) []
    (sym (append_assoc sent first second) ∙ none ∙ sym (append-nil sent)) in
    let count : length first + length second ≡ 0 = sym (length-append first second) ∙ ap length both in
    (nil_from_length first (grind (arith)), nil_from_length second (grind (arith)))

module _ {T : Type 0} (known : T → Option (List ℕ)) where
  pub heard_none : (peer : Peer T) → IsHeard known peer peer
  heard_none peer = record {
    received = ([], sym (append-nil (history peer.connection).received), consumes_none (known peer.stream));
    sent = refl;
    since = refl;
  }

  pub heard_then : (a b c : Peer T) → IsHeard known a b → IsHeard known b c → IsHeard known a c
  heard_then a b c x y = record {
    received = (
      x.received.0 ++ y.received.0,
      y.received.1 ∙ ap (λ (l : List ℕ). l ++ y.received.0) x.received.1
          ∙ append_assoc (history a.connection).received x.received.0 y.received.0,
      Consumes-then (known a.stream) (known b.stream) (known c.stream) x.received.0 y.received.0 x.received.2 y.received.2,
    );
    sent = y.sent ∙ x.sent;
    since = y.since ∙ x.since;
  }

  pub spoken_none : (peer : Peer T) → IsSpoken known peer peer
  spoken_none peer = record {
    calls = refl;
    output = refl;
    sent = ([], sym (append-nil (history peer.connection).sent), appends_none (known peer.stream));
    since = λ _. refl;
    received = refl;
    ended = refl;
    state = refl;
    config = refl;
    more = refl;
  }

  pub spoken_then : (a b c : Peer T) → IsSpoken known a b → IsSpoken known b c → IsSpoken known a c
  spoken_then a b c x y = record {
    calls = y.calls ∙ x.calls;
    output = y.output ∙ x.output;
    sent = (
      x.sent.0 ++ y.sent.0,
      y.sent.1 ∙ ap (λ (l : List ℕ). l ++ y.sent.0) x.sent.1 ∙ append_assoc (history a.connection).sent x.sent.0 y.sent.0,
      Appends-then (known a.stream) (known b.stream) (known c.stream) x.sent.0 y.sent.0 x.sent.2 y.sent.2,
    );
    since = λ none.
        let no = neither (history a.connection).sent x.sent.0 y.sent.0
        (sym (ap (λ (l : List ℕ). l ++ y.sent.0) x.sent.1) ∙ sym y.sent.1 ∙ none) in
        y.since (y.sent.1 ∙ ap (λ (l : List ℕ). (history b.connection).sent ++ l) no.1 ∙ append-nil (history b.connection).sent)
        ∙ x.since (x.sent.1 ∙ ap (λ (l : List ℕ). (history a.connection).sent ++ l) no.0 ∙ append-nil (history a.connection).sent);
    received = y.received ∙ x.received;
    ended = y.ended ∙ x.ended;
    state = y.state ∙ x.state;
    config = y.config ∙ x.config;
    more = y.more ∙ x.more;
  }

-- connections that are as they were have said nothing
pub left_spoken : {T : Type 0} (known : T → Option (List ℕ)) (p q : ℕ → Option (Peer T)) → AreLeft p q → AreSpoken known p q
left_spoken known p q left key peer is =
    let it = left key peer is in
    (it.0, it.1, subst (IsSpoken known it.0) (sym it.2) (spoken_none known it.0))

-- the keys of what was called
pub only_none : (key : ℕ) → OnlyAt key []
only_none key other apart = refl

pub only_one : (key : ℕ) (calls : List Call) → OnlyAt key ((key, calls) ∷ [])
only_one key calls other apart = at_other key other calls apart

pub among_none : OnlyAmong [] []
among_none other apart = refl

pub among_then : (key : ℕ) (done : List ℕ) (s t : Turns) → OnlyAmong done s → OnlyAt key t → OnlyAmong (done ++ key ∷ []) (s ++ t)
among_then key done s t a b other apart =
    let it = all_front (λ k. k ≡ other → ⊥) key done apart in
    at_append other s t ∙ ap (λ (l : List Call). l ++ calls_at other t) (a other it.0)
    ∙ b other (λ same. it.1 (sym same))

-- a connection that was not there is not there
pub still_none : {T : Type 0} (Became : Peer T → Peer T → Type 0) (p q : ℕ → Option (Peer T)) → Each Became p q → (key : ℕ)
    → p key ≡ None → q key ≡ None
still_none {T} Became p q each key none = by (q key) refl
  where
    by : (entry : Option (Peer T)) → q key ≡ entry → q key ≡ None
    by None e = e
    by (Some peer) e =
        let it = each key peer e in
        absurd (true≢false (sym (ap is_some (sym none ∙ it.1))))

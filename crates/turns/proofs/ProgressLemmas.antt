-- What a connection waits for, and which have progressed. A write shortens what is pending, and leaves what was received and called.
use Rattle.std.proofs.Common.{◌≡◌, ◌≢◌, ◌⊎◌, inl, inr, ◌<◌, ◌≤◌, ◌+◌, ℕ, List, [], ◌∷◌, ◌++◌}
use Rattle.std.proofs.Common.{Bool, true, false, Option, Some, None, IsTrue, IsFalse}
use Rattle.std.proofs.Common.{Bool, true, false, Option, Some, None, IsTrue, IsFalse}
use Rattle.std.proofs.Common.{subst, refl, sym, ap, ◌∙◌, arith, length, append_assoc, append-nil}
use Rattle.std.proofs.lemmas.List.{append_cancel_left, length-append}
use Rattle.http_server.specs.declared.connection.Connection.{Connection}
use Rattle.http_server.specs.declared.state.Config.{Config}
use Rattle.http_server.specs.Connection.{config_of, history}
use Rattle.http_server.specs.Exchange.{Call}
use Rattle.http_server.specs.History.{AreAllCalled, WantsRead}
use Rattle.turns.specs.declared.peers.Peer.{Peer}
use Rattle.turns.specs.Shared.{IsCaughtUp}
use Rattle.turns.specs.Settled.{IsSpoken, AreSpoken, AwaitsInput, AwaitsUnlessNoted, HasProgressed, HaveProgressed}
use Rattle.turns.proofs.SharedLemmas.{all_front, all_both, all_map}
use Rattle.turns.proofs.SettledLemmas.{neither}

-- a connection that rests, and wants to read, waits for input
pub awaits_input : (c : Connection) → IsCaughtUp c → WantsRead (config_of c) (history c) → AwaitsInput c
awaits_input c up wants = (wants, (up.1 wants.0 wants.2).1)

-- the connection of a key progressed
pub progressed_one : {T : Type 0} (heard : Bool) (p q : ℕ → Option (Peer T)) (key : ℕ) (was peer : Peer T) → p key ≡ Some was
    → q key ≡ Some peer
    → (IsTrue heard × (length (history peer.connection).pending ≡ 0)) ⊎ ((history peer.connection).sent ≢ (history was.connection).sent)
    → HasProgressed heard (p key) (q key)
progressed_one heard p q key was peer had is it =
    subst (HasProgressed heard (p key)) (sym is) (subst (λ o. HasProgressed heard o (Some peer)) (sym had) it)

module _ {T : Type 0} (known : T → Option (List ℕ)) where
  -- a write takes the first bytes of what was pending
  pub pending_split : (was peer : Peer T) (it : IsSpoken known was peer)
      → (history was.connection).pending ≡ it.sent.0 ++ (history peer.connection).pending
  pending_split was peer it =
      append_cancel_left (history was.connection).sent (history was.connection).pending
      (it.sent.0 ++ (history peer.connection).pending)
      (sym it.output ∙ ap (λ (l : List ℕ). l ++ (history peer.connection).pending) it.sent.1
      ∙ append_assoc (history was.connection).sent it.sent.0 (history peer.connection).pending)

  pending_count : (was peer : Peer T) (it : IsSpoken known was peer)
      → length (history was.connection).pending ≡ length it.sent.0 + length (history peer.connection).pending
  pending_count was peer it =
      ap length (pending_split was peer it) ∙ length-append it.sent.0 (history peer.connection).pending

  pub awaits_spoken : (was peer : Peer T) → IsSpoken known was peer → AwaitsInput was.connection → AwaitsInput peer.connection
  awaits_spoken was peer it (wants, called) =
      let h = history peer.connection in
      let limits = (config_of was.connection).limits in
      let count = pending_count was peer it in
      let fits : length (history was.connection).pending ≤ (config_of was.connection).max_pending = wants.2 in
      let less : length (history peer.connection).pending ≤ (config_of was.connection).max_pending = grind (arith, count, fits) in (
        (
          it.state ∙ wants.0,
          subst IsFalse (sym it.ended) wants.1,
          subst (λ (c : Config). length (history peer.connection).pending ≤ c.max_pending) (sym it.config) less,
        ),
        subst (λ (c : Config). AreAllCalled c.limits (history peer.connection)) (sym it.config)
            (subst (λ (l : List Call). AreAllCalled limits (record h { calls = l })) (sym it.calls)
            (subst (λ (l : List ℕ). AreAllCalled limits (record h { received = l; calls = (history was.connection).calls }))
            (sym it.received) called)),
      )

  pub noted_spoken : (was peer : Peer T) → IsSpoken known was peer → AwaitsUnlessNoted (Some was) → AwaitsUnlessNoted (Some peer)
  noted_spoken was peer it had unnoted = awaits_spoken was peer it (had (sym it.more ∙ unnoted))

  -- one that has written waits for its stream, if what it may read is noted only where it has more to write
  pub stops : (was peer : Peer T) → IsSpoken known was peer → AwaitsUnlessNoted (Some was)
      → (IsTrue peer.more → 0 < length (history peer.connection).pending)
      → (0 < length (history peer.connection).pending) ⊎ AwaitsInput peer.connection
  stops was peer it had full = by peer.more refl
    where
      by : (v : Bool) → peer.more ≡ v → (0 < length (history peer.connection).pending) ⊎ AwaitsInput peer.connection
      by true e = inl (full e)
      by false e = inr (awaits_spoken was peer it (had (sym it.more ∙ e)))

  -- the same of what became of all connections
  pub noted_then : (p q : ℕ → Option (Peer T)) → AreSpoken known p q → (key : ℕ) → AwaitsUnlessNoted (p key) → AwaitsUnlessNoted (q key)
  noted_then p q spoken key had = by (q key) refl
    where
      by : (entry : Option (Peer T)) → q key ≡ entry → AwaitsUnlessNoted (q key)
      by None e = subst AwaitsUnlessNoted (sym e) tt
      by (Some peer) e =
          let it = spoken key peer e in
          subst AwaitsUnlessNoted (sym e) (noted_spoken it.0 peer it.2 (subst AwaitsUnlessNoted it.1 had))

  -- who sent something in the first of two writes, or in the second, did so in both
  sent_first : (a b c : Peer T) → IsSpoken known a b → IsSpoken known b c → (history b.connection).sent ≢ (history a.connection).sent
      → (history c.connection).sent ≢ (history a.connection).sent
  sent_first a b c x y some none =
      let no = neither (history a.connection).sent x.sent.0 y.sent.0
      (sym (ap (λ (l : List ℕ). l ++ y.sent.0) x.sent.1) ∙ sym y.sent.1 ∙ none) in
      some (x.sent.1 ∙ ap (λ (l : List ℕ). (history a.connection).sent ++ l) no.0 ∙ append-nil (history a.connection).sent)

  sent_then : (a b c : Peer T) → IsSpoken known a b → IsSpoken known b c → (history c.connection).sent ≢ (history b.connection).sent
      → (history c.connection).sent ≢ (history a.connection).sent
  sent_then a b c x y some none =
      let no = neither (history a.connection).sent x.sent.0 y.sent.0
      (sym (ap (λ (l : List ℕ). l ++ y.sent.0) x.sent.1) ∙ sym y.sent.1 ∙ none) in
      some (y.sent.1 ∙ ap (λ (l : List ℕ). (history b.connection).sent ++ l) no.1 ∙ append-nil (history b.connection).sent)

  module _ (heard : Bool) (p q r : ℕ → Option (Peer T)) (a : AreSpoken known p q) (b : AreSpoken known q r) (key : ℕ) where
    -- a connection that progressed has done so after a further write, and the other way round
    pub progressed_first : HasProgressed heard (p key) (q key) → HasProgressed heard (p key) (r key)
    progressed_first had = by (r key) refl
      where
        by : (entry : Option (Peer T)) → r key ≡ entry → HasProgressed heard (p key) (r key)
        by None e = subst (HasProgressed heard (p key)) (sym e) tt
        by (Some peer) e =
            let late = b key peer e in
            let soon = a key late.0 late.1 in
            let count = pending_count late.0 peer late.2 in
            let go : HasProgressed heard (Some soon.0) (Some late.0) → HasProgressed heard (Some soon.0) (Some peer) = λ it. elim it [
              | inl full ↦ inl (full.0, (let none = full.1 in grind (arith, count, none)))
              | inr some ↦ inr (sent_first soon.0 late.0 peer soon.2 late.2 some)
            ] in
            subst (HasProgressed heard (p key)) (sym e)
            (subst (λ o. HasProgressed heard o (Some peer)) (sym soon.1)
            (go (subst (HasProgressed heard (Some soon.0)) late.1 (subst (λ o. HasProgressed heard o (q key)) soon.1 had))))

    pub progressed_then : HasProgressed heard (q key) (r key) → HasProgressed heard (p key) (r key)
    progressed_then had = by (r key) refl
      where
        by : (entry : Option (Peer T)) → r key ≡ entry → HasProgressed heard (p key) (r key)
        by None e = subst (HasProgressed heard (p key)) (sym e) tt
        by (Some peer) e =
            let late = b key peer e in
            let soon = a key late.0 late.1 in
            let go : HasProgressed heard (Some late.0) (Some peer) → HasProgressed heard (Some soon.0) (Some peer) = λ it. elim it [
              | inl full ↦ inl full
              | inr some ↦ inr (sent_then soon.0 late.0 peer soon.2 late.2 some)
            ] in
            subst (HasProgressed heard (p key)) (sym e)
            (subst (λ o. HasProgressed heard o (Some peer)) (sym soon.1)
            (go (subst (HasProgressed heard (Some late.0)) e (subst (λ o. HasProgressed heard o (r key)) late.1 had))))

  module _ (heard : Bool) (p q r : ℕ → Option (Peer T)) (a : AreSpoken known p q) (b : AreSpoken known q r) (keys : List ℕ) where
    pub have_first : (found : List ℕ) → HaveProgressed heard keys p q found → HaveProgressed heard keys p r found
    have_first found it = (
      it.0,
      all_map (λ k. HasProgressed heard (p k) (q k)) (λ k. HasProgressed heard (p k) (r k)) found
          (λ k. progressed_first heard p q r a b k) it.1,
    )

    pub have_then : (found : List ℕ) → HaveProgressed heard keys q r found → HaveProgressed heard keys p r found
    have_then found it = (
      it.0,
      all_map (λ k. HasProgressed heard (q k) (r k)) (λ k. HasProgressed heard (p k) (r k)) found
          (λ k. progressed_then heard p q r a b k) it.1,
    )

    -- one more connection writes, which has more to do at once or not
    pub one_not : (key : ℕ) (found : List ℕ) → HaveProgressed heard keys p q found → HaveProgressed heard (keys ++ key ∷ []) p r found
    one_not key found it =
        (λ other apart. it.0 other (all_front (λ k. k ≡ other → ⊥) key keys apart).0, (have_first found it).1)

    pub one_more : (key : ℕ) (found : List ℕ) → HasProgressed heard (q key) (r key) → HaveProgressed heard keys p q found
        → HaveProgressed heard (keys ++ key ∷ []) p r (found ++ key ∷ [])
    one_more key found own it = (
      (λ other apart.
          let both = all_front (λ k. k ≡ other → ⊥) key keys apart in
          all_both (λ k. k ≡ other → ⊥) found (key ∷ []) (it.0 other both.0) (both.1, tt)),
      all_both (λ k. HasProgressed heard (p k) (r k)) found (key ∷ []) (have_first found it).1
          (progressed_then heard p q r a b key own, tt),
    )

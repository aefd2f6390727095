-- Turns after turns.
use Rattle.std.proofs.Common.{◌≡◌, ◌⊎◌, inl, inr, ℕ, ◌==◌, List, [], ◌∷◌, ◌++◌}
use Rattle.std.proofs.Common.{if◌then◌else◌, Bool, true, false, Option, Some, None, is_some}
use Rattle.std.proofs.Common.{refl, sym, ap, subst, ◌∙◌, append_assoc, append-nil, true≢false, arith}
use Rattle.std.proofs.lemmas.Bool.Decides.{nat_tests}
use Rattle.http.specs.declared.request.Request.{Request}
use Rattle.http_server.specs.declared.response.Response.{Response}
use Rattle.http_server.specs.declared.connection.Connection.{Connection}
use Rattle.http_server.specs.Connection.{config_of, history}
use Rattle.http_server.specs.Exchange.{Call, Chain}
use Rattle.http_server.specs.History.{IsServed, Rests}
use Rattle.http_server.proofs.StreamLemmas.{Chain-append}
use Rattle.turns.specs.declared.peers.Peer.{Peer}
use Rattle.std.specs.List.{AllByRecursion}
use Rattle.turns.specs.Shared.{Turns, all_calls, calls_at, IsShared, IsCaughtUp, IsNotAmong, OthersStay}

all_append : (s t : Turns) → all_calls (s ++ t) ≡ all_calls s ++ all_calls t
all_append [] t = refl
all_append (x ∷ s) t = ap (λ (l : List Call). x.1 ++ l) (all_append s t) ∙ sym (append_assoc x.1 (all_calls s) (all_calls t))

abbrev at : ℕ → ℕ × List Call → List Call
at key x = if x.0 == key then x.1 else []

pub at_append : (key : ℕ) (s t : Turns) → calls_at key (s ++ t) ≡ calls_at key s ++ calls_at key t
at_append key [] t = refl
at_append key (x ∷ s) t =
    ap (λ (l : List Call). at key x ++ l) (at_append key s t) ∙ sym (append_assoc (at key x) (calls_at key s) (calls_at key t))

same_number : (a : ℕ) → (a == a) ≡ true
same_number a = grind (arith, nat_tests)

other_number : (a b : ℕ) → (b ≡ a → ⊥) → (a == b) ≡ false
other_number a b apart = grind (arith, nat_tests)

-- one turn of the connection of a key, and of another one
at_own : (key : ℕ) (calls : List Call) → calls_at key ((key, calls) ∷ []) ≡ calls
at_own key calls =
    ap (λ b. (if b then calls else []) ++ []) (same_number key) ∙ append-nil calls

pub at_other : (key other : ℕ) (calls : List Call) → (other ≡ key → ⊥) → calls_at other ((key, calls) ∷ []) ≡ []
at_other key other calls apart = ap (λ b. (if b then calls else []) ++ []) (other_number key other apart)

all_one : (key : ℕ) (calls : List Call) → all_calls ((key, calls) ∷ []) ≡ calls
all_one key calls = append-nil calls

module _ {S T : Type 0} (answers : S → Request (List ℕ) → Response → S → Type 0) where
  -- no turn was given
  pub shared_none : (s : S) (peers : ℕ → Option (Peer T)) → IsShared answers s s peers peers []
  shared_none s peers = record { calls = refl; each = λ key peer is. (peer, is, sym (append-nil (history peer.connection).calls)) }

  -- turns after turns
  pub shared_then : (a b c : S) (p q r : ℕ → Option (Peer T)) (s t : Turns) → IsShared answers a b p q s → IsShared answers b c q r t
      → IsShared answers a c p r (s ++ t)
  shared_then a b c p q r s t x y = record {
    calls = subst (λ l. Chain answers a l c) (sym (all_append s t))
        (Chain-append answers (all_calls s) (all_calls t) a b c x.calls y.calls);
    each = λ key peer is.
        let late = y.each key peer is in
        let soon = x.each key late.0 late.1 in (
          soon.0,
          soon.1,
          late.2 ∙ ap (λ (l : List Call). l ++ calls_at key t) soon.2
              ∙ append_assoc (history soon.0.connection).calls (calls_at key s) (calls_at key t)
              ∙ ap (λ (l : List Call). (history soon.0.connection).calls ++ l) (sym (at_append key s t)),
        );
  }

  -- the connection of a key had a turn, and is there or not
  pub shared_one : (a b : S) (p q : ℕ → Option (Peer T)) (key : ℕ) (was : Peer T) (calls : List Call) → p key ≡ Some was
      → Chain answers a calls b → ((other : ℕ) → (other ≡ key → ⊥) → q other ≡ p other)
      → ((peer : Peer T) → q key ≡ Some peer → (history peer.connection).calls ≡ (history was.connection).calls ++ calls)
      → IsShared answers a b p q ((key, calls) ∷ [])
  shared_one a b p q key was calls had chain others own = record {
    calls = subst (λ l. Chain answers a l b) (sym (all_one key calls)) chain;
    each = λ k peer is. by k peer is (k == key) refl;
  }
    where
      by : (k : ℕ) (peer : Peer T) → q k ≡ Some peer → (v : Bool) → (k == key) ≡ v → (was : Peer T) × (p k ≡ Some was)
          × ((history peer.connection).calls ≡ (history was.connection).calls ++ calls_at k ((key, calls) ∷ []))
      by k peer is true e =
          let same : k ≡ key = grind (arith, nat_tests) in (
            was,
            ap p same ∙ had,
            own peer (ap q (sym same) ∙ is)
                ∙ ap (λ (l : List Call). (history was.connection).calls ++ l)
                (sym (ap (λ n. calls_at n ((key, calls) ∷ [])) same ∙ at_own key calls)),
          )
      by k peer is false e =
          let apart : k ≡ key → ⊥ = λ same. grind (arith, nat_tests) in (
            peer,
            sym (others k apart) ∙ is,
            sym (append-nil (history peer.connection).calls)
                ∙ ap (λ (l : List Call). (history peer.connection).calls ++ l) (sym (at_other key k calls apart)),
          )

  -- nothing was called, and the connection of a key is not there
  pub shared_left : (s : S) (p q : ℕ → Option (Peer T)) (key : ℕ) → ((other : ℕ) → (other ≡ key → ⊥) → q other ≡ p other)
      → q key ≡ None → IsShared answers s s p q []
  shared_left s p q key others none = record { calls = refl; each = λ k peer is. by k peer is (k == key) refl }
    where
      by : (k : ℕ) (peer : Peer T) → q k ≡ Some peer → (v : Bool) → (k == key) ≡ v → (was : Peer T) × (p k ≡ Some was)
          × ((history peer.connection).calls ≡ (history was.connection).calls ++ [])
      by k peer is true e =
          let same : k ≡ key = grind (arith, nat_tests) in
          absurd (true≢false (sym (ap is_some (sym (ap q same ∙ none) ∙ is))))
      by k peer is false e =
          let apart : k ≡ key → ⊥ = λ same. grind (arith, nat_tests) in
          (peer, sym (others k apart) ∙ is, sym (append-nil (history peer.connection).calls))

pub all_front : (P : ℕ → Type 0) (key : ℕ) (done : List ℕ) → AllByRecursion P (done ++ key ∷ []) → AllByRecursion P done × P key
all_front P key [] (own, rest) = (tt, own)
all_front P key (k ∷ done) (first, rest) = let it = all_front P key done rest in ((first, it.0), it.1)

-- the connections of no keys but these have changed, and then that of one more key alone
pub stay_then : {T : Type 0} (p q r : ℕ → Option (Peer T)) (key : ℕ) (done : List ℕ) → OthersStay done p q
    → ((other : ℕ) → (other ≡ key → ⊥) → r other ≡ q other) → OthersStay (done ++ key ∷ []) p r
stay_then p q r key done first step other apart =
    let it = all_front (λ k. k ≡ other → ⊥) key done apart in
    step other (λ same. it.1 (sym same)) ∙ first other it.0

-- a connection that did nothing is still caught up
pub same_caught_up : (a b : Connection) → config_of b ≡ config_of a → history b ≡ history a → IsCaughtUp a → IsCaughtUp b
same_caught_up a b config same up =
    subst (λ c. ∥ IsServed c (history b) ∥₁ × Rests c (history b)) (sym config)
    (subst (λ h. ∥ IsServed (config_of a) h ∥₁ × Rests (config_of a) h) (sym same) up)

pub one_peer : {P : Type 0} {a b : P} → ◌≡◌ {A = Option P} (Some a) (Some b) → a ≡ b
one_peer e = cc

-- what holds of these keys, and then of one more, where only that of the last may have changed
pub all_then : (P Q : ℕ → Type 0) (key : ℕ) (done : List ℕ) → Q key → ((k : ℕ) → (k ≡ key → ⊥) → P k → Q k) → AllByRecursion P done
    → AllByRecursion Q (done ++ key ∷ [])
all_then P Q key [] own others all = (own, tt)
all_then P Q key (k ∷ done) own others (first, rest) = (by (k == key) refl, all_then P Q key done own others rest)
  where
    by : (v : Bool) → (k == key) ≡ v → Q k
    by true e =
        let same : k ≡ key = grind (arith, nat_tests) in
        subst Q (sym same) own
    by false e =
        let apart : k ≡ key → ⊥ = λ same. grind (arith, nat_tests) in
        others k apart first

-- of what the entries of these keys are, each is so too after a step of one more key alone
pub entries_then : {T : Type 0} (P : Option (Peer T) → Type 0) (p q : ℕ → Option (Peer T)) (key : ℕ) (done : List ℕ) → P (q key)
    → ((other : ℕ) → (other ≡ key → ⊥) → q other ≡ p other) → AllByRecursion (λ k. P (p k)) done
    → AllByRecursion (λ k. P (q k)) (done ++ key ∷ [])
entries_then P p q key done own others all =
    all_then (λ k. P (p k)) (λ k. P (q k)) key done own (λ k apart had. subst P (sym (others k apart)) had) all

module _ (P : ℕ → Type 0) where
  -- what holds of all keys holds of the first ones, and of each
  pub all_left : (xs ys : List ℕ) → AllByRecursion P (xs ++ ys) → AllByRecursion P xs
  all_left [] ys all = tt
  all_left (x ∷ xs) ys (first, rest) = (first, all_left xs ys rest)

  pub all_right : (xs ys : List ℕ) → AllByRecursion P (xs ++ ys) → AllByRecursion P ys
  all_right [] ys all = all
  all_right (x ∷ xs) ys (first, rest) = all_right xs ys rest

  pub all_both : (xs ys : List ℕ) → AllByRecursion P xs → AllByRecursion P ys → AllByRecursion P (xs ++ ys)
  all_both [] ys all later = later
  all_both (x ∷ xs) ys (first, rest) later = (first, all_both xs ys rest later)

pub all_map : (P Q : ℕ → Type 0) (xs : List ℕ) → ((k : ℕ) → P k → Q k) → AllByRecursion P xs → AllByRecursion Q xs
all_map P Q [] f all = tt
all_map P Q (x ∷ xs) f (first, rest) = (f x first, all_map P Q xs f rest)

-- what holds of these keys holds of a key, or the key is not one of them
pub found_or_apart : (P : ℕ → Type 0) (key : ℕ) (keys : List ℕ) → AllByRecursion P keys → P key ⊎ IsNotAmong keys key
found_or_apart P key [] all = inr tt
found_or_apart P key (k ∷ keys) (first, rest) = by (found_or_apart P key keys rest) (k == key) refl
  where
    by : P key ⊎ IsNotAmong keys key → (v : Bool) → (k == key) ≡ v → P key ⊎ IsNotAmong (k ∷ keys) key
    by later true e =
        let same : k ≡ key = grind (arith, nat_tests) in
        inl (subst P same first)
    by later false e =
        let apart : k ≡ key → ⊥ = λ same. grind (arith, nat_tests) in
        elim later [
          | inl own ↦ inl own
          | inr others ↦ inr (apart, others)
        ]

-- the entries of these keys, and of others that have not changed
pub entries_also : {T : Type 0} (P : Option (Peer T) → Type 0) (p q : ℕ → Option (Peer T)) (keys : List ℕ) → OthersStay keys p q
    → AllByRecursion (λ k. P (q k)) keys → (key : ℕ) → P (p key) → P (q key)
entries_also P p q keys others all key had =
    elim (found_or_apart (λ k. P (q k)) key keys all) [
      | inl own ↦ own
      | inr apart ↦ subst P (sym (others key apart)) had
    ]

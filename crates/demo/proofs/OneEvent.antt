-- A place whose value is one event.
use Rattle.std.proofs.Common.{◌≡◌, ℕ, ◌<◌, ◌^◌, true, nat_lt, List, [], ◌∷◌, Option, Some, None, refl, sym, ap, subst, ◌∙◌, arith}
use Rattle.std.specs.Prelude.{Ok, pos}
use Rattle.std.proofs.lemmas.Bool.Decides.{nat_tests}
use Rattle.miniserde.specs.Tree.{nonneg}
use Rattle.miniserde.specs.Integers.{unsigned_of}
use Rattle.miniserde.specs.Step.{Step}
use Rattle.miniserde.specs.Position.{start, complete, next, Completes}
use Rattle.miniserde.specs.Place.{PlaceView, IsFresh, Takes}
use Rattle.miniserde.specs.Container.{is_complete}

-- a fresh place that took the one event of a value is complete, and has what the event gives
pub one_event : {C : Type 0} (from_events : List Step → Option C) (old new : PlaceView C) (e : Step)
    → Completes start (e ∷ []) → IsFresh from_events old → Takes old e (Ok tt) new → (new.refused ≡ None)
    × (is_complete new.at ≡ true) × (new.outcome [] ≡ from_events (e ∷ []))
one_event from_events old new e w f t =
    let r = t.advances [] (subst (λ p. Completes p (e ∷ [])) (sym f.fresh) w) in
    let at : new.at ≡ complete = r.0 ∙ ap (λ p. next p e) f.fresh ∙ w.1 in
    (t.records, ap is_complete at, r.1 ∙ f.outcome (e ∷ []) w)

-- a number that fits means itself
pub fits : (n m : ℕ) → n ≡ m → m < 2 ^ 32 → unsigned_of 32 (nonneg n) ≡ Some (pos n)
fits n m e h = let f : nat_lt n (2 ^ 32) ≡ true = grind (arith, nat_tests) in rw f refl

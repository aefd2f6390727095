-- An answer of a path that has one property has another that follows (`weaker`). A path that leads on is not empty
-- (`leads-on-some`), and a tree that means a value gives a content (`reads-some`).
use Rattle.std.proofs.Common.{◌≡◌, List, [], ◌∷◌, Bool, true, false, Option, Some, None, true≢false, sym, ap, ◌∙◌, refl, subst}
use Rattle.std.specs.Prelude.{IsSome, IfOk, IfSome, Result, Ok, Err}
use Rattle.miniserde.specs.Tree.{Tree}
use Rattle.miniserde.specs.Meaning.{Meaning}
use Rattle.miniserde.specs.Objects.{Name}
use Rattle.refused.specs.Ways.{LeadsOn}

pub weaker : {A E : Type 0} (r : Result (Option A) E) (P Q : A → Type 0) → ((a : A) → P a → Q a)
    → IfOk r (λ o. IfSome o P) → IfOk r (λ o. IfSome o Q)
weaker (Ok (Some a)) P Q f h = f a h
weaker (Ok None) P Q f h = h
weaker (Err e) P Q f h = h

abbrev is_nil : List Name → Bool
is_nil [] = true
is_nil (n ∷ ns) = false

pub leads-on-some : (path : List Name) → LeadsOn [] path → path ≡ [] → ⊥
leads-on-some path (n, ns, e) z = true≢false (ap is_nil (sym z ∙ e))

pub reads-some : {V : Type 0} (m : Meaning V) (t : Tree) (v : V) → m.reads t v → IsSome (m.from_tree t)
reads-some m t v r = subst (λ o. IsSome o) (sym ((m.reads_agrees t v).0 r)) refl

-- A tuple's tree gives what its children mean.
use Rattle.std.proofs.Common.{◌≡◌, Option, Some, refl}
use Rattle.std.specs.Prelude.{◌↔◌}
use Rattle.miniserde_model.specs.Tree.{Tree, list, Trees, no_trees, tree}
use Rattle.miniserde_read.specs.laws.Pairs.{both-some}
use Rattle.miniserde_read.specs.types.Tuples.{NoneReads, none_of, ItemReads, item_of, TupleReads, tuple_of}

-- by `NoneReads`, children mean the unit exactly if `none_of` returns it for them
pub none-given : (ts : Trees) (v : Unit {0}) → NoneReads ts v ↔ (none_of ts ≡ Some tt)
none-given no_trees v = (λ h. refl, λ e. tt)
none-given (tree t ts) v = (λ h. absurd h, λ e. absurd (cc))

module _ {T V A B : Type 0} (R : Tree → T → Type 0) (S : Trees → V → Type 0) (f : Tree → Option A)
    (g : Trees → Option B) (content_t : T → A) (content_v : V → B)
    (given_t : (t : Tree) (x : T) → R t x ↔ (f t ≡ Some (content_t x)))
    (given_v : (ts : Trees) (y : V) → S ts y ↔ (g ts ≡ Some (content_v y))) where
  pub item-given : (ts : Trees) (v : T × V) → ItemReads R S ts v ↔ (item_of f g ts ≡ Some (content_t v.0, content_v v.1))
  item-given no_trees v = (λ h. absurd h, λ e. absurd (cc))
  item-given (tree t ts) v = (
    λ h. rw ((given_t t v.0).0 h.0, (given_v ts v.1).0 h.1) refl,
    λ e. let p = both-some (f t) (g ts) (content_t v.0) (content_v v.1) e in ((given_t t v.0).1 p.0, (given_v ts v.1).1 p.1),
  )

-- if f returns the content of items exactly for the children that mean them, `tuple_of f` does for their list
pub tuple-given : {V C : Type 0} {R : Trees → V → Type 0} {f : Trees → Option C} {content : V → C}
    → ((ts : Trees) (v : V) → R ts v ↔ (f ts ≡ Some (content v))) → (t : Tree) (v : V) → TupleReads R t v
    ↔ (tuple_of f t ≡ Some (content v))
tuple-given h (list ts) v = h ts v
tuple-given h t v = (λ e. absurd e, λ e. absurd (cc))

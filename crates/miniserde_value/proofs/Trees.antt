-- Values have a fold and an induction principle over the list of their children. Both are instances of the generated
-- `fold-Value` and `ind-Value`, in which an array and an object are the list of their values.
use Rattle.std.proofs.Common.{◌≡◌, List, [], ◌∷◌, map, refl, sym, ap, ◌∙◌, subst}
use Rattle.std.specs.Map.{values_of}
use Rattle.miniserde_value.specs.declared.json.value.Value.{Value, out-Value, roll-Value, out-roll-Value}
use Rattle.miniserde_value.specs.declared.json.value.Value.{fold-Value, fold_out-Value, ind-Value, map-Value}
use Rattle.miniserde_value.specs.declared.json.value.Value.TheOpen.{Value-F, Array-F, Object-F}
use Rattle.miniserde_value.specs.declared.json.array.Array.{Array, fold-Array, fold_out-Array, rolls-Array'}
use Rattle.miniserde_value.specs.declared.json.object.Object.{Object, fold-Object, fold_out-Object, rolls-Object'}
use Rattle.miniserde_value.specs.Values.{array_items, object_values, children_step, children}

-- one level, with a result for each value in its place
abbrev pub results : {A : Type 0} → Value-F A (List A) (List A) → List A
results (Value-F.Array rs) = rs
results (Value-F.Object rs) = rs
results _ = []

abbrev pub array_results : {A : Type 0} → Array-F A (List A) (List A) → List A
array_results a = a.items.items

abbrev pub object_results : {A : Type 0} → Object-F A (List A) (List A) → List A
object_results o = values_of o.members.entries

-- what f gives of the results of the children, from the leaves up
unfoldable pub fold_tree : {A : Type 0} → (List A → A) → Value → A
fold_tree {A} f = fold-Value A (List A) (List A) (λ x. f (results x)) array_results object_results

module _ {A : Type 0} (f : List A → A) where
  abbrev values : Value → A
  values = fold-Value A (List A) (List A) (λ x. f (results x)) array_results object_results

  abbrev arrays : Array → List A
  arrays = fold-Array A (List A) (List A) (λ x. f (results x)) array_results object_results

  abbrev objects : Object → List A
  objects = fold-Object A (List A) (List A) (λ x. f (results x)) array_results object_results

  values_of-map : {K X Y : Type 0} (h : X → Y) (es : List (K × X)) → values_of (map (λ e. (e.0, h e.1)) es) ≡ map h (values_of es)
  values_of-map h [] = refl
  values_of-map {K} {X} {Y} h (e ∷ es) = ap (λ (l : List Y). h e.1 ∷ l) (values_of-map h es)

  arrays_out : (a : Array) → arrays a ≡ map values (array_items a)
  arrays_out a = fold_out-Array A (List A) (List A) (λ x. f (results x)) array_results object_results a

  objects_out : (o : Object) → objects o ≡ map values (object_values o)
  objects_out o = fold_out-Object A (List A) (List A) (λ x. f (results x)) array_results object_results o
      ∙ values_of-map values o.members.entries

  results_below : (x : Value-F Value Array Object)
      → results (map-Value Value Array Object A (List A) (List A) values arrays objects x)
      ≡ map values (children_step x)
  results_below (Value-F.Array a) = arrays_out a
  results_below (Value-F.Object o) = objects_out o
  results_below _ = refl

  pub fold_tree_out : (v : Value) → fold_tree f v ≡ f (map (fold_tree f) (children v))
  unfolding fold_tree
  fold_tree_out v = fold_out-Value A (List A) (List A) (λ x. f (results x)) array_results object_results v
      ∙ ap f (results_below (out-Value v))

-- P of each value of the list
abbrev pub Each : (Value → Type 0) → List Value → Type 0
Each P [] = Unit {0}
Each P (v ∷ vs) = P v × Each P vs

module _ (P : Value → Type 0) (step : (v : Value) → Each P (children v) → P v) where
  each_of : (ys : List ((v : Value) × P v)) → Each P (map (λ e. e.0) ys)
  each_of [] = tt
  each_of (y ∷ ys) = (y.1, each_of ys)

  each_of_values : {K : Type 0} (es : List (K × ((v : Value) × P v))) → Each P (values_of (map (λ e. (e.0, e.1.0)) es))
  each_of_values [] = tt
  each_of_values (e ∷ es) = (e.1.1, each_of_values es)

  abbrev ArrayWith : Type 0
  ArrayWith = (a : Array) × Each P (array_items a)

  abbrev ObjectWith : Type 0
  ObjectWith = (o : Object) × Each P (object_values o)

  abbrev ValueWith : Type 0
  ValueWith = (v : Value) × P v

  each_below : (y : Value-F ValueWith ArrayWith ObjectWith)
      → Each P (children_step (map-Value ValueWith ArrayWith ObjectWith Value Array Object (λ e. e.0) (λ e. e.0)
      (λ e. e.0) y))
  each_below (Value-F.Array a) = a.1
  each_below (Value-F.Object o) = o.1
  each_below _ = tt

  pub tree_ind : (v : Value) → P v
  tree_ind =
      ind-Value P (λ a. Each P (array_items a)) (λ o. Each P (object_values o))
      (λ x y e. step (roll-Value x) (subst (Each P) (ap children_step e ∙ sym (ap children_step (out-roll-Value x))) (each_below y)))
      (λ x y e. subst (Each P)
      (ap (λ (z : Array-F Value Array Object). z.items.items) e ∙ sym (ap array_items (rolls-Array' x)))
      (each_of y.items.items))
      (λ x y e. subst (Each P)
      (ap (λ (z : Object-F Value Array Object). values_of z.members.entries) e
      ∙ sym (ap object_values (rolls-Object' x))) (each_of_values y.members.entries))

-- The marks of a builder still fit its values and open objects after a call that changes them. By induction over the
-- marks from the innermost on, and by cases of whether the call fails to allocate.
use Rattle.std.proofs.Common.{◌≡◌, ◌<◌, ◌≤◌, ℕ, suc, List, [], ◌∷◌, ◌++◌, None, Result, Ok, Err, is_ok, Vec, Global}
use Rattle.std.proofs.Common.{Some, map, length, take, set, get_or, reverse, refl, sym, ap, ap₂, ◌∙◌, subst, arith}
use Rattle.std.specs.Prelude.{if◌then◌else◌, OnOk, OnErr}
use Rattle.std.proofs.lemmas.List.{length-reverse, length-take, length-map, map-append, drop-append-le, take-append-le}
use Rattle.miniserde_model.specs.Tree.{Tree}
use Rattle.miniserde_value.specs.declared.json.value.Value.{Value}
use Rattle.miniserde_value.specs.declared.json.builder.OpenObject.{OpenObject}
use Rattle.miniserde_value.specs.declared.json.builder.OpenContainer.{OpenContainer}
use Rattle.miniserde_value.specs.declared.json.builder.OpenContainer.TheVariants as container
use Rattle.miniserde_model.specs.declared.kind.Kind.TheVariants as kind
use Rattle.miniserde_value.specs.Hole.{Hole, in_list, with_tree, complete_tree}
use Rattle.miniserde_value.specs.Values.{content_of}
use Rattle.miniserde_value.specs.Containers.{with_open_object, outer_objects, hole_of, innermost_kind, pending, next_name}
use Rattle.miniserde_value.specs.Containers.{first_next_name, Fits}
use Rattle.miniserde_value.proofs.Lasts.{reverse_added, reverse_last, reverse_set, reverse_ends}

-- marks that fit still fit where there are more values
pub fits_longer : (n k : ℕ) (os : List OpenObject) (ms : List OpenContainer) → n ≤ k → Fits n os ms → Fits k os ms
fits_longer n k os [] h f = tt
fits_longer n k os (container.Array v ∷ ms) h f = (omega (arith, h, f.0), f.1)
fits_longer n k os (container.Object ∷ ms) h f = (f.0, fits_longer n k (outer_objects os) ms h f.1)

-- and where one more object is open
pub fits_more : (n : ℕ) (o : OpenObject) (os : List OpenObject) (ms : List OpenContainer) → Fits n os ms → Fits n (o ∷ os) ms
fits_more n o os [] f = tt
fits_more n o os (container.Array v ∷ ms) f = (f.0, fits_more v o os ms f.1)
fits_more n o [] (container.Object ∷ ms) f = absurd (omega (arith, f.0))
fits_more n o (p ∷ os) (container.Object ∷ ms) f = (omega arith, fits_more n p os ms f.1)

-- and where the innermost open object is another
pub fits_other : (n : ℕ) (o p : OpenObject) (os : List OpenObject) (ms : List OpenContainer) → Fits n (o ∷ os) ms → Fits n (p ∷ os) ms
fits_other n o p os [] f = tt
fits_other n o p os (container.Array v ∷ ms) f = (f.0, fits_other v o p os ms f.1)
fits_other n o p os (container.Object ∷ ms) f = (omega arith, f.1)

-- the same, where it stands last
pub fits_changed : (n : ℕ) (os : List OpenObject) (k : ℕ) (p : OpenObject) (ms : List OpenContainer)
    → length os ≡ suc k → Fits n (reverse os) ms → Fits n (reverse (set os k p)) ms
fits_changed n os k p ms h f =
    subst (λ (qs : List OpenObject). Fits n qs ms) (sym (reverse_set os k p h))
    (fits_other n (get_or os k p) p (reverse (take k os)) ms (subst (λ (qs : List OpenObject). Fits n qs ms) (reverse_last os k p h) f))

-- an object is open behind the objects os, which gives qs, and its mark behind the marks ms, which gives ns, unless there was no
-- memory for the mark
pub record OpensObject {A E : Type 0} (r : Result A E) (os qs : List OpenObject) (ms ns : List OpenContainer) : Type 0 where
  pub object : OpenObject
  pub objects : qs ≡ os ++ object ∷ []
  pub marks : ns ≡ (if is_ok r then ms ++ container.Object ∷ [] else ms)

-- marks fit after an object was opened, whether or not there was memory for its mark
pub fits_opened : {A E : Type 0} {qs : List OpenObject} {ns : List OpenContainer} (r : Result A E) (n : ℕ)
    (os : List OpenObject) (ms : List OpenContainer) → OpensObject r os qs ms ns → Fits n (reverse os) (reverse ms)
    → Fits n (reverse qs) (reverse ns)
fits_opened {qs = qs} {ns = ns} (Ok u) n os ms p f =
    subst (λ (l : List OpenObject). Fits n l (reverse ns)) (sym (reverse_added os qs p.object p.objects))
    (subst (λ (l : List OpenContainer). Fits n (p.object ∷ reverse os) l)
    (sym (reverse_added ms ns container.Object p.marks)) (omega arith, f))
fits_opened {qs = qs} {ns = ns} (Err u) n os ms p f =
    subst (λ (l : List OpenObject). Fits n l (reverse ns)) (sym (reverse_added os qs p.object p.objects))
    (subst (λ (l : List OpenContainer). Fits n (p.object ∷ reverse os) (reverse l)) (sym p.marks)
    (fits_more n p.object (reverse os) (reverse ms) f))

-- the values of `old` from the index v on were taken out, which left `new`, unless there was no memory for it
pub record TakenFrom {A E : Type 0} (r : Result A E) (old new : Vec Value Global) (v : ℕ) : Type 0 where
  pub taken : OnOk r (new.items ≡ take v old.items)
  pub unchanged : OnErr r (new ≡ old)

-- marks fit after values were taken out, whether or not there was memory for it
pub fits_split : {A E : Type 0} {old new : Vec Value Global} {v : ℕ} (r : Result A E) (os : List OpenObject)
    (ms : List OpenContainer) → TakenFrom r old new v → (v ≤ length old.items) × Fits v os ms → Fits (length new.items) os ms
fits_split {old = old} {new = new} {v = v} (Ok u) os ms t f =
    let same : length new.items ≡ length (take v old.items) = ap length t.taken in
    fits_longer v (length new.items) os ms (omega (arith, same, f.0, length-take v old.items)) f.1
fits_split {old = old} {new = new} {v = v} (Err u) os ms t f =
    let same : length new.items ≡ length old.items = ap (λ (w : Vec Value Global). length w.items) t.unchanged in
    fits_longer v (length new.items) os ms (omega (arith, same, f.0)) f.1

-- ---- where an object is the innermost container, it alone changes

-- the innermost open container of ms is an object, and o is the last of the open objects os, at the index k
pub record ObjectInnermost (os : List OpenObject) (k : ℕ) (o : OpenObject) (ms : List OpenContainer) : Type 0 where
  pub below : List OpenContainer
  pub there : o ≡ get_or os k o
  pub is_last : length os ≡ suc k
  pub on_top : reverse ms ≡ container.Object ∷ below

-- if f replaces the open object o by p in each hole, and o is innermost, to set p for o changes the hole by f
pub object_changed : {k : ℕ} {o : OpenObject} (f : Hole → Hole) (vs : List Tree) (os : List OpenObject) (p : OpenObject)
    (ms : List OpenContainer) → ObjectInnermost os k o ms → ((h : Hole) → with_open_object p h ≡ f (with_open_object o h))
    → hole_of vs (reverse (set os k p)) (reverse ms) ≡ f (hole_of vs (reverse os) (reverse ms))
object_changed {k = k} {o = o} f vs os p ms i h =
    ap (hole_of vs (reverse (set os k p))) i.on_top
    ∙ ap (λ (qs : List OpenObject). hole_of vs qs (container.Object ∷ i.below)) (reverse_set os k p i.is_last)
    ∙ h (hole_of vs (reverse (take k os)) i.below)
    ∙ ap (λ (qs : List OpenObject). f (hole_of vs qs (container.Object ∷ i.below))) (sym (reverse_ends os k o o i.is_last i.there))
    ∙ ap (λ (ns : List OpenContainer). f (hole_of vs (reverse os) ns)) (sym i.on_top)

-- if an object is the innermost container, it is the first of the open containers
pub object_on_top : (vs : List Tree) (os : List OpenObject) (ms : List OpenContainer)
    → innermost_kind (hole_of vs os ms) ≡ Some kind.Map → (below : List OpenContainer) × (ms ≡ container.Object ∷ below)
object_on_top vs os [] e = absurd (cc)
object_on_top vs os (container.Array v ∷ ms) e = absurd (cc)
object_on_top vs os (container.Object ∷ ms) e = (ms, refl)

-- if an object is the innermost container, an object is open
pub object_is_open : (n : ℕ) (vs : List Tree) (os : List OpenObject) (ms : List OpenContainer)
    → Fits n (reverse os) (reverse ms) → innermost_kind (hole_of vs (reverse os) (reverse ms)) ≡ Some kind.Map → 0 < length os
object_is_open n vs os ms f e =
    let top = object_on_top vs (reverse os) (reverse ms) e in
    let some = (subst (λ (ns : List OpenContainer). Fits n (reverse os) ns) top.1 f).0 in
    omega (arith, some, length-reverse os)

-- the name that the innermost object has for its next value is the hole's
pub pending_last : {k : ℕ} {o : OpenObject} (vs : List Tree) (os : List OpenObject) (ms : List OpenContainer)
    → ObjectInnermost os k o ms → pending (hole_of vs (reverse os) (reverse ms)) ≡ next_name o
pending_last {k = k} {o = o} vs os ms i =
    ap (λ (ns : List OpenContainer). pending (hole_of vs (reverse os) ns)) i.on_top
    ∙ ap first_next_name (reverse_ends os k o o i.is_last i.there)

-- ---- where an array is the innermost container, its items alone change

item_added : (vs : List Tree) (t : Tree) (os : List OpenObject) (ms : List OpenContainer) → Fits (length vs) os ms
    → innermost_kind (hole_of vs os ms) ≡ Some kind.Seq → hole_of (vs ++ t ∷ []) os ms ≡ with_tree t (hole_of vs os ms)
item_added vs t os [] f e = absurd (cc)
item_added vs t os (container.Array v ∷ ms) f e =
    ap₂ (λ (ts us : List Tree). in_list ts (hole_of us os ms)) (drop-append-le v vs (t ∷ []) f.0)
    (take-append-le v vs (t ∷ []) f.0)
item_added vs t os (container.Object ∷ ms) f e = absurd (cc)

-- if an array is the innermost container, to add v to the values is to put v into the hole
pub item_put : {new : List Value} (old : List Value) (v : Value) (os : List OpenObject) (ms : List OpenContainer) → new ≡ old ++ v ∷ []
    → Fits (length old) os ms → innermost_kind (hole_of (map content_of old) os ms) ≡ Some kind.Seq
    → hole_of (map content_of new) os ms ≡ with_tree (content_of v) (hole_of (map content_of old) os ms)
item_put old v os ms e f i =
    ap (λ (l : List Value). hole_of (map content_of l) os ms) e
    ∙ ap (λ (l : List Tree). hole_of l os ms) (map-append content_of old (v ∷ []))
    ∙ item_added (map content_of old) (content_of v) os ms
    (subst (λ (n : ℕ). Fits n os ms) (sym (length-map old content_of)) f) i

-- ---- the value that is whole

open_has_none : (vs : List Tree) (os : List OpenObject) (ms : List OpenContainer) → 0 < length ms → None ≡ complete_tree (hole_of vs os ms)
open_has_none vs os [] h = absurd (omega (arith, h))
open_has_none vs os (container.Array v ∷ ms) h = refl
open_has_none vs os (container.Object ∷ ms) h = refl

-- if a container is open, no tree is complete
pub whole_open : (vs : List Tree) (os : List OpenObject) (ms : List OpenContainer) → 0 < length ms
    → None ≡ complete_tree (hole_of vs os (reverse ms))
whole_open vs os ms h = open_has_none vs os (reverse ms) (omega (arith, h, length-reverse ms))

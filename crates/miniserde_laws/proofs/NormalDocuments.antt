-- The normal form of a document's tree means a document, and each document that it means has this normal form. By
-- induction over the value (`tree_ind`): a value of the normal form is made of those of its children.
use Rattle.std.proofs.Common.{◌≡◌, pos, negsuc, List, [], ◌∷◌, length, String, refl, sym, ap, ap₂, ◌∙◌, arith}
use Rattle.std.specs.Prelude.{⊤, string_bytes}
use Rattle.std.specs.Map.{values_of}
use Rattle.std.specs.Vec.{with_items as refilled}
use Rattle.std.specs.declared.alloc.Global.{Global}
use Rattle.std.specs.declared.cmp.Ordering.TheVariants.{Less, Equal, Greater}
use Rattle.std.proofs.lemmas.List.{with_items_is}
use Rattle.std_collections.specs.Layout.BTreeMap.{with_entries}
use Rattle.std.specs.Ordering.{match_ordering}
use Rattle.miniserde_model.specs.Tree.{Tree, list, members, tree, Members, member}
use Rattle.miniserde_model.specs.Normal.{text_cmp, with_if_absent, norm, norm_children, norm_members}
use Rattle.miniserde_model.proofs.Distinct.{norm_distinct}
use Rattle.miniserde_model.proofs.Normal.{norm_twice}
use Rattle.miniserde_ser.specs.Trees.{trees_of, members_of}
use Rattle.miniserde_value.specs.declared.json.number.Number.{Number}
use Rattle.miniserde_value.specs.declared.json.number.Number.TheVariants.{U64, I64, Text}
use Rattle.miniserde_value.specs.declared.json.value.Value.{Value, out-Value}
use Rattle.miniserde_value.specs.declared.json.value.Value as Value
use Rattle.miniserde_value.specs.declared.json.value.Value.TheOpen.{Value-F}
use Rattle.miniserde_value.specs.declared.json.array.Array.{Array}
use Rattle.miniserde_value.specs.declared.json.object.Object.{Object}
use Rattle.miniserde_value.specs.declared.json.document.Document.{Document}
use Rattle.miniserde_value.specs.declared.json.unique.Unique.{Unique}
use Rattle.miniserde_value.specs.Retained.{retained_tree}
use Rattle.miniserde_value.specs.Numbers.{number_leaf, ReadsNumber}
use Rattle.miniserde_value.specs.Values.{array_items, object_entries, object_values, with_items, with_members}
use Rattle.miniserde_value.specs.Values.{children_step, children, content_of, array_content, object_content}
use Rattle.miniserde_value.specs.Values.{tree_of, ReadsValue}
use Rattle.miniserde_value.proofs.RetainedTrees.{norm_kept, kept_norm}
use Rattle.miniserde_value.proofs.ContentTrees.{level, content_of_out, content_of_number, content_of_array, content_of_object}
use Rattle.miniserde_value.proofs.Trees.{Each, tree_ind}
use Rattle.miniserde_value.specs.Meanings.{ReadsUnique}
use Rattle.miniserde_laws.specs.RoundTrip.{RoundTrips}

-- what is kept of a normal form has that normal form
same : (s t : Tree) → s ≡ retained_tree (norm t) → norm s ≡ norm t
same s t e = ap norm e ∙ norm_kept (norm t) ∙ norm_twice t

-- ---- a document of the normal form

normal_number : (n : Number) → (m : Number) × (number_leaf m ≡ norm (number_leaf n))
normal_number (U64 n) = (U64 n, refl)
normal_number (I64 (pos n)) = (U64 n, refl)
normal_number (I64 (negsuc n)) = (I64 (negsuc n), refl)
normal_number (Text x) = (Text x, refl)

-- a value of the normal form
abbrev Normal : Value → Type 0
Normal v = (w : Value) × (content_of w ≡ norm (content_of v))

normal_items : (vs : List Value) → Each Normal vs → (ws : List Value) × (length ws ≡ length vs)
    × (trees_of content_of ws ≡ norm_children (trees_of content_of vs))
normal_items [] h = ([], refl, refl)
normal_items (v ∷ vs) h = let r = normal_items vs h.1 in (h.0.0 ∷ r.0, omega (arith, r.1), ap₂ tree h.0.1 r.2)

normal_array : (a : Array) → Each Normal (array_items a) → (b : Array) × (array_content b ≡ norm (array_content a))
normal_array a h =
    let r = normal_items (array_items a) h in
    (with_items (refilled a.items r.0), ap list (ap (trees_of content_of) (with_items_is a.items r.0 (r.1 ∙ sym a.items.ok.0)) ∙ r.2))

abbrev Entries : Type 0
Entries = List (String Global × Value)

abbrev shown : Entries → Members
shown es = members_of string_bytes content_of es

-- one more entry in the place of its name
placed_entry : (e : String Global × Value) (es : Entries) → (fs : Entries)
    × (shown fs ≡ with_if_absent (string_bytes e.0) (content_of e.1) (shown es))
placed_entry e [] = (e ∷ [], refl)
placed_entry e (g ∷ es) =
    elim (text_cmp (string_bytes e.0) (string_bytes g.0))
    as (λ o. (fs : Entries) × (shown fs ≡ match_ordering o (shown (e ∷ g ∷ es)) (shown (g ∷ es))
    (member (string_bytes g.0) (content_of g.1) (with_if_absent (string_bytes e.0) (content_of e.1) (shown es))))) [
      | Less ↦ (e ∷ g ∷ es, refl)
      | Equal ↦ (g ∷ es, refl)
      | Greater ↦ let r = placed_entry e es in (g ∷ r.0, ap (member (string_bytes g.0) (content_of g.1)) r.1)
    ]

normal_entries : (es : Entries) → Each Normal (values_of es) → (fs : Entries) × (shown fs ≡ norm_members (shown es))
normal_entries [] h = ([], refl)
normal_entries (e ∷ es) h =
    let r = normal_entries es h.1 in
    let p = placed_entry (e.0, h.0.0) r.0 in
    (p.0, p.1 ∙ ap₂ (with_if_absent (string_bytes e.0)) h.0.1 r.1)

normal_object : (o : Object) → Each Normal (object_values o) → (p : Object) × (object_content p ≡ norm (object_content o))
normal_object o h = let r = normal_entries (object_entries o) h in (with_members (with_entries o.members r.0), ap members r.1)

normal_step : (v : Value) → Each Normal (children v) → Normal v
normal_step v = go (out-Value v) refl
  where
    -- a value of the normal form of this level
    given : (x : Value-F Value Array Object) → out-Value v ≡ x → (w : Value) → content_of w ≡ norm (level x) → Normal v
    given x e w s = (w, s ∙ sym (ap norm (content_of_out v ∙ ap level e)))

    go : (x : Value-F Value Array Object) → out-Value v ≡ x → Each Normal (children_step x) → Normal v
    go Value-F.Null e h = given Value-F.Null e v (content_of_out v ∙ ap level e)
    go (Value-F.Bool b) e h = given (Value-F.Bool b) e v (content_of_out v ∙ ap level e)
    go (Value-F.String s) e h = given (Value-F.String s) e v (content_of_out v ∙ ap level e)
    go (Value-F.Number n) e h = let m = normal_number n in given (Value-F.Number n) e (Value.Number m.0) (content_of_number m.0 ∙ m.1)
    go (Value-F.Array a) e h = let b = normal_array a h in given (Value-F.Array a) e (Value.Array b.0) (content_of_array b.0 ∙ b.1)
    go (Value-F.Object o) e h = let p = normal_object o h in given (Value-F.Object o) e (Value.Object p.0) (content_of_object p.0 ∙ p.1)

normal : (v : Value) → Normal v
normal = tree_ind Normal normal_step

all_normal : (vs : List Value) → Each Normal vs
all_normal [] = tt
all_normal (v ∷ vs) = (normal v, all_normal vs)

-- ---- documents

-- the normal form of a number means a number, and each number that it means has this normal form
pub round_trips-number : (n : Number) → RoundTrips (λ _. ⊤) (λ n. norm (number_leaf n)) ReadsNumber (norm (number_leaf n))
round_trips-number (U64 n) = ((U64 n, tt, refl), λ w r e. rw e refl)
round_trips-number (I64 (pos n)) = ((U64 n, tt, refl), λ w r e. rw e refl)
round_trips-number (I64 (negsuc n)) = ((I64 (negsuc n), tt, refl), λ w r e. rw e refl)
round_trips-number (Text x) = ((Text x, tt, refl), λ w r e. rw e refl)

-- the normal form of a value means a value, and each value that it means has this normal form
pub round_trips-value : (v : Value) → RoundTrips (λ _. ⊤) (λ v. norm (content_of v)) ReadsValue (norm (content_of v))
round_trips-value v =
    let n = normal v in
    ((n.0, tt, n.1 ∙ kept_norm (content_of v)), λ w r e. same (content_of w) (content_of v) e)

-- the normal form of an array means an array, and each array that it means has this normal form
pub round_trips-array : (a : Array)
    → RoundTrips (λ _. ⊤) (λ a. norm (array_content a)) (λ t a. array_content a ≡ retained_tree t)
    (norm (array_content a))
round_trips-array a =
    let n = normal_array a (all_normal (array_items a)) in
    ((n.0, tt, n.1 ∙ kept_norm (array_content a)), λ w r e. same (array_content w) (array_content a) e)

-- the normal form of an object means an object, and each object that it means has this normal form
pub round_trips-object : (o : Object)
    → RoundTrips (λ _. ⊤) (λ o. norm (object_content o)) (λ t o. object_content o ≡ retained_tree t)
    (norm (object_content o))
round_trips-object o =
    let n = normal_object o (all_normal (object_values o)) in
    ((n.0, tt, n.1 ∙ kept_norm (object_content o)), λ w r e. same (object_content w) (object_content o) e)

-- the normal form of a `Unique` has no duplicate name, so it means a `Unique`, and each `Unique` that it means has this
-- normal form
pub round_trips-unique : (u : Unique) → RoundTrips (λ _. ⊤) (λ u. norm (content_of u.value)) ReadsUnique (norm (content_of u.value))
round_trips-unique u =
    let n = normal u.value in (
      (record { value = n.0 }, tt, (norm_distinct (content_of u.value), n.1 ∙ kept_norm (content_of u.value))),
      λ w r e. same (content_of w.value) (content_of u.value) e.1,
    )

-- the tree of a document means a document, and each document that it means has this tree
pub round_trips-document : (d : Document) → RoundTrips {T = Document} (λ _. ⊤) (λ d. tree_of d.value)
    (λ t d. tree_of d.value ≡ norm t) (tree_of d.value)
round_trips-document d = ((d, tt, sym (norm_twice _)), λ w r e. e ∙ norm_twice _)

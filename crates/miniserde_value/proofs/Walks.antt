-- The first token of a value is its leaf or the opening of its container, and the tokens of the children are left. By
-- cases of the variant, whose tree is a lemma of `ContentTrees.antt`.
use Rattle.std.proofs.Common.{◌≡◌, Bool, List, ◌∷◌, refl, sym, ap, ◌∙◌, subst}
use Rattle.std.specs.Prelude.{String, string_bytes}
use Rattle.std.specs.BTreeMap.{BTreeMap}
use Rattle.std.specs.BTreeMap as tree_map
use Rattle.std.specs.String.{string_cmp}
use Rattle.std.specs.Slice.Iter.{iter_rest}
use Rattle.std.specs.declared.slice.Iter.{Iter}
use Rattle.std.specs.declared.alloc.Global.{Global}
use Rattle.miniserde_model.specs.Tree.{Tree, null, truth, str}
use Rattle.miniserde_model.specs.Normal.{Rise}
use Rattle.miniserde_model.specs.Tokens.{Token, leaf, array, array_end, object, object_end, tokens, child_tokens}
use Rattle.miniserde_model.specs.Tokens.{member_tokens}
use Rattle.miniserde_ser.specs.Trees.{trees_of, members_of}
use Rattle.miniserde_value.specs.declared.json.value.Value.{Value}
use Rattle.miniserde_value.specs.declared.json.value.Value.TheVariants as value
use Rattle.miniserde_value.specs.declared.json.array.Array.{Array}
use Rattle.miniserde_value.specs.declared.json.object.Object.{Object}
use Rattle.miniserde_value.specs.declared.json.number.Number.{Number}
use Rattle.miniserde_value.specs.declared.json.number.Number.TheVariants as number
use Rattle.miniserde_value.specs.Numbers.{number_leaf}
use Rattle.miniserde_value.specs.Values.{array_items, object_entries, array_content, object_content, content_of}
use Rattle.miniserde_value.specs.Tokens.{IsOrdered, AreOrdered, AreOrderedMembers}
use Rattle.miniserde_value.specs.Walks.{items_left, members_left, ItemsNamesRise, ValuesNamesRise}
use Rattle.miniserde_value.proofs.ContentTrees.{content_of_null, content_of_bool, content_of_number}
use Rattle.miniserde_value.proofs.ContentTrees.{content_of_string, content_of_array, content_of_object}
use Rattle.miniserde_value.proofs.Ordered.{ordered_rises}

-- ---- the first token of a value

number_tokens : (n : Number) (rest : List Token) → tokens (number_leaf n) rest ≡ leaf (number_leaf n) ∷ rest
number_tokens (number.U64 n) rest = refl
number_tokens (number.I64 z) rest = refl
number_tokens (number.Text x) rest = refl

number_ordered : (n : Number) → IsOrdered (number_leaf n)
number_ordered (number.U64 n) = tt
number_ordered (number.I64 z) = tt
number_ordered (number.Text x) = tt

-- a value of this shape
at_content : (v : Value) (t : Tree) (rest more : List Token) → content_of v ≡ t → tokens t rest ≡ more
    → tokens (content_of v) rest ≡ more
at_content v t rest more e h = ap (λ (x : Tree). tokens x rest) e ∙ h

-- the one token of `Null` is the leaf null
pub begin_null : (v : Value) (rest : List Token) → v ≡ value.Null → tokens (content_of v) rest ≡ leaf null ∷ rest
begin_null v rest e = at_content v null rest _ (ap content_of e ∙ content_of_null) refl

-- the one token of a boolean is its leaf
pub begin_bool : (v : Value) (b : Bool) (rest : List Token) → v ≡ value.Bool b → tokens (content_of v) rest ≡ leaf (truth b) ∷ rest
begin_bool v b rest e = at_content v (truth b) rest _ (ap content_of e ∙ content_of_bool b) refl

-- the one token of a number is its leaf
pub begin_number : (v : Value) (n : Number) (rest : List Token) → v ≡ value.Number n
    → tokens (content_of v) rest ≡ leaf (number_leaf n) ∷ rest
begin_number v n rest e = at_content v (number_leaf n) rest _ (ap content_of e ∙ content_of_number n) (number_tokens n rest)

-- the one token of a string is its leaf
pub begin_string : (v : Value) (s : String Global) (rest : List Token) → v ≡ value.String s
    → tokens (content_of v) rest ≡ leaf (str (string_bytes s)) ∷ rest
begin_string v s rest e = at_content v (str (string_bytes s)) rest _ (ap content_of e ∙ content_of_string s) refl

-- the tree of `Null` is ordered
pub ordered_null : (v : Value) → v ≡ value.Null → IsOrdered (content_of v)
ordered_null v e = subst IsOrdered (sym (ap content_of e ∙ content_of_null)) tt

-- the tree of a boolean is ordered
pub ordered_bool : (v : Value) (b : Bool) → v ≡ value.Bool b → IsOrdered (content_of v)
ordered_bool v b e = subst IsOrdered (sym (ap content_of e ∙ content_of_bool b)) tt

-- the tree of a number is ordered
pub ordered_number : (v : Value) (n : Number) → v ≡ value.Number n → IsOrdered (content_of v)
ordered_number v n e = subst IsOrdered (sym (ap content_of e ∙ content_of_number n)) (number_ordered n)

-- the tree of a string is ordered
pub ordered_string : (v : Value) (s : String Global) → v ≡ value.String s → IsOrdered (content_of v)
ordered_string v s e = subst IsOrdered (sym (ap content_of e ∙ content_of_string s)) tt

-- ---- a container is opened

-- the first token of an array is its opening, and the tokens of its items are left
pub begin_array : {v : Value} {more : List Token} (a : Array) (it : Iter Value) (rest : List Token) → v ≡ value.Array a
    → iter_rest it ≡ array_items a → more ≡ items_left it rest → tokens (content_of v) rest ≡ array ∷ more
begin_array {v = v} a it rest e i m =
    at_content v (array_content a) rest _ (ap content_of e ∙ content_of_array a)
    (ap (λ (xs : List Value). array ∷ child_tokens (trees_of content_of xs) (array_end ∷ rest)) (sym i)
    ∙ ap (λ (x : List Token). array ∷ x) (sym m))

-- the first token of an object is its opening, and the tokens of its members are left
pub begin_object : {v : Value} {more : List Token} (o : Object) (it : List (String Global × Value)) (rest : List Token)
    → v ≡ value.Object o → it ≡ object_entries o → more ≡ members_left it rest
    → tokens (content_of v) rest ≡ object ∷ more
begin_object {v = v} o it rest e i m =
    at_content v (object_content o) rest _ (ap content_of e ∙ content_of_object o)
    (ap (λ (xs : List (String Global × Value)).
    object ∷ member_tokens (members_of string_bytes content_of xs) (object_end ∷ rest)) (sym i)
    ∙ ap (λ (x : List Token). object ∷ x) (sym m))

-- if the items of an array are ordered, its tree is
pub ordered_array : (v : Value) (a : Array) (it : Iter Value) → v ≡ value.Array a → iter_rest it ≡ array_items a
    → ItemsNamesRise it → IsOrdered (content_of v)
ordered_array v a it e i o =
    subst IsOrdered (sym (ap content_of e ∙ content_of_array a)) (subst (λ (xs : List Value). AreOrdered (trees_of content_of xs)) i o)

-- the map of an object, whose entries a walk goes over
pub record Opened (o : Object) (m : BTreeMap (String Global) Value) (it : List (String Global × Value)) : Type 0 where
  pub map : m ≡ o.members
  pub entries : it ≡ m.entries
  pub sorted : tree_map.IsOrdered string_cmp m

-- if the values of the members that a walk has of an object are ordered, so is the tree of the object, since its map
-- is sorted
pub ordered_opened : (o : Object) (m : BTreeMap (String Global) Value) (it : List (String Global × Value))
    → Opened o m it → ValuesNamesRise it → IsOrdered (object_content o)
ordered_opened o m it w p =
    let rises = subst (λ (x : BTreeMap (String Global) Value). Rise (members_of string_bytes content_of x.entries))
    w.map (ordered_rises content_of m w.sorted) in
    let whole : it ≡ object_entries o = w.entries ∙ ap (λ (x : BTreeMap (String Global) Value). x.entries) w.map in
    (rises, subst (λ (xs : List (String Global × Value)). AreOrderedMembers (members_of string_bytes content_of xs)) whole p)

-- if v is an object whose members a walk has, and the values of these are ordered, the tree of v is
pub ordered_object : (v : Value) (o : Object) (m : BTreeMap (String Global) Value)
    (it : List (String Global × Value)) → v ≡ value.Object o → Opened o m it → ValuesNamesRise it
    → IsOrdered (content_of v)
ordered_object v o m it e w p = subst IsOrdered (sym (ap content_of e ∙ content_of_object o)) (ordered_opened o m it w p)

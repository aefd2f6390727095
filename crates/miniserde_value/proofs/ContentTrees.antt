-- The tree of a value is made of the trees of its children, and its size is one more than their sizes. The fold that
-- defines it is unfolded once (`fold_out-Value`), by cases of the variant.
use Rattle.std.proofs.Common.{◌≡◌, ℕ, ◌+◌, List, [], ◌∷◌, ◌++◌, map, String, refl, ap, ◌∙◌, arith}
use Rattle.std.specs.Prelude.{Bool, string_bytes}
use Rattle.std.specs.Map.{values_of}
use Rattle.std.specs.declared.alloc.Global.{Global}
use Rattle.miniserde_model.specs.Tree.{Tree, null, truth, str, list, members, Trees, Members, tree, member}
use Rattle.miniserde_model.specs.Size.{size, size_of_children, size_of_members}
use Rattle.miniserde_ser.specs.Trees.{trees_of, members_of}
use Rattle.miniserde_value.specs.declared.json.value.Value.{Value, out-Value, fold-Value, fold_out-Value, map-Value}
use Rattle.miniserde_value.specs.declared.json.value.Value as Value
use Rattle.miniserde_value.specs.declared.json.value.Value.TheVariants.{Null, outs-Null, outs-Bool, outs-Number}
use Rattle.miniserde_value.specs.declared.json.value.Value.TheVariants.{outs-String, outs-Array, outs-Object}
use Rattle.miniserde_value.specs.declared.json.value.Value.TheOpen.{Value-F}
use Rattle.miniserde_value.specs.declared.json.array.Array.{Array, fold-Array, fold_out-Array}
use Rattle.miniserde_value.specs.declared.json.object.Object.{Object, fold-Object, fold_out-Object}
use Rattle.miniserde_value.specs.declared.json.number.Number.{Number}
use Rattle.miniserde_value.specs.Numbers.{number_leaf}
use Rattle.miniserde_value.specs.Values.{array_items, object_entries, children_step, children, content_of}
use Rattle.miniserde_value.specs.Values.{content_step, array_step, object_step, array_content, object_content}
use Rattle.miniserde_value.specs.Looks.{value_size}

abbrev trees : Array → Trees
trees = fold-Array Tree Trees Members content_step array_step object_step

abbrev rows : Object → Members
rows = fold-Object Tree Trees Members content_step array_step object_step

trees_of_map : (vs : List Value) → trees_of (λ t. t) (map content_of vs) ≡ trees_of content_of vs
trees_of_map [] = refl
trees_of_map (v ∷ vs) = ap (tree (content_of v)) (trees_of_map vs)

members_of_map : (es : List (String Global × Value))
    → members_of string_bytes (λ t. t) (map (λ e. (e.0, content_of e.1)) es) ≡ members_of string_bytes content_of es
members_of_map [] = refl
members_of_map (e ∷ es) = ap (member (string_bytes e.0) (content_of e.1)) (members_of_map es)

trees_out : (a : Array) → trees a ≡ trees_of content_of (array_items a)
unfolding content_of
trees_out a = fold_out-Array Tree Trees Members content_step array_step object_step a ∙ trees_of_map (array_items a)

rows_out : (o : Object) → rows o ≡ members_of string_bytes content_of (object_entries o)
unfolding content_of
rows_out o = fold_out-Object Tree Trees Members content_step array_step object_step o ∙ members_of_map (object_entries o)

-- the tree of one level
abbrev pub level : Value-F Value Array Object → Tree
level Value-F.Null = null
level (Value-F.Bool b) = truth b
level (Value-F.Number n) = number_leaf n
level (Value-F.String s) = str (string_bytes s)
level (Value-F.Array a) = array_content a
level (Value-F.Object o) = object_content o

level_of : (x : Value-F Value Array Object)
    → content_step (map-Value Value Array Object Tree Trees Members content_of trees rows x) ≡ level x
level_of Value-F.Null = refl
level_of (Value-F.Bool b) = refl
level_of (Value-F.Number n) = refl
level_of (Value-F.String s) = refl
level_of (Value-F.Array a) = ap list (trees_out a)
level_of (Value-F.Object o) = ap members (rows_out o)

-- the tree of a value is that of its one level, with the trees of its children
pub content_of_out : (v : Value) → content_of v ≡ level (out-Value v)
unfolding content_of
content_of_out v = fold_out-Value Tree Trees Members content_step array_step object_step v ∙ level_of (out-Value v)

-- the tree of `Null` is null
pub content_of_null : content_of Null ≡ null
content_of_null = content_of_out Null ∙ ap level outs-Null

-- the tree of `Bool` is the boolean
pub content_of_bool : (b : Bool) → content_of (Value.Bool b) ≡ truth b
content_of_bool b = content_of_out (Value.Bool b) ∙ ap level (outs-Bool b)

-- the tree of `Number` is the number's leaf
pub content_of_number : (n : Number) → content_of (Value.Number n) ≡ number_leaf n
content_of_number n = content_of_out (Value.Number n) ∙ ap level (outs-Number n)

-- the tree of `String` is the string of its bytes
pub content_of_string : (s : String Global) → content_of (Value.String s) ≡ str (string_bytes s)
content_of_string s = content_of_out (Value.String s) ∙ ap level (outs-String s)

-- the tree of `Array` is the array's content
pub content_of_array : (a : Array) → content_of (Value.Array a) ≡ array_content a
content_of_array a = content_of_out (Value.Array a) ∙ ap level (outs-Array a)

-- the tree of `Object` is the object's content
pub content_of_object : (o : Object) → content_of (Value.Object o) ≡ object_content o
content_of_object o = content_of_out (Value.Object o) ∙ ap level (outs-Object o)

-- ---- how many values

-- the values of a list, each with all that it holds
abbrev pub sizes : List Value → ℕ
sizes [] = 0
sizes (v ∷ vs) = value_size v + sizes vs

pub size_items : (vs : List Value) → size_of_children (trees_of content_of vs) ≡ sizes vs
size_items [] = refl
size_items (v ∷ vs) = ap (λ (n : ℕ). value_size v + n) (size_items vs)

pub size_entries : (es : List (String Global × Value)) → size_of_members (members_of string_bytes content_of es) ≡ sizes (values_of es)
size_entries [] = refl
size_entries (e ∷ es) = ap (λ (n : ℕ). value_size e.1 + n) (size_entries es)

number_size : (n : Number) → size (number_leaf n) ≡ 1
number_size (Number.U64 n) = refl
number_size (Number.I64 z) = refl
number_size (Number.Text x) = refl

level_size : (x : Value-F Value Array Object) → size (level x) ≡ 1 + sizes (children_step x)
level_size Value-F.Null = refl
level_size (Value-F.Bool b) = refl
level_size (Value-F.Number n) = number_size n
level_size (Value-F.String s) = refl
level_size (Value-F.Array a) = ap (λ (n : ℕ). 1 + n) (size_items (array_items a))
level_size (Value-F.Object o) = ap (λ (n : ℕ). 1 + n) (size_entries (object_entries o))

-- a value, and what its children hold
pub size_children : (v : Value) → value_size v ≡ 1 + sizes (children v)
size_children v = ap size (content_of_out v) ∙ level_size (out-Value v)

-- the sizes of two lists of values add up to the sizes of the appended list
pub sizes_append : (xs ys : List Value) → sizes (xs ++ ys) ≡ sizes xs + sizes ys
sizes_append [] ys = omega arith
sizes_append (x ∷ xs) ys = omega (arith, sizes_append xs ys)

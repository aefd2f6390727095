-- A value is an array exactly if its tree is a list, and an object exactly if its tree has members. By cases of the
-- variant, whose tree is a lemma of `ContentTrees.antt`.
use Rattle.std.proofs.Common.{◌≡◌, Option, Some, None, refl, sym, ap, subst, ◌∙◌}
use Rattle.miniserde_model.specs.Tree.{Tree}
use Rattle.miniserde_value.specs.declared.json.value.Value.{Value, out-Value, roll-Value, roll-out-Value}
use Rattle.miniserde_value.specs.declared.json.value.Value as Value
use Rattle.miniserde_value.specs.declared.json.value.Value.TheVariants.{rolls-Null, rolls-Bool, rolls-Number}
use Rattle.miniserde_value.specs.declared.json.value.Value.TheVariants.{rolls-String, rolls-Array, rolls-Object}
use Rattle.miniserde_value.specs.declared.json.value.Value.TheOpen.{Value-F}
use Rattle.miniserde_value.specs.declared.json.number.Number.{Number}
use Rattle.miniserde_value.specs.declared.json.array.Array.{Array}
use Rattle.miniserde_value.specs.declared.json.object.Object.{Object}
use Rattle.miniserde_value.specs.Numbers.{number_leaf}
use Rattle.miniserde_value.specs.Values.{content_of, array_content, object_content}
use Rattle.miniserde_value.specs.OnlyContainers.{only_list, only_members}
use Rattle.miniserde_value.proofs.ContentTrees.{content_of_null, content_of_bool, content_of_number}
use Rattle.miniserde_value.proofs.ContentTrees.{content_of_string, content_of_array, content_of_object}

-- what is given of the tree of a value
module _ (given : Option Tree → Option Tree) where
  abbrev HasNone : Value → Type 0
  HasNone v = None ≡ given (Some (content_of v))

  rolled : (x : Value-F Value Array Object) (v : Value) (t : Tree) → roll-Value x ≡ v → content_of v ≡ t
      → None ≡ given (Some t) → HasNone (roll-Value x)
  rolled x v t r s n = subst HasNone (sym r) (n ∙ sym (ap (λ (u : Tree). given (Some u)) s))

pub number_no_list : (n : Number) → None ≡ only_list (Some (number_leaf n))
number_no_list (Number.U64 n) = refl
number_no_list (Number.I64 z) = refl
number_no_list (Number.Text x) = refl

pub number_no_members : (n : Number) → None ≡ only_members (Some (number_leaf n))
number_no_members (Number.U64 n) = refl
number_no_members (Number.I64 z) = refl
number_no_members (Number.Text x) = refl

rolled_no_array : (x : Value-F Value Array Object) → ((a : Array) → roll-Value x ≡ Value.Array a → ⊥)
    → None ≡ only_list (Some (content_of (roll-Value x)))
rolled_no_array Value-F.Null h = rolled only_list Value-F.Null _ _ rolls-Null content_of_null refl
rolled_no_array (Value-F.Bool b) h = rolled only_list (Value-F.Bool b) _ _ (rolls-Bool b) (content_of_bool b) refl
rolled_no_array (Value-F.Number n) h = rolled only_list (Value-F.Number n) _ _ (rolls-Number n) (content_of_number n) (number_no_list n)
rolled_no_array (Value-F.String s) h = rolled only_list (Value-F.String s) _ _ (rolls-String s) (content_of_string s) refl
rolled_no_array (Value-F.Array a) h = absurd (h a (rolls-Array a))
rolled_no_array (Value-F.Object o) h = rolled only_list (Value-F.Object o) _ _ (rolls-Object o) (content_of_object o) refl

-- a value that is no array has no list
pub no_array : (v : Value) → ((a : Array) → v ≡ Value.Array a → ⊥) → None ≡ only_list (Some (content_of v))
no_array v h = subst (λ w. None ≡ only_list (Some (content_of w))) (roll-out-Value v)
    (rolled_no_array (out-Value v) (λ a e. h a (sym (roll-out-Value v) ∙ e)))

rolled_no_object : (x : Value-F Value Array Object) → ((o : Object) → roll-Value x ≡ Value.Object o → ⊥)
    → None ≡ only_members (Some (content_of (roll-Value x)))
rolled_no_object Value-F.Null h = rolled only_members Value-F.Null _ _ rolls-Null content_of_null refl
rolled_no_object (Value-F.Bool b) h = rolled only_members (Value-F.Bool b) _ _ (rolls-Bool b) (content_of_bool b) refl
rolled_no_object (Value-F.Number n) h =
    rolled only_members (Value-F.Number n) _ _ (rolls-Number n) (content_of_number n) (number_no_members n)
rolled_no_object (Value-F.String s) h = rolled only_members (Value-F.String s) _ _ (rolls-String s) (content_of_string s) refl
rolled_no_object (Value-F.Array a) h = rolled only_members (Value-F.Array a) _ _ (rolls-Array a) (content_of_array a) refl
rolled_no_object (Value-F.Object o) h = absurd (h o (rolls-Object o))

-- a value that is no object has no members
pub no_object : (v : Value) → ((o : Object) → v ≡ Value.Object o → ⊥) → None ≡ only_members (Some (content_of v))
no_object v h = subst (λ w. None ≡ only_members (Some (content_of w))) (roll-out-Value v)
    (rolled_no_object (out-Value v) (λ o e. h o (sym (roll-out-Value v) ∙ e)))

-- an array has its list, and an object its members
pub its_list : (v : Value) (a : Array) → v ≡ Value.Array a → Some (array_content a) ≡ only_list (Some (content_of v))
its_list v a e = sym (ap (λ (w : Value). only_list (Some (content_of w))) e ∙ ap (λ (t : Tree). only_list (Some t)) (content_of_array a))

-- if v is the object o, the tree of o is what `only_members` returns for the tree of v
pub its_members : (v : Value) (o : Object) → v ≡ Value.Object o → Some (object_content o) ≡ only_members (Some (content_of v))
its_members v o e = sym (ap (λ (w : Value). only_members (Some (content_of w))) e
    ∙ ap (λ (t : Tree). only_members (Some t)) (content_of_object o))

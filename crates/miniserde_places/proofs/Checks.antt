-- A leaf that means a value of the inner type means the newtype exactly if the check accepts the value: by cases on
-- whether the event is a leaf's.
use Rattle.std.proofs.Common.{◌≡◌, Bool, true, false, Option, Some, None, refl}
use Rattle.std.specs.Prelude.{option_and_then}
use Rattle.miniserde_model.specs.Tree.{Tree}
use Rattle.miniserde_read.specs.Meaning.{Meaning}
use Rattle.miniserde_read.specs.Newtypes.{checked_of, SameMeaning}
use Rattle.miniserde_read.proofs.Accepted.{checked-some, checked-none, checked-nothing}

module _ {V : Type 0} (n m : Meaning V) (same : SameMeaning n m) (accepts : m.Content → Bool) where
  -- where the check accepts the value, the leaf gives its content
  pub leaf-some : (o : Option Tree) (v : V) → option_and_then n.from_tree o ≡ Some (n.content v)
      → accepts (m.content v) ≡ true → option_and_then (checked_of accepts m.from_tree) o ≡ Some (m.content v)
  leaf-some None v e h = absurd (cc)
  leaf-some (Some t) v e h = checked-some n m same accepts t v e h

  -- where it does not, the leaf gives nothing
  pub leaf-none : (o : Option Tree) (v : V) → option_and_then n.from_tree o ≡ Some (n.content v)
      → accepts (m.content v) ≡ false → option_and_then (checked_of accepts m.from_tree) o ≡ None
  leaf-none None v e h = absurd (cc)
  leaf-none (Some t) v e h = checked-none n m same accepts t v e h

  -- a leaf that gives nothing as the inner type gives nothing
  pub leaf-nothing : (o : Option Tree) → option_and_then n.from_tree o ≡ None
      → option_and_then (checked_of accepts m.from_tree) o ≡ None
  leaf-nothing None e = refl
  leaf-nothing (Some t) e = checked-nothing n m same accepts t e

-- What a tree gives as the inner type determines what it gives as the newtype.
use Rattle.std.proofs.Common.{◌≡◌, Bool, true, false, Option, Some, None, refl, sym, ap, ◌∙◌}
use Rattle.std.specs.Prelude.{option_map}
use Rattle.miniserde_model.specs.Tree.{Tree}
use Rattle.miniserde_read.specs.Meaning.{Meaning}
use Rattle.miniserde_read.specs.Newtypes.{checked_of, SameMeaning}

module _ {V : Type 0} (n m : Meaning V) (same : SameMeaning n m) where
  -- the content that a tree gives by the second, from that by the first
  pub same-given : (t : Tree) (v : V) → n.from_tree t ≡ Some (n.content v) → m.from_tree t ≡ Some (m.content v)
  same-given t v e = same.given_same t ∙ ap (option_map same.there) e ∙ ap Some (sym (same.content_same v))

  -- where the check accepts the value, the tree gives its content
  pub checked-some : (accepts : m.Content → Bool) (t : Tree) (v : V) → n.from_tree t ≡ Some (n.content v)
      → accepts (m.content v) ≡ true → checked_of accepts m.from_tree t ≡ Some (m.content v)
  checked-some accepts t v e h = rw (same-given t v e, h) refl

  -- where it does not, the tree gives nothing
  pub checked-none : (accepts : m.Content → Bool) (t : Tree) (v : V) → n.from_tree t ≡ Some (n.content v)
      → accepts (m.content v) ≡ false → checked_of accepts m.from_tree t ≡ None
  checked-none accepts t v e h = rw (same-given t v e, h) refl

  -- a tree that gives nothing as the inner type gives nothing
  pub checked-nothing : (accepts : m.Content → Bool) (t : Tree) → n.from_tree t ≡ None
      → checked_of accepts m.from_tree t ≡ None
  checked-nothing accepts t e = rw (same.given_same t, e) refl

  -- what a tree means by the first, it means by the second
  pub reads-there : (t : Tree) (v : V) → n.reads t v → m.reads t v
  reads-there t v h = (m.reads_agrees t v).1 (same-given t v ((n.reads_agrees t v).0 h))

  given-back : (t : Tree) (v : V) (o : Option n.Content) → option_map same.there o ≡ Some (same.there (n.content v))
      → o ≡ Some (n.content v)
  given-back t v None e = absurd (cc)
  given-back t v (Some c) e =
      let f : same.there c ≡ same.there (n.content v) = cc in
      ap Some (sym (same.undone c) ∙ ap same.back f ∙ same.undone (n.content v))

  -- what a tree means by the second, it means by the first
  pub reads-back : (t : Tree) (v : V) → m.reads t v → n.reads t v
  reads-back t v h =
      let e = sym (same.given_same t) ∙ (m.reads_agrees t v).0 h ∙ ap Some (same.content_same v) in
      (n.reads_agrees t v).1 (given-back t v (n.from_tree t) e)

-- a test that is not true is false
pub not_true : (b : Bool) → (b ≡ true → ⊥) → b ≡ false
not_true true h = absurd (h refl)
not_true false h = refl

-- The tree of an optional value gives what it means.
use Rattle.std.proofs.Common.{◌≡◌, Option, Some, None, refl, ap}
use Rattle.std.specs.Prelude.{◌≢◌, ◌↔◌, option_map}
use Rattle.miniserde_model.specs.Tree.{Tree, null}
use Rattle.miniserde_read.specs.types.Options.{OptionReads, option_of}

-- a tree that is not null gives `Some` of the content that it gives for the inner type
module _ {T C : Type 0} (content : T → C) where
  some-given : (o : Option C) (x : T) → o ≡ Some (content x) → option_map Some o ≡ Some (Some (content x))
  some-given o x e = ap (option_map Some) e

  given-some : (o : Option C) (x : T) → option_map Some o ≡ Some (Some (content x)) → o ≡ Some (content x)
  given-some None x e = absurd (cc)
  given-some (Some c) x e = cc

  given-none : (o : Option C) → option_map Some o ≡ Some (option_map content None) → ⊥
  given-none None e = absurd (cc)
  given-none (Some c) e = absurd (cc)

module _ {T C : Type 0} (R : Tree → T → Type 0) (of : Tree → Option C) (content : T → C)
    (given : (t : Tree) (x : T) → R t x ↔ (of t ≡ Some (content x))) where
  other-given : (t : Tree) → t ≢ null → (v : Option T) → OptionReads R t v ↔ (option_map Some (of t) ≡ Some (option_map content v))
  other-given t n None = (λ e. absurd (n e), λ e. absurd (given-none content (of t) e))
  other-given t n (Some x) = (λ h. some-given content (of t) x ((given t x).0 h.1), λ e. (n, (given t x).1 (given-some content (of t) x e)))

  null-given : (v : Option T) → OptionReads R null v ↔ (Some None ≡ Some (option_map content v))
  null-given None = (λ _. refl, λ _. refl)
  null-given (Some x) = (λ h. absurd (h.0 refl), λ e. absurd (cc))

  pub option-given : (t : Tree) (v : Option T) → OptionReads R t v ↔ (option_of of t ≡ Some (option_map content v))
  option-given null v = null-given v
  option-given t v = other-given t (λ e. absurd (cc)) v

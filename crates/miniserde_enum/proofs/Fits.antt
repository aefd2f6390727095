-- What is written of a struct beside a tag is read as the variant of the tag's name: by recursion over the members, no
-- other member has the name of the tag.
use Rattle.std.proofs.Common.{◌≡◌, ℕ, suc, Bool, true, false, cond, Option, Some, refl, sym, ap, ◌∙◌, arith}
use Rattle.std.specs.Prelude.{bytes_eq}
use Rattle.miniserde_model.specs.Tree.{Tree, str, members, Members, no_members, member}
use Rattle.miniserde_read.specs.types.Objects.{Name}
use Rattle.miniserde_read.specs.types.Words.{string_of}
use Rattle.miniserde_record.specs.Fields.{other_members, last_content, count_named}
use Rattle.miniserde_enum.specs.Internal.{internal_variant, object_members}
use Rattle.miniserde_enum.specs.Tagging.{internal}
use Rattle.miniserde_enum.specs.Cases.{DataFits}
use Rattle.miniserde_enum.specs.laws.Cases.{same-name}

module _ (tag : Name) where
  one-more : (b : Bool) (n : ℕ) → cond b (suc n) n ≡ 0 → (b ≡ false) × (n ≡ 0)
  one-more true n e = absurd (omega (arith, e))
  one-more false n e = (refl, e)

  lacking : (ms : Members) → count_named tag ms ≡ 0 → other_members tag ms ≡ ms
  lacking no_members e = refl
  lacking (member k t ms) e = let p = one-more (bytes_eq k tag) (count_named tag ms) e in rw p.0 (ap (member k t) (lacking ms p.1))

  last : (d : Option Name) (ms : Members) → count_named tag ms ≡ 0 → last_content false string_of tag d ms ≡ Some d
  last d no_members e = refl
  last d (member k t ms) e = let p = one-more (bytes_eq k tag) (count_named tag ms) e in rw p.0 (last d ms p.1)

  written : (n : Name) (ms : Members) → count_named tag ms ≡ 0
      → internal_variant tag (members (member tag (str n) ms)) ≡ Some (n, Some (members ms))
  written n ms e = rw (same-name tag, last (Some n) ms e, lacking ms e) refl

  pub inside-fits : {T : Type 0} (valid : T → Type 0) (tree : T → Tree)
      → ((x : T) → tree x ≡ members (object_members (tree x)))
      → ((x : T) → count_named tag (object_members (tree x)) ≡ 0) → DataFits valid tree (internal tag)
  inside-fits valid tree object named n x r = written n (object_members (tree x)) (named x) ∙ ap (λ t. Some (n, Some t)) (sym (object x))

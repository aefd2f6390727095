-- The meaning of an untagged enum: a tree means the first of its variants whose data it means.
use Rattle.std.specs.Prelude.{◌≡◌, Option, None}
use Rattle.miniserde_model.specs.Tree.{Tree}
use Rattle.miniserde_read.specs.Meaning.{Meaning, meaning_with}
use Rattle.miniserde_enum.specs.declared.one_of.OneOf.{OneOf}
use Rattle.miniserde_enum.specs.declared.one_of.Never.{Never}
use Rattle.miniserde_enum.specs.Cases.{case_content}
use Rattle.miniserde_more.specs.Untagged.{first_of, FirstReads}
use Rattle.miniserde_more.specs.laws.Untagged.{first-agrees}

-- the meaning of no variants: no tree means a value
abbrev pub no_untagged : Meaning Never
no_untagged = meaning_with {C = Never} (λ v. v) (λ t. None) (λ t v. ⊥) (λ t v. elim v [ ])

-- the meaning of a variant with data and of the later variants, by the meaning m of the data and n of the later ones
abbrev pub untagged_and : {T W : Type 0} → Meaning T → Meaning W → Meaning (OneOf T W)
untagged_and m n =
    meaning_with (case_content m.content n.content) (first_of m.from_tree n.from_tree)
    (FirstReads m.reads m.from_tree n.reads)
    (first-agrees m.reads m.from_tree m.content m.reads_agrees n.reads n.from_tree n.content n.reads_agrees)

-- the meaning of an untagged enum, by the meaning m of its variants; `values` returns the value of the variant
abbrev pub untagged_meaning : {V W : Type 0} → Meaning V → (W → V) → Meaning W
untagged_meaning m values =
    meaning_with (λ v. m.content (values v)) m.from_tree (λ t v. m.reads t (values v)) (λ t v. m.reads_agrees t (values v))

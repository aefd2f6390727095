-- The tagging of an enum: how a tree says which variant it is and what its data are.
use Rattle.std.specs.Prelude.{Option, option_and_then}
use Rattle.miniserde_model.specs.Tree.{Tree}
use Rattle.miniserde_read.specs.types.Objects.{Name}
use Rattle.miniserde_enum.specs.External.{IsExternal, external_variant, external_tree}
use Rattle.miniserde_enum.specs.Internal.{IsInternal, internal_variant, internal_tree}

-- the tagging of an enum: external, or internal by the name of the tag
pub data Tagging : Type 0 where
  external : Tagging
  internal : Name → Tagging

-- by the tagging, the tree is the variant of a name, with data or without
abbrev pub IsVariant : Tagging → Tree → Name → Option Tree → Type 0
IsVariant external = IsExternal
IsVariant (internal tag) = IsInternal tag

-- the name and the data of the variant that the tree is by the tagging, if it is one
abbrev pub variant_of_tree : Tagging → Tree → Option (Name × Option Tree)
variant_of_tree external = external_variant
variant_of_tree (internal tag) = internal_variant tag

-- by the tagging, the tree that is written for the variant of a name, with data or without
abbrev pub variant_tree : Tagging → Name → Option Tree → Tree
variant_tree external = external_tree
variant_tree (internal tag) = internal_tree tag

-- the content that f returns for the name and the data of the variant that the tree is, by the
-- tagging; `None` if the tree is no variant
abbrev pub content_by_tagging : {C : Type 0} → Tagging → (Name → Option Tree → Option C) → Tree → Option C
content_by_tagging tagging f t = option_and_then (λ v. f v.0 v.1) (variant_of_tree tagging t)

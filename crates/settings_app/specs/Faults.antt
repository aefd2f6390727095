-- What a fault prints.
use Rattle.std.specs.Prelude.{ℕ, List, [], ◌∷◌, ◌++◌, Option, Some, option_map, codes}
use Rattle.miniserde.specs.Error.{message}
use Rattle.refused.specs.declared.path.FieldPath.{FieldPath}
use Rattle.settings_app.specs.declared.loading.Fault.{Fault}
use Rattle.settings_app.specs.declared.loading.Fault.TheVariants.{NoJson, Field, Failed}

-- the text of a wrong field, by the names of its path and by the text of the path, if that is known
abbrev pub field_fault : {A : Type 0} → List A → Option (List ℕ) → Option (List ℕ)
field_fault [] path = Some (codes "this is no object")
field_fault (name ∷ names) path = option_map (λ text. codes "the field " ++ text ++ codes " is wrong") path

-- the text that a fault prints, by the text that a path prints, if that is known
abbrev pub fault_text : (FieldPath → Option (List ℕ)) → Fault → Option (List ℕ)
fault_text path_text NoJson = Some (codes "this is no JSON")
fault_text path_text (Field path) = field_fault path.names.items (path_text path)
fault_text path_text (Failed error) = Some (message error)

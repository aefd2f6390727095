-- Members that are written by the names of fields count by these names.
use Rattle.std.proofs.Common.{◌≡◌, true, List, [], ◌∷◌, Option, Some, None, refl, ap}
use Rattle.std.specs.Prelude.{bytes_eq}
use Rattle.std.proofs.lemmas.Slice.Eq.{bytes_eq-Decides}
use Rattle.miniserde_model.specs.Tree.{Tree, member}
use Rattle.miniserde_read.specs.types.Objects.{Name}
use Rattle.miniserde_record.specs.Aliases.{field_name_of, with_field_names, are_unaliased}
use Rattle.miniserde_record.specs.Structs.{with_names}
use Rattle.miniserde_record.proofs.Names.{both}

-- if none of the names ns is an alias of another name, `with_field_names` keeps the members of these names
pub written_counts : (ps : List (Name × Name)) (ns : List Name) (ts : List (Option Tree))
    → are_unaliased ps ns ≡ true → with_field_names ps (with_names ns ts) ≡ with_names ns ts
written_counts ps [] ts h = refl
written_counts ps (n ∷ ns) [] h = refl
written_counts ps (n ∷ ns) (None ∷ ts) h = written_counts ps ns ts (both (bytes_eq (field_name_of ps n) n) (are_unaliased ps ns) h).1
written_counts ps (n ∷ ns) (Some t ∷ ts) h =
    let p = both (bytes_eq (field_name_of ps n) n) (are_unaliased ps ns) h in
    rw ((bytes_eq-Decides (field_name_of ps n) n).0 p.0) (ap (member n t) (written_counts ps ns ts p.1))

-- What becomes of settings and of the members of their text, and which fields are wrong.
use Rattle.std.specs.Prelude.{◌≡◌, ◌≢◌, ℕ, List, [], Some, map, option_map}
use Rattle.miniserde.specs.Tree.{Tree, Members, no_members, member}
use Rattle.miniserde.specs.Normal.{last_of, norm}
use Rattle.refused.specs.declared.path.FieldPath.{FieldPath}
use Rattle.refused.specs.Wrong.{StructIsWrong, document_gives}
use Rattle.settings.specs.declared.types.Settings.{Settings}
use Rattle.settings.specs.contracts.types.SettingsFieldByField.TheImpl as fields

-- the settings, at that port
abbrev pub at_port : ℕ → Settings → Settings
at_port port s = record s { port = port }

-- the members with one more behind them, of that name and tree
abbrev pub with_member_behind : List ℕ → Tree → Members → Members
with_member_behind name u no_members = member name u no_members
with_member_behind name u (member other t ms) = member other t (with_member_behind name u ms)

-- ns have the tree u at the name, and at each other name the normal form of the last tree of ms, if there is one
abbrev pub HasOnlyChange : List ℕ → Tree → Members → Members → Type 0
HasOnlyChange name u ms ns = (last_of name ns ≡ Some u)
    × ((q : List ℕ) → q ≢ name → last_of q ns ≡ option_map norm (last_of q ms))

-- the path leads to a field of settings that has no value in the tree, or it is empty and the tree is no object
abbrev pub IsWrong : FieldPath → Tree → Type 0
IsWrong path t = StructIsWrong (fields.ghosts.wrong document_gives []) (map (λ s. s.now) path.names.items) t

-- Which trees mean a command: variant by variant, in the words of a user.
use Rattle.std.specs.Prelude.{◌≡◌, ℤ, string_bytes, codes}
use Rattle.miniserde.specs.Tree.{Tree, str, members, member, no_members}
use Rattle.miniserde.specs.Integers.{signed_of, ReadsSigned}
use Rattle.miniserde.specs.Fields.{LastMemberReads}
use Rattle.examples.specs.declared.command.Command.{Command}
use Rattle.examples.specs.declared.command.Command.TheVariants.{Ping, Text, Move}

-- the tree is an object: each member `x` is an integer of 64 bits, and the last one is x; so of `y` and y
abbrev pub IsStep : Tree → ℤ → ℤ → Type 0
IsStep (members ms) x y = LastMemberReads ⊥ (λ t. ReadsSigned 64 t x) (signed_of 64) (codes "x") ms
    × LastMemberReads ⊥ (λ t. ReadsSigned 64 t y) (signed_of 64) (codes "y") ms
IsStep t x y = ⊥

-- `Ping` is the string `Ping`. `Text` and `Move` are an object of one member of that name: its value is the string of
-- the text, or the step.
abbrev pub IsCommand : Tree → Command → Type 0
IsCommand t Ping = t ≡ str (codes "Ping")
IsCommand t (Text text) = t ≡ members (member (codes "Text") (str (string_bytes text)) no_members)
IsCommand t (Move x y) = (step : Tree) × (t ≡ members (member (codes "Move") step no_members)) × IsStep step x y

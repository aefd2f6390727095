-- A tree means a command exactly if `IsCommand` holds of both: variant by variant.
use Rattle.std.proofs.Common.{◌≡◌, refl, subst, codes, string_bytes}
use Rattle.miniserde.specs.Tree.{members, member, no_members, str}
use Rattle.examples.specs.declared.command.Command.TheVariants.{Ping, Text, Move}
use Rattle.examples.proofs.commands.command_meant.Goals as goal

pub returns : goal.returns
returns c t Ping = (λ r. r, λ q. q)
returns c t (Text text) = (
  λ r. subst (λ u. t ≡ members (member (codes "Text") u no_members)) r.2 r.1,
  λ q. (str (string_bytes text), q, refl),
)
returns c t (Move x y) = (
  λ r. (r.0, r.1, (c.step_meant.ensures r.0 (record { x = x; y = y })).0 r.2),
  λ q. (q.0, q.1, (c.step_meant.ensures q.0 (record { x = x; y = y })).1 q.2),
)

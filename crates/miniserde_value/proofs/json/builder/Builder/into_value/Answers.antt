-- If a container is open, no tree is complete (`whole_open`).
use Rattle.std.proofs.Common.{arith}
use Rattle.std.proofs.lemmas.Bool.Decides.{nat_tests}
use Rattle.miniserde_value.proofs.Containers.{whole_open}
use Rattle.miniserde_value.proofs.json.builder.Builder.into_value.Goals as goal

pub returns-then-not-is_empty : goal.returns-then-not-is_empty
returns-then-not-is_empty c =
    whole_open _ _ c.args.self.containers.items
    (grind (arith, nat_tests, c.if-not-is_empty.ensures, c.args.self.containers.ok))

-- The entry that is inserted is the member put under its name (`inserted`).
use Rattle.std.proofs.Common.{ap, string_bytes, ◌∙◌}
use Rattle.miniserde_ser.specs.Trees.{members_of}
use Rattle.miniserde_value.specs.Values.{content_of}
use Rattle.miniserde_value.proofs.Ordered.{inserted}
use Rattle.miniserde_value.proofs.json.object.Object.insert.Goals as goal

pub returns-clause-ok : goal.returns-clause-ok
returns-clause-ok c =
    ap (members_of string_bytes content_of) c.in_ok-insert.ensures.entries
    ∙ inserted content_of c.args.self.now.members.entries c.args.name c.args.value

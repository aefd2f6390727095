-- Where the first eight bytes differ, they decide.
use Rattle.std.proofs.Common.{sym}
use Rattle.miniserde_canonical.proofs.FirstEight.{prefix_below, prefix_above}
use Rattle.miniserde_canonical.proofs.members.compare_names.Goals as goal

pub returns-then-a-b : goal.returns-then-a-b
returns-then-a-b c = sym (prefix_below _ _ _ _ c.args.a.now.leads c.args.b.now.leads c.if-a-b.true)

pub returns-then-b-a : goal.returns-then-b-a
returns-then-b-a c = sym (prefix_above _ _ _ _ c.args.a.now.leads c.args.b.now.leads c.if-b-a.true)

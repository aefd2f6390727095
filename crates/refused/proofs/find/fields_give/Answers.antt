-- No field stands before the first.
use Rattle.std.proofs.Common.{[]}
use Rattle.refused.proofs.find.fields_give.Goals as goal

pub returns-clause-right : goal.returns-clause-right
returns-clause-right g c = c.tells.ensures.right [] c.requires

pub returns-clause-wrong : goal.returns-clause-wrong
returns-clause-wrong g c = c.tells.ensures.wrong [] c.requires

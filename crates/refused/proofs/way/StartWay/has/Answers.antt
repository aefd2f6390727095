-- What gives no content does not give one.
use Rattle.refused.specs.laws.Alone.{none-some}
use Rattle.refused.proofs.way.StartWay.has.Goals as goal

pub returns-clause-no : goal.returns-clause-no
returns-clause-no g c = λ e t j. none-some _ (c.is_meant.ensures.no e t j)

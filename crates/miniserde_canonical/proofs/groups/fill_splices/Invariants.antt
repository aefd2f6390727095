-- The output and the text from `at` on, with the splices from `splice-index` on, make the whole text (`Left`).
use Rattle.std.proofs.Common.{drop}
use Rattle.miniserde_canonical.proofs.FillSplices.{Left}
use Rattle.miniserde_canonical.proofs.groups.fill_splices.Given as goal

abbrev pub invariant-loop-splice : goal.invariant-loop-splice
invariant-loop-splice l = Left l.groups l.fn.text l.at (drop l.splice-index l.splices) l.out.items

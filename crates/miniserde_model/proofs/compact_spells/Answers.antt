-- A whole text is the value of `written_value` without whitespace around it (`written`).
use Rattle.miniserde_model.proofs.Written.{written, written_value}
use Rattle.miniserde_model.proofs.compact_spells.Goals as goal

pub returns-clause-text : goal.returns-clause-text
returns-clause-text c = written

pub returns-clause-value : goal.returns-clause-value
returns-clause-value c = written_value

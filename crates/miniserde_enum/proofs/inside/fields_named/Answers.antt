-- No member of the fields has a new name, by recursion over the names (`count_new`).
use Rattle.miniserde_record.proofs.Names.{count_new}
use Rattle.miniserde_enum.proofs.inside.fields_named.Goals as goal

pub returns : goal.returns
returns c = count_new

-- A slot adds one tree and one field, and the later fields have as many trees as fields.
use Rattle.std.proofs.Common.{arith}
use Rattle.miniserde_laws.proofs.structs.lossless.MarkedSlotLosslessFields.lossless.Goals as goal

pub returns-clause-each : goal.returns-clause-each
returns-clause-each g c = λ v. let e = c.lossless-2.ensures.each v.1 in omega (arith, e)

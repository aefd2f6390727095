-- Neither the fields nor the map write a member of such a name (`further_named`).
use Rattle.std.proofs.Common.{string_bytes}
use Rattle.miniserde_more.proofs.RestBeside.{further_named}
use Rattle.miniserde_more.proofs.rest.write.rest_named.Goals as goal

pub returns : goal.returns
returns g c = λ k v h. further_named string_bytes g.V.Serialize.tree g.S.Record.names g.A.TakenNames.further
    (g.F.WrittenFields.trees (g.S.Record.values v).1) (g.S.Record.values v).0.entries k h

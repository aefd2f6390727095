-- A struct with a rest is stable part by part (`rest-stable`).
use Rattle.std.proofs.Common.{◌++◌}
use Rattle.miniserde_more.proofs.RestStable.{object-stable, rest-stable}
use Rattle.miniserde_more.proofs.rest.laws.rest_stable.Goals as goal

pub returns : goal.returns
returns g c = object-stable _
    (rest-stable (g.A.TakenNames.further ++ g.S.Record.names) g.S.Record.names g.V.FromJson.means.from_tree
    g.F.StableFields.meaning c.stable.ensures c.stable-2.ensures)

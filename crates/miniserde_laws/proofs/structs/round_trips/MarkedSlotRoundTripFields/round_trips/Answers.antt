-- A written field has one member, so neither `once` nor the value of a missing field is asked (`round_trips-field`).
-- What is read back in turn is read back by each field itself (`round_trips-alone`).
use Rattle.std.proofs.Common.{Some, [], ◌∷◌}
use Rattle.miniserde_record.specs.Fields.{MissingReads}
use Rattle.miniserde_laws.proofs.Fields.{round_trips-field, round_trips-alone}
use Rattle.miniserde_laws.proofs.structs.round_trips.MarkedSlotRoundTripFields.round_trips.Goals as goal

pub returns : goal.returns
returns g c = λ names v f r.
    let t = g.T.FromJson in
    let s = g.T.Serialize in
    let m = g.R.RoundTripFields in
    let in_turn = round_trips-field g.M.Repeats.once t.means (MissingReads t.means g.M.Mark.given t.absent)
    g.T.Ranged.valid s.tree m.valid m.trees m.meaning.count (m.meaning.reads []) c.round_trips.ensures
    c.round_trips-2.ensures names v f r in
    round_trips-alone g.M.Repeats.once g.M.Mark.given t.means t.absent m.meaning
    (λ v. g.T.Ranged.valid v.0 × m.valid v.1) (λ v. Some (s.tree v.0) ∷ m.trees v.1) names
    (Some (s.tree v.0) ∷ m.trees v.1) in_turn

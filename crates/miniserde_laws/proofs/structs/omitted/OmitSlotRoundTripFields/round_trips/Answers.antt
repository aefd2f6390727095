-- An omitted `None` is read as a missing field, and a written value is never null (`round_trips-omitted`). What is read
-- back in turn is read back by each field itself (`round_trips-alone`).
use Rattle.std.proofs.Common.{Some, None, [], ◌∷◌}
use Rattle.std.specs.Prelude.{option_map}
use Rattle.miniserde_keys.specs.Ranged.{OptionValid}
use Rattle.miniserde_read.specs.Meanings.{option_meaning}
use Rattle.miniserde_laws.proofs.Fields.{round_trips-omitted, round_trips-alone}
use Rattle.miniserde_laws.proofs.structs.omitted.OmitSlotRoundTripFields.round_trips.Goals as goal

pub returns : goal.returns
returns g c = λ names v f r.
    let t = g.T.Serialize in
    let valid = OptionValid g.T.Ranged.valid in
    let m = g.R.RoundTripFields in
    let in_turn = round_trips-omitted g.M.Repeats.once g.T.FromJson.means g.T.Ranged.valid t.tree m.valid m.trees
    m.meaning.count (m.meaning.reads []) c.round_trips.ensures c.never_null.ensures c.round_trips-2.ensures names v f
    r in
    round_trips-alone g.M.Repeats.once None (option_meaning g.T.FromJson.means) (Some None) m.meaning
    (λ v. valid v.0 × m.valid v.1) (λ v. option_map t.tree v.0 ∷ m.trees v.1) names
    (option_map t.tree v.0 ∷ m.trees v.1) in_turn

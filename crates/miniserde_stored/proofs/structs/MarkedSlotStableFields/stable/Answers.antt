-- The last member of the name is the last one in normal form too, and the later fields are stable (`stable-field`).
use Rattle.miniserde_record.specs.Fields.{field_rule}
use Rattle.miniserde_stored.proofs.Fields.{stable-field}
use Rattle.miniserde_stored.proofs.structs.MarkedSlotStableFields.stable.Goals as goal

pub returns : goal.returns
returns g c =
    let t = g.T.FromJson in
    let m = g.R.StableFields.meaning in
    stable-field (field_rule g.M.Repeats.once g.M.Mark.given t.means t.absent) c.stable.ensures m.from_members c.stable-2.ensures

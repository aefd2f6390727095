-- A member of another name goes to the later fields, which skip it.
use Rattle.miniserde_more.proofs.RestSkipped.{field_open}
use Rattle.miniserde_more.proofs.rest.open.MarkedSlotOpenFields.open.Goals as goal

pub returns : goal.returns
returns g c = λ names s k t h.
    field_open (record { once = g.M.Repeats.once; of = g.T.FromJson.means.from_tree; later = g.R.Slots.meaning.next_state })
    c.open.ensures names s k t h

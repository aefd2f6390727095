-- No member is left behind the last field (`round_trips-closed`).
use Rattle.miniserde_laws.proofs.Fields.{round_trips-closed}
use Rattle.miniserde_laws.proofs.structs.round_trips.ClosedRoundTripFields.round_trips.Goals as goal

pub returns : goal.returns
returns c = λ names v f r. round_trips-closed names

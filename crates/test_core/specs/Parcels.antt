-- Parcels, and what becomes of them.
use Rattle.test_core.specs.declared.parcel.Parcel.{Parcel}
use Rattle.test_core.specs.declared.parcel.State.TheVariants.{Sent}

-- the parcel, sent
abbrev pub sent_of : Parcel → Parcel
sent_of v = record v { state = Sent }

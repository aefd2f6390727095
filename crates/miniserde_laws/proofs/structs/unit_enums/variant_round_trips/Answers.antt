-- The tree of a value is the string of its name, and means exactly the values of that name.
use Rattle.std.proofs.Common.{refl, sym}
use Rattle.miniserde_laws.proofs.structs.unit_enums.variant_round_trips.Goals as goal

pub returns : goal.returns
returns g c = λ v r. ((v, tt, refl), λ w s e. sym e)

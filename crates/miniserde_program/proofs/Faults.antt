-- Refusals of a text, as faults of a run.
use Rattle.std.proofs.Common.{◌≡◌, refl}
use Rattle.miniserde_model.specs.declared.error.Error.{Error}
use Rattle.miniserde_model.specs.declared.error.Error.TheVariants as error
use Rattle.miniserde_program.specs.declared.canon.Fault.TheVariants.{Invalid}
use Rattle.miniserde_program.specs.Runs.{fault_of}

-- only an invalid text gives the fault of one
pub invalid_from : (e : Error) → fault_of e ≡ Invalid → e ≡ error.Invalid
invalid_from error.Invalid h = refl
invalid_from error.Memory h = absurd (cc)

-- The error that a `?` makes of an error of the JSON tells which error it was.
use Rattle.std.proofs.Common.{◌≡◌, Result, Err}
use Rattle.miniserde.specs.declared.Error as json
use Rattle.miniserde.specs.declared.Error.TheVariants as variants
use Rattle.rows.specs.Errors.{of_json}
use Rattle.rows.specs.declared.error.Error.{Error}
use Rattle.rows.specs.declared.error.Error.TheVariants.{Invalid}

-- an error that is told as `Invalid` was `Invalid`
pub json_error : {T : Type 0} (r : Result T Error) (e : Error) (m : json.Error) → r ≡ Err e → e ≡ of_json m → r ≡ Err Invalid
    → m ≡ variants.Invalid
json_error r e variants.Invalid is gives wrong = cc
json_error r e variants.Memory is gives wrong = absurd cc

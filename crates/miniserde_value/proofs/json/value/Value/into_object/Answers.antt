-- The value is an object exactly if its tree has members (`its_members`, `no_object`).
use Rattle.miniserde_value.proofs.Variants.{no_object, its_members}
use Rattle.miniserde_value.proofs.json.value.Value.into_object.Goals as goal

pub returns-in-Object : goal.returns-in-Object
returns-in-Object c = its_members _ c.in-Object.object c.in-Object.is

pub returns : goal.returns
returns c = no_object c.args.self c.in_default.not-Object

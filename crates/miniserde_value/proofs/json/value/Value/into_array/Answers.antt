-- The value is an array exactly if its tree is a list (`its_list`, `no_array`).
use Rattle.miniserde_value.proofs.Variants.{no_array, its_list}
use Rattle.miniserde_value.proofs.json.value.Value.into_array.Goals as goal

pub returns-in-Array : goal.returns-in-Array
returns-in-Array c = its_list _ c.in-Array.array c.in-Array.is

pub returns : goal.returns
returns c = no_array c.args.self c.in_default.not-Array

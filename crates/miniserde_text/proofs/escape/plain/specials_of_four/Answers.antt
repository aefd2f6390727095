-- The three comparisons of the 4 lanes, joined by `|`, give the mask of the special bytes (`mask_is`).
use Rattle.std.proofs.Common.{arith}
use Rattle.miniserde_text.proofs.Lanes.{mask_is}
use Rattle.miniserde_text.proofs.escape.plain.specials_of_four.Goals as goal

pub returns : goal.returns
returns c = mask_is 4 c.args.v (omega arith) c.fits-v.0

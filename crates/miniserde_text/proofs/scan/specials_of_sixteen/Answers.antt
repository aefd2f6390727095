-- The three comparisons of the 16 lanes, joined by `|`, give the mask of the special bytes (`mask_is`).
use Rattle.std.proofs.Common.{arith}
use Rattle.miniserde_text.proofs.Lanes.{mask_is}
use Rattle.miniserde_text.proofs.scan.specials_of_sixteen.Goals as goal

pub returns : goal.returns
returns c = mask_is 16 c.args.v (omega arith) c.fits-v.0

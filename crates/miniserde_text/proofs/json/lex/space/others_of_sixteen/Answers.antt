-- The four comparisons of the 16 lanes, joined by `&`, give the mask of the bytes that are no whitespace
-- (`space_mask_is`).
use Rattle.std.proofs.Common.{arith}
use Rattle.miniserde_text.proofs.Lanes.{space_mask_is}
use Rattle.miniserde_text.proofs.json.lex.space.others_of_sixteen.Goals as goal

pub returns : goal.returns
returns c = space_mask_is 16 c.args.v (omega arith) c.fits-v.0

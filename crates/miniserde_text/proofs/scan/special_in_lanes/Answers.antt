-- If the mask of the 16 lanes is not 0, its trailing zeros lead to the first special byte (`stops`); else the run of
-- plain bytes continues past the lanes (`through`), and `search` finds its end.
use Rattle.std.proofs.Common.{ap, sym, ◌∙◌, arith}
use lib.Count.{count_trailing_zeros}
use Rattle.miniserde_model.specs.Bytes.{is_special}
use Rattle.miniserde_text.proofs.Lanes.{through, stops}
use Rattle.miniserde_text.proofs.scan.special_in_lanes.Goals as goal

pub returns-then-found-ne0 : goal.returns-then-found-ne0
returns-then-found-ne0 c =
    let found = c.specials_of_sixteen-found in
    let run = stops is_special 16 c.args.bytes.now c.args.from (omega arith) (omega arith) (omega (arith, found.ensures))
    ∙ ap (count_trailing_zeros 64) (sym found.ensures) in
    omega (arith, run)

pub returns : goal.returns
returns c =
    let run = through is_special 16 c.args.bytes.now c.args.from (omega arith) (omega (arith, c.specials_of_sixteen-found.ensures)) in
    omega (arith, run, c.search.ensures)

-- If the mask of the 8 lanes is 0, the run of plain bytes continues past them (`through`); else its trailing zeros
-- lead to the first special byte (`stops`).
use Rattle.std.proofs.Common.{ap, sym, ◌∙◌, arith}
use lib.Count.{count_trailing_zeros}
use Rattle.miniserde_model.specs.Bytes.{is_special}
use Rattle.miniserde_text.proofs.Lanes.{through, stops}
use Rattle.miniserde_text.proofs.scan.search_eights.Goals as goal

pub returns-then-found-ne0 : goal.returns-then-found-ne0
returns-then-found-ne0 c =
    let found = c.specials_of_eight-found in
    let run = stops is_special 8 c.args.bytes.now c.lanes.i (omega arith) (omega arith) (omega (arith, found.ensures))
    ∙ ap (count_trailing_zeros 64) (sym found.ensures) in
    omega (arith, run, c.lanes.invariant.run)

pub lanes-preserved : goal.lanes-preserved
lanes-preserved c =
    let run = through is_special 8 c.args.bytes.now c.lanes.i (omega arith) (omega (arith, c.specials_of_eight-found.ensures)) in
    record { run = omega (arith, run, c.lanes.invariant.run); within = omega arith }

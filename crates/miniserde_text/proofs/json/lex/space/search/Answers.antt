-- If the mask of the 16 lanes is 0, the run of whitespace continues past them (`through`); else its trailing zeros lead
-- to the first byte that is no whitespace (`stops`).
use Rattle.std.proofs.Common.{ap, sym, ◌∙◌, arith}
use lib.Count.{count_trailing_zeros}
use Rattle.miniserde_text.specs.private.Reading.{is_not_space}
use Rattle.miniserde_text.proofs.Lanes.{through, stops}
use Rattle.miniserde_text.proofs.json.lex.space.search.Goals as goal

pub returns-then-found-ne0 : goal.returns-then-found-ne0
returns-then-found-ne0 c =
    let found = c.others_of_sixteen-found in
    let run = stops is_not_space 16 c.args.bytes.now c.lanes.i (omega arith) (omega arith) (omega (arith, found.ensures))
    ∙ ap (count_trailing_zeros 64) (sym found.ensures) in
    omega (arith, run, c.lanes.invariant.run)

pub lanes-preserved : goal.lanes-preserved
lanes-preserved c =
    let run = through is_not_space 16 c.args.bytes.now c.lanes.i (omega arith) (omega (arith, c.others_of_sixteen-found.ensures)) in
    record { run = omega (arith, run, c.lanes.invariant.run); within = omega arith }

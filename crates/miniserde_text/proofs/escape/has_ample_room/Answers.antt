-- The escape rule writes at most six bytes for a byte (`length_escapes_six`), so the room is enough for a text that
-- is no longer than a sixth of the free bytes without `extra`.
use Rattle.std.proofs.Common.{arith}
use Rattle.std.proofs.lemmas.Bool.{leb-true}
use Rattle.miniserde_text.proofs.EscapeRule.{length_escapes_six}
use Rattle.miniserde_text.proofs.escape.has_ample_room.Goals as goal

pub returns-then-extra-free : goal.returns-then-extra-free
returns-then-extra-free c = λ ample.
    let few = leb-true _ _ ample in
    omega (arith, few, c.if-extra-free.true, c.capacity.ensures, c.len.ensures, length_escapes_six c.args.value.now)

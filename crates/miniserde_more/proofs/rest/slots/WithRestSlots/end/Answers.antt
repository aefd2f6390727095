-- The fields give their content, and the map that is returned has the entries so far.
use Rattle.std.proofs.Common.{refl}
use Rattle.miniserde_more.proofs.rest.slots.WithRestSlots.end.Goals as goal

pub returns-clause-ok : goal.returns-clause-ok
returns-clause-ok g c = rw (c.in_ok-end.ensures.ok, c.or_empty.ensures) refl

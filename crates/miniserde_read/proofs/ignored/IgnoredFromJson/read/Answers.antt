-- What `skip` says for any text of a string holds for the scratch text.
use Rattle.std.proofs.Common.{refl}
use Rattle.miniserde_read.proofs.ignored.IgnoredFromJson.read.Goals as goal

pub returns-clause-ok : goal.returns-clause-ok
returns-clause-ok c = let v = c.in_ok-skip.ensures.ok c.args.source.now.scratch in (v.0, v.1, refl)

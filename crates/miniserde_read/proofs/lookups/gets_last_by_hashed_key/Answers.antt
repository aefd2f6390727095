-- A lookup finds the last member of the key's code (`last_key`): keys are equal by `PartialEq` exactly if their codes
-- are.
use Rattle.std.proofs.Common.{◌∙◌}
use Rattle.miniserde_text.proofs.Equal.{bytes_eq-flips}
use Rattle.miniserde_read.proofs.LastMembers.{last_key}
use Rattle.miniserde_read.proofs.lookups.gets_last_by_hashed_key.Goals as goal

pub returns : goal.returns
returns g c = λ t r k.
    last_key g.K.MapKey.content g.T.FromJson.means.reads g.K.MapKey.read g.K.MapKey.code
    g.T.FromJson.means.from_tree t c.args.map.now.entries r (g.K.PartialEq.eq k)
    (g.K.MapKey.code (g.K.MapKey.content k))
    (λ x. g.met.K.MapKey.alike k x ∙ bytes_eq-flips (g.K.MapKey.code (g.K.MapKey.content k)) (g.K.MapKey.code (g.K.MapKey.content x)))

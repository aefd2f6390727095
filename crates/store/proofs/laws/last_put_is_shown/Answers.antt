-- By induction on the calls.
use Rattle.store.specs.Answered.{codec}
use Rattle.store.proofs.LastLemmas.{last_put_shown}
use Rattle.store.proofs.laws.last_put_is_shown.Goals as goal

pub returns : goal.returns
returns g c hosts calls m key chain = last_put_shown (codec g.V.FromJson.means g.V.Serialize.tree) key hosts calls m chain

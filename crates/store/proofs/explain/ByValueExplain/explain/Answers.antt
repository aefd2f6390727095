-- The body was found to be no JSON.
use Rattle.std.proofs.Common.{rules}
use Rattle.store.proofs.explain.ByValueExplain.explain.Goals as goal

pub returns : goal.returns
returns g c = c.in_ok-is_json.ensures.no (search rules)

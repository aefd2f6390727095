-- Letters that were mapped to lower case are in lower case (`lowered`), so the key that is built is valid.
use Rattle.std.proofs.Common.{sym, subst, rules}
use Rattle.test_types.specs.Letters.{AreLower}
use Rattle.test_types.specs.laws.Letters.{lowered}
use Rattle.test_types.proofs.lower.LowerMapKey.from_key.Goals as goal

pub invariant_of-result : goal.invariant_of-result
invariant_of-result c = record {
  lower = subst AreLower (sym c.in_ok-to_ascii_lowercase.ensures.ok) (lowered c.args.k.now (search rules));
}

-- The conditions hold or fail alike for any tag.
use Rattle.std.proofs.Common.{◌≡◌, true, None, rules}
use Rattle.std.specs.Prelude.{codes}
use Rattle.http_header.specs.HeaderMap.{get}
use Rattle.store.specs.Conditions.{wants_none, matches_any}
use Rattle.store.proofs.ConditionLemmas.{any_cached, any_passes}
use Rattle.store.proofs.conditions.judge_any.Goals as goal

pub returns-then-wants_none : goal.returns-then-wants_none
returns-then-wants_none c =
    let passes : matches_any c.args.headers.now ≡ true = search rules in
    let none : wants_none c.args.headers.now ≡ true = search rules in
    any_cached c.args.headers.now passes none

pub returns-in-None : goal.returns-in-None
returns-in-None c =
    let passes : matches_any c.args.headers.now ≡ true = search rules in
    let none : get c.args.headers.now (codes "if-none-match") ≡ None = search rules in
    any_passes c.args.headers.now passes none

-- The copied leaf has the tree of the token, by the equation of each variant in `ContentTrees.antt`.
use Rattle.std.proofs.Common.{rules}
use Rattle.miniserde_value.proofs.ContentTrees.{content_of_null, content_of_bool, content_of_number, content_of_string}
use Rattle.miniserde_value.proofs.json.copy.add.Goals as goal

pub returns-in_ok-put-in-Null-clause-built : goal.returns-in_ok-put-in-Null-clause-built
returns-in_ok-put-in-Null-clause-built c = search (rules, content_of_null)

pub returns-in_ok-put-in-Bool-clause-built : goal.returns-in_ok-put-in-Bool-clause-built
returns-in_ok-put-in-Bool-clause-built c = search (rules, content_of_bool)

pub returns-in_ok-put-in-Number-clause-built : goal.returns-in_ok-put-in-Number-clause-built
returns-in_ok-put-in-Number-clause-built c = search (rules, content_of_number)

pub returns-in_ok-put-in-String-clause-built : goal.returns-in_ok-put-in-String-clause-built
returns-in_ok-put-in-String-clause-built c = search (rules, content_of_string)

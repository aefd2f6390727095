-- The index of the first byte that is no whitespace is where the whitespace ends (`space_from`, `space_within`).
use Rattle.miniserde_text.proofs.Spaces.{space_from, space_within}
use Rattle.miniserde_text.proofs.json.lex.space.after_spaces.Goals as goal

pub returns-clause-value : goal.returns-clause-value
returns-clause-value c = space_from c.args.bytes.now c.args.at c.search-end.result c.search-end.ensures

pub returns-clause-within : goal.returns-clause-within
returns-clause-within c = space_within c.args.bytes.now c.args.at c.search-end.result c.requires c.search-end.ensures

-- The law follows from `one_tree`: a canonical text spells the normal form and no other tree.
use Rattle.miniserde_model.proofs.Canonical.{canonical_texts_equal}
use Rattle.miniserde_model.proofs.canonical_texts_equal.Goals as goal

pub returns : goal.returns
returns c = canonical_texts_equal

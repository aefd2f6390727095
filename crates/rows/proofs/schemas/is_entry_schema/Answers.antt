-- A schema is the one of the table exactly if its three parts are.
use Rattle.std.proofs.Common.{true≢false, sym, ◌∙◌}
use Rattle.rows.proofs.Recognized.{parts, its_indexes, its_views}
use Rattle.rows.proofs.schemas.is_entry_schema.Goals as goal

pub returns-then-not-is_one_entry_index : goal.returns-then-not-is_one_entry_index
returns-then-not-is_one_entry_index c = (
  λ t. absurd (true≢false (sym t)),
  λ is. absurd (
      let yes = c.is_one_entry_index.ensures.1 (c.as_slice-2.ensures ∙ its_indexes c.args.schema.now is) in
      let never = c.if-not-is_one_entry_index.true in
      cc),
)

pub returns : goal.returns
returns c = (
  λ t. parts c.args.schema.now (sym c.as_slice.ensures ∙ c.is_one_entry.ensures.0 c.if-not-is_one_entry.false)
      (sym c.as_slice-2.ensures ∙ c.is_one_entry_index.ensures.0 c.if-not-is_one_entry_index.false) (c.is_empty.ensures.0 t),
  λ is. c.is_empty.ensures.1 (its_views c.args.schema.now is),
)

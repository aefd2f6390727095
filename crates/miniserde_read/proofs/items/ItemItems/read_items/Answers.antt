-- `read_items` returns the values that the remaining children of a list give, and `Invalid` only if they give none.
-- By cases on the children: the list ends (`none_left`), its next child gives nothing (`first_none`), or the later
-- ones give nothing (`later_none`).
use Rattle.std.proofs.lemmas.Result.{err_from_is_err_and}
use Rattle.miniserde_read.proofs.Tuples.{none_left, first_none, later_none, items_given}
use Rattle.miniserde_read.proofs.items.ItemItems.read_items.Goals as goal

pub returns-in_default-clause-invalid : goal.returns-in_default-clause-invalid
returns-in_default-clause-invalid g c = λ e.
    none_left g.T.FromJson.means.from_tree g.R.Items.meaning.from_trees _ _ _ (rw c.in_default.is at c.in_ok-item.ensures.ok)

pub returns-in_err-item-clause-invalid : goal.returns-in_err-item-clause-invalid
returns-in_err-item-clause-invalid g c = λ e.
    let w = err_from_is_err_and c.from_residual.result c.from_residual.ensures.1 in
    first_none g.T.FromJson.means.from_tree g.R.Items.meaning.from_trees _ _ (c.in_err-item.ensures.invalid (cc (w.1, w.2, e)))

pub returns-in_err-rest-clause-invalid : goal.returns-in_err-rest-clause-invalid
returns-in_err-rest-clause-invalid g c = λ e.
    let w = err_from_is_err_and c.from_residual-in_err-rest.result c.from_residual-in_err-rest.ensures.1 in
    let h = rw c.in-Some.is at c.in_ok-item.ensures.ok in
    later_none g.T.FromJson.means.from_tree g.R.Items.meaning.from_trees _ _ h.0 _ _ h.1 h.2
    (c.in_err-rest.ensures.invalid (cc (w.1, w.2, e)))

pub returns-clause-ok : goal.returns-clause-ok
returns-clause-ok g c =
    let h = rw c.in-Some.is at c.in_ok-item.ensures.ok in
    items_given g.T.FromJson.means.from_tree g.R.Items.meaning.from_trees _ _ h.0 _ _ h.1 h.2 _ _ c.in_ok-rest.ensures.ok

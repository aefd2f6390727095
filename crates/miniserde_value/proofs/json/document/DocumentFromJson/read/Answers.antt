-- What the value keeps of the tree has the tree's normal form.
use Rattle.std.proofs.Common.{Some, sym, ap, ◌∙◌}
use Rattle.std.proofs.lemmas.Option.{same_Some}
use Rattle.miniserde_model.specs.Normal.{norm}
use Rattle.miniserde_model.specs.Tree.{Tree}
use Rattle.miniserde_value.proofs.RetainedTrees.{norm_kept}
use Rattle.miniserde_value.proofs.json.document.DocumentFromJson.read.Goals as goal

pub returns-clause-ok : goal.returns-clause-ok
returns-clause-ok c =
    let r = c.in_ok-read.ensures.ok in
    (r.0, r.1, ap (λ (z : Tree). Some z) (sym (norm_kept r.0) ∙ ap norm (same_Some _ _ r.2)))

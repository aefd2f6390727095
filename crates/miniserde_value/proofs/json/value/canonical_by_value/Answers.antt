-- Every tree means a document, whose tree is the tree's normal form.
use Rattle.std.proofs.Common.{◌≡◌, Some, None, Ok, Err, ap, ◌∙◌, string_bytes}
use Rattle.std.specs.Prelude.{IfOk}
use Rattle.std.proofs.lemmas.Result.{err_from_is_err_and}
use Rattle.miniserde_model.specs.Tree.{Tree}
use Rattle.miniserde_model.specs.Value.{IsJson}
use Rattle.miniserde_model.specs.Compact.{compact}
use Rattle.miniserde_model.specs.Normal.{norm}
use Rattle.miniserde_model.proofs.Unique.{one_tree}
use Rattle.miniserde_value.specs.Retained.{retained_tree}
use Rattle.miniserde_value.specs.Values.{tree_of}
use Rattle.miniserde_value.proofs.json.value.canonical_by_value.Goals as goal

pub returns-in_err-document-clause-invalid : goal.returns-in_err-document-clause-invalid
returns-in_err-document-clause-invalid c = λ e t p.
    let w = err_from_is_err_and c.from_residual.result c.from_residual.ensures.1 in
    let n : Some (retained_tree t) ≡ None = c.in_err-document.ensures.none (cc (w.1, w.2, e)) t p in
    absurd (cc)

pub returns-clause-text : goal.returns-clause-text
returns-clause-text c =
    let d = c.in_ok-document.ensures.ok in
    let v = c.in_ok-document.document in
    elim c.to_string.result as (λ r. IfOk r (λ s. string_bytes s ≡ compact (tree_of v))
    → IfOk r (λ s. (t : Tree) → IsJson c.args.j.now t → string_bytes s ≡ compact (norm t))) [
      | Ok s ↦ λ h t p. h ∙ ap compact (c.read_is_normal.ensures.tree d.0 v d.2 ∙ ap norm (one_tree c.args.j.now d.0 t d.1 p))
      | Err e ↦ λ h. tt
    ] c.to_string.ensures.ok

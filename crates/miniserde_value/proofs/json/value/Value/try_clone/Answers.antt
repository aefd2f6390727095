-- A copied string, array or object has the content of the original, by the equation of its variant in
-- `ContentTrees.antt`.
use Rattle.std.proofs.Common.{sym, ap, ◌∙◌}
use Rattle.miniserde_model.specs.Tree.{str}
use Rattle.miniserde_value.specs.Values.{content_of}
use Rattle.miniserde_value.proofs.ContentTrees.{content_of_string, content_of_array, content_of_object}
use Rattle.miniserde_value.proofs.json.value.Value.try_clone.Goals as goal

pub returns-in_ok-from_str-in-String-clause-ok : goal.returns-in_ok-from_str-in-String-clause-ok
returns-in_ok-from_str-in-String-clause-ok c =
    content_of_string c.in_ok-from_str-in-String.field-0
    ∙ ap str ((c.in_ok-from_str-in-String.ensures).ok ∙ c.as_str.ensures.value)
    ∙ sym (content_of_string c.in-String.text) ∙ ap content_of (sym c.in-String.is)

pub returns-in_ok-try_clone-in-Array-clause-ok : goal.returns-in_ok-try_clone-in-Array-clause-ok
returns-in_ok-try_clone-in-Array-clause-ok c =
    content_of_array c.in_ok-try_clone-in-Array.field-0 ∙ (c.in_ok-try_clone-in-Array.ensures).ok
    ∙ sym (content_of_array c.in-Array.array) ∙ ap content_of (sym c.in-Array.is)

pub returns-in_ok-try_clone-in-Object-clause-ok : goal.returns-in_ok-try_clone-in-Object-clause-ok
returns-in_ok-try_clone-in-Object-clause-ok c =
    content_of_object c.in_ok-try_clone-in-Object.field-0 ∙ (c.in_ok-try_clone-in-Object.ensures).ok
    ∙ sym (content_of_object c.in-Object.object) ∙ ap content_of (sym c.in-Object.is)

-- `begin_value` writes the first token of a value, and leaves the other tokens to the frames. By cases of the variant:
-- a leaf is `on_leaf`, an array is `begin_array` and an object is `begin_object`.
use Rattle.std.proofs.Common.{◌≡◌, ℕ, List, ◌∷◌, refl, sym, ap, subst, ◌∙◌}
use Rattle.std.proofs.lemmas.Result.{on_ok_weaker}
use Rattle.miniserde_model.specs.Tree.{str}
use Rattle.miniserde_model.specs.InRange.{InRange}
use Rattle.miniserde_model.specs.Tokens.{leaf}
use Rattle.miniserde_value.specs.Values.{content_of, array_content, object_content}
use Rattle.miniserde_value.specs.Walks.{frames_left}
use Rattle.miniserde_value.proofs.Walks.{begin_null, begin_bool, begin_number, begin_string, ordered_null}
use Rattle.miniserde_value.proofs.Walks.{ordered_bool, ordered_number, ordered_string}
use Rattle.miniserde_value.proofs.ContentTrees.{content_of_array, content_of_object}
use Rattle.miniserde_value.proofs.Writes.{on_leaf}
use Rattle.miniserde_value.proofs.json.write.begin_value.Goals as goal

pub returns-in-Null-clause-ok : goal.returns-in-Null-clause-ok
returns-in-Null-clause-ok c = on_leaf c.fragment.result c.args.w.now c.fragment.new.self _
    (record { tree = _; is_first = begin_null _ _ c.in-Null.is; is_norm = refl; in_range = tt })
    c.fragment.ensures.ok c.fragment.ensures.was_running

pub returns-in-Null-clause-ordered : goal.returns-in-Null-clause-ordered
returns-in-Null-clause-ordered c = on_ok_weaker c.fragment.result (λ _ o. (ordered_null _ c.in-Null.is, o)) c.fragment.ensures.was_running

pub returns-in-Bool-clause-ok : goal.returns-in-Bool-clause-ok
returns-in-Bool-clause-ok c = on_leaf c.fragment-in-Bool.result c.args.w.now c.fragment-in-Bool.new.self _
    (record { tree = _; is_first = begin_bool _ _ _ c.in-Bool.is; is_norm = refl; in_range = tt })
    c.fragment-in-Bool.ensures.ok c.fragment-in-Bool.ensures.was_running

pub returns-in-Bool-clause-ordered : goal.returns-in-Bool-clause-ordered
returns-in-Bool-clause-ordered c =
    on_ok_weaker c.fragment-in-Bool.result (λ _ o. (ordered_bool _ _ c.in-Bool.is, o))
    c.fragment-in-Bool.ensures.was_running

pub returns-in-Number-clause-ok : goal.returns-in-Number-clause-ok
returns-in-Number-clause-ok c = on_leaf c.fragment-in-Number-2.result c.args.w.now c.fragment-in-Number-2.new.self _
    (record {
      tree = _;
      is_first = begin_number _ _ _ c.in-Number.is;
      is_norm = c.fragment-in-Number.ensures.leaf;
      in_range = subst InRange (sym c.fragment-in-Number.ensures.leaf) c.fragment-in-Number.ensures.in_range;
    })
    c.fragment-in-Number-2.ensures.ok c.fragment-in-Number-2.ensures.was_running

pub returns-in-Number-clause-ordered : goal.returns-in-Number-clause-ordered
returns-in-Number-clause-ordered c =
    on_ok_weaker c.fragment-in-Number-2.result (λ _ o. (ordered_number _ _ c.in-Number.is, o))
    c.fragment-in-Number-2.ensures.was_running

pub returns-in-String-clause-ok : goal.returns-in-String-clause-ok
returns-in-String-clause-ok c = on_leaf c.fragment-in-String.result c.args.w.now c.fragment-in-String.new.self _
    (record {
      tree = _;
      is_first = begin_string _ _ _ c.in-String.is
          ∙ ap (λ (t : List ℕ). leaf (str t) ∷ frames_left c.args.frames.now) (sym c.as_str.ensures.value);
      is_norm = refl;
      in_range = c.as_str.utf8;
    }) c.fragment-in-String.ensures.ok
    c.fragment-in-String.ensures.was_running

pub returns-in-String-clause-ordered : goal.returns-in-String-clause-ordered
returns-in-String-clause-ordered c =
    on_ok_weaker c.fragment-in-String.result (λ _ o. (ordered_string _ _ c.in-String.is, o))
    c.fragment-in-String.ensures.was_running

pub returns-in-Array-clause-ok : goal.returns-in-Array-clause-ok
returns-in-Array-clause-ok c =
    let e : content_of c.args.value.now ≡ array_content c.in-Array.array =
    ap content_of c.in-Array.is ∙ content_of_array c.in-Array.array in
    rw e c.begin_array.ensures.ok

pub returns-in-Array-clause-ordered : goal.returns-in-Array-clause-ordered
returns-in-Array-clause-ordered c =
    let e : content_of c.args.value.now ≡ array_content c.in-Array.array =
    ap content_of c.in-Array.is ∙ content_of_array c.in-Array.array in
    rw e c.begin_array.ensures.ordered

pub returns-in-Object-clause-ok : goal.returns-in-Object-clause-ok
returns-in-Object-clause-ok c =
    let e : content_of c.args.value.now ≡ object_content c.in-Object.object =
    ap content_of c.in-Object.is ∙ content_of_object c.in-Object.object in
    rw e c.begin_object.ensures.ok

pub returns-in-Object-clause-ordered : goal.returns-in-Object-clause-ordered
returns-in-Object-clause-ordered c =
    let e : content_of c.args.value.now ≡ object_content c.in-Object.object =
    ap content_of c.in-Object.is ∙ content_of_object c.in-Object.object in
    rw e c.begin_object.ensures.ordered

-- `begin` returns the first token of a value, and the walk has the other tokens of the value left. By cases of the
-- variant, each with a lemma of `Walks.antt`.
use Rattle.std.proofs.Common.{rules, ◌≡◌, ℕ, List, ◌∷◌, Option, sym, ap, ◌∙◌}
use Rattle.std.specs.Prelude.{Vec}
use Rattle.std.specs.declared.alloc.Global.{Global}
use Rattle.miniserde_model.specs.Tree.{str}
use Rattle.miniserde_model.specs.Tokens.{leaf, tokens, array, object}
use Rattle.std.specs.Borrow.{Bor}
use Rattle.std.specs.Slice.Iter.{iter_rest}
use Rattle.miniserde_value.specs.declared.json.value.Value.{Value}
use Rattle.miniserde_value.specs.Values.{array_items, content_of}
use Rattle.miniserde_value.specs.Walks.{left, frames_left, due_left}
use Rattle.miniserde_value.proofs.Walks.{begin_null, begin_bool, begin_number, begin_string, begin_array}
use Rattle.miniserde_value.proofs.Walks.{begin_object, ordered_null, ordered_bool, ordered_number, ordered_string}
use Rattle.miniserde_value.proofs.Walks.{ordered_array, Opened, ordered_object}
use Rattle.miniserde_value.proofs.json.walk.Walk.begin.Goals as goal

pub returns-in-Null-clause-left : goal.returns-in-Null-clause-left
returns-in-Null-clause-left c = begin_null _ _ c.in-Null.is

pub returns-in-Null-clause-ordered : goal.returns-in-Null-clause-ordered
returns-in-Null-clause-ordered c = λ o. (ordered_null _ c.in-Null.is, o)

pub returns-in-Bool-clause-left : goal.returns-in-Bool-clause-left
returns-in-Bool-clause-left c = begin_bool _ _ _ c.in-Bool.is

pub returns-in-Bool-clause-ordered : goal.returns-in-Bool-clause-ordered
returns-in-Bool-clause-ordered c = λ o. (ordered_bool _ _ c.in-Bool.is, o)

pub returns-in-Number-clause-left : goal.returns-in-Number-clause-left
returns-in-Number-clause-left c = begin_number _ _ _ c.in-Number.is

pub returns-in-Number-clause-ordered : goal.returns-in-Number-clause-ordered
returns-in-Number-clause-ordered c = λ o. (ordered_number _ _ c.in-Number.is, o)

pub returns-in-String-clause-left : goal.returns-in-String-clause-left
returns-in-String-clause-left c =
    begin_string _ _ _ c.in-String.is ∙ ap (λ (t : List ℕ). leaf (str t) ∷ left c.args.self.now) (sym c.as_str.ensures.value)

pub returns-in-String-clause-ordered : goal.returns-in-String-clause-ordered
returns-in-String-clause-ordered c = λ o. (ordered_string _ _ c.in-String.is, o)

pub returns-in_ok-push_array-in-Array-clause-left : goal.returns-in_ok-push_array-in-Array-clause-left
returns-in_ok-push_array-in-Array-clause-left c =
    let items : iter_rest c.iter.result ≡ array_items c.in-Array.array =
    c.iter.ensures.rest ∙ c.deref.ensures.value ∙ ap (λ (v : Vec Value Global). v.items) c.inner.ensures in
    ap (λ (d : Option (Bor Value)). tokens (content_of c.args.value.now) (due_left d (frames_left c.args.self.now.frames))) c.requires
    ∙ begin_array _ c.iter.result _ c.in-Array.is items
    c.in_ok-push_array-in-Array.ensures.left
    ∙ ap (λ (d : Option (Bor Value)). array ∷ due_left d (frames_left c.push_array.new.self)) (sym c.requires)

pub returns-in_ok-push_array-in-Array-clause-ordered : goal.returns-in_ok-push_array-in-Array-clause-ordered
returns-in_ok-push_array-in-Array-clause-ordered c =
    let items : iter_rest c.iter.result ≡ array_items c.in-Array.array =
    c.iter.ensures.rest ∙ c.deref.ensures.value ∙ ap (λ (v : Vec Value Global). v.items) c.inner.ensures in
    λ o. let r = c.in_ok-push_array-in-Array.ensures.ordered o.1 in
    (ordered_array c.args.value.now _ c.iter.result c.in-Array.is items r.0, (o.0, r.1))

pub returns-in_ok-push_object-in-Object-clause-left : goal.returns-in_ok-push_object-in-Object-clause-left
returns-in_ok-push_object-in-Object-clause-left c =
    ap (λ (d : Option (Bor Value)). tokens (content_of c.args.value.now) (due_left d (frames_left c.args.self.now.frames))) c.requires
    ∙ begin_object _ c.iter-in-Object.result _ c.in-Object.is
    (search rules) c.in_ok-push_object-in-Object.ensures.left
    ∙ ap (λ (d : Option (Bor Value)). object ∷ due_left d (frames_left c.push_object.new.self)) (sym c.requires)

pub returns-in_ok-push_object-in-Object-clause-ordered : goal.returns-in_ok-push_object-in-Object-clause-ordered
returns-in_ok-push_object-in-Object-clause-ordered c =
    let opened : Opened c.in-Object.object c.inner-in-Object.result.now c.iter-in-Object.result = record {
      map = c.inner-in-Object.ensures;
      entries = c.iter-in-Object.ensures.rest;
      sorted = c.iter-in-Object.ensures.ordered;
    } in
    λ o. let r = c.in_ok-push_object-in-Object.ensures.ordered o.1 in
    (ordered_object c.args.value.now _ _ c.iter-in-Object.result c.in-Object.is opened r.0, (o.0, r.1))

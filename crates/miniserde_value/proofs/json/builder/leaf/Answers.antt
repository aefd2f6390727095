-- The event's leaf is the tree of the value, by the equation of the value in `ContentTrees.antt`.
use Rattle.std.proofs.Common.{rules, Some, sym, ap, ◌∙◌}
use Rattle.miniserde_model.specs.Tree.{Tree, num, neg, str}
use Rattle.miniserde_read.specs.Events.{event_of, leaf_of}
use Rattle.miniserde_value.specs.declared.json.number.Number.TheVariants as number
use Rattle.miniserde_value.proofs.ContentTrees.{content_of_null, content_of_bool, content_of_number, content_of_string}
use Rattle.miniserde_value.proofs.json.builder.leaf.Goals as goal

pub returns-in-Null-clause-ok : goal.returns-in-Null-clause-ok
returns-in-Null-clause-ok c = ap (λ e. leaf_of (event_of e)) c.in-Null.is ∙ ap (λ (t : Tree). Some t) (sym content_of_null)

pub returns-in-Bool-clause-ok : goal.returns-in-Bool-clause-ok
returns-in-Bool-clause-ok c =
    ap (λ e. leaf_of (event_of e)) c.in-Bool.is ∙ ap (λ (t : Tree). Some t) (sym (content_of_bool c.in-Bool.b))

pub returns-in_ok-from_str-in-Str-clause-ok : goal.returns-in_ok-from_str-in-Str-clause-ok
returns-in_ok-from_str-in-Str-clause-ok c =
    ap (λ e. leaf_of (event_of e)) c.in-Str.is
    ∙ ap (λ (t : Tree). Some t) (sym (content_of_string _ ∙ ap str c.in_ok-from_str-in-Str.ensures.ok))

pub returns-in-Negative-clause-ok : goal.returns-in-Negative-clause-ok
returns-in-Negative-clause-ok c =
    ap (λ e. leaf_of (event_of e)) c.in-Negative.is
    ∙ ap (λ (t : Tree). Some t) (sym (content_of_number _ ∙ ap neg (search rules)))

pub returns-in-Nonnegative-clause-ok : goal.returns-in-Nonnegative-clause-ok
returns-in-Nonnegative-clause-ok c =
    ap (λ e. leaf_of (event_of e)) c.in-Nonnegative.is
    ∙ ap (λ (t : Tree). Some t) (sym (content_of_number (number.U64 c.in-Nonnegative.n)))

pub returns-in_ok-new_unchecked-in-Float-clause-ok : goal.returns-in_ok-new_unchecked-in-Float-clause-ok
returns-in_ok-new_unchecked-in-Float-clause-ok c =
    ap (λ e. leaf_of (event_of e)) c.in-Float.is
    ∙ ap (λ (t : Tree). Some t) (sym (content_of_number _ ∙ ap num c.in_ok-new_unchecked-in-Float.ensures.ok))

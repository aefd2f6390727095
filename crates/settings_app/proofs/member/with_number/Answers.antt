-- The object that is written has the normal form of the text's members with the new one behind them (`written`). A text
-- whose value is no object spells no object.
use Rattle.std.proofs.Common.{◌≡◌, Some, None, string_bytes, option_map, subst, ap, sym, ◌∙◌, true≢false, is_some}
use Rattle.std.proofs.lemmas.Result.{err_from_is_err_and}
use Rattle.miniserde.specs.Tree.{members, nonneg}
use Rattle.miniserde.specs.Normal.{put}
use Rattle.miniserde.specs.Value.{IsJson}
use Rattle.miniserde.specs.Compact.{compact}
use Rattle.miniserde.specs.Retained.{retained_tree}
use Rattle.miniserde.specs.OnlyContainers.{only_members}
use Rattle.miniserde.specs.Values.{content_of, object_content, object_members}
use Rattle.settings_app.proofs.Members.{written}
use Rattle.settings_app.proofs.member.with_number.Goals as goal

pub returns-in_err-document-clause-invalid : goal.returns-in_err-document-clause-invalid
returns-in_err-document-clause-invalid c = λ e ms j.
    let w = err_from_is_err_and c.from_residual.result c.from_residual.ensures.1 in
    let n : Some (retained_tree (members ms)) ≡ None = c.in_err-document.ensures.none (cc (w.1, w.2, e)) (members ms) j in
    absurd (cc)

pub returns-in_ok-written-in-Some-clause-ok : goal.returns-in_ok-written-in-Some-clause-ok
returns-in_ok-written-in-Some-clause-ok c =
    let d = c.in_ok-document.ensures.ok in
    let law = c.norm_of_members.ensures in
    let w = written law.last law.order law.only c.args.name.now (nonneg c.args.number) d.0 (content_of c.in_ok-document.document)
    (object_members c.in-Some.object) (object_members c.put.new.self) d.2
    (c.read_is_normal.ensures.tree d.0 c.in_ok-document.document d.2)
    (ap (option_map object_content) (sym c.in-Some.is) ∙ c.into_object.ensures)
    (c.in_ok-put-in-Some.ensures.ok
    ∙ ap (λ u. put c.args.name.now u (object_members c.in-Some.object)) c.in_ok-value-in-Some.ensures.ok) in (
      w.0,
      subst (λ t. IsJson c.args.text.now t) w.1 d.1,
      subst (IsJson (string_bytes c.in_ok-written-in-Some.written)) w.2
          c.in_ok-written-in-Some.ensures.spells,
      c.in_ok-written-in-Some.ensures.ok ∙ ap compact w.2,
    )

pub returns-in-None-clause-invalid : goal.returns-in-None-clause-invalid
returns-in-None-clause-invalid c = λ e ms j.
    let d = c.in_ok-document.ensures.ok in
    let x : content_of c.in_ok-document.document ≡ retained_tree (members ms) =
    subst (λ t. content_of c.in_ok-document.document ≡ retained_tree t) (c.from_str.ensures.one d.0 (members ms) d.1 j) d.2 in
    absurd (true≢false (ap is_some (sym (ap (option_map object_content) (sym c.in-None.is) ∙ c.into_object.ensures
    ∙ ap (λ x. only_members (Some x)) x))))

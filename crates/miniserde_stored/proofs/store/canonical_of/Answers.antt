-- The text of the value spells its tree, so by the law of canonical texts another text with an equal one spells a tree
-- with the same normal form. If the writer knows that the value's tree is in normal form, its text is the canonical one.
use Rattle.std.proofs.Common.{ap, sym, subst, ◌∙◌, string_bytes}
use Rattle.std.proofs.lemmas.Result.{IfOk-weaker}
use Rattle.miniserde_model.specs.Compact.{compact}
use Rattle.miniserde_model.specs.Value.{IsJson}
use Rattle.miniserde_stored.proofs.store.canonical_of.Goals as goal

pub returns-clause-tells : goal.returns-clause-tells
returns-clause-tells g c =
    let t = g.T.Serialize.tree c.args.value.now in
    let spells = c.in_ok-text.ensures.spells in
    let at = subst (λ z. IsJson z t) (sym c.as_str.ensures.value) spells in
    IfOk-weaker c.canonical.result _ _
    (λ s h b u j e. (c.canonical_texts_equal.ensures b (string_bytes c.in_ok-text.text) u t j spells).0 (sym e ∙ h t at))
    c.canonical.ensures.text

pub returns-then-is_normal-clause-tells : goal.returns-then-is_normal-clause-tells
returns-then-is_normal-clause-tells g c = λ b u j e.
    let t = g.T.Serialize.tree c.args.value.now in
    let text = c.in_ok-text.ensures in
    (c.canonical_texts_equal.ensures b (string_bytes c.in_ok-text.text) u t j text.spells).0
    (sym e ∙ text.ok ∙ ap compact (sym (text.normal c.if-is_normal.true)))

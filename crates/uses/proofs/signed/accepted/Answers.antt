-- The signed text is the canonical text of the body, which spells one tree.
use Rattle.std.proofs.Common.{◌≡◌, ap, sym, subst, ◌∙◌, true≢false}
use Rattle.std.specs.Prelude.{string_bytes}
use Rattle.miniserde.specs.Compact.{compact}
use Rattle.miniserde.specs.Normal.{norm}
use Rattle.uses.proofs.signed.accepted.Goals as goal

pub returns-then-is_of-clause-some : goal.returns-then-is_of-clause-some
returns-then-is_of-clause-some g c =
    let text = string_bytes c.in_ok-value.canonical in
    let r = c.in_ok-value.ensures.canonical in (
      text,
      subst (λ b. g.S.Signature.signed c.args.signature.now b) c.as_str.ensures.value (c.is_of.ensures.0 c.if-is_of.true),
      r,
      λ v p j.
          let t = g.T.Serialize.tree v in
          let one = c.text_has_one_tree.ensures text r.0 (norm t) r.1 j in
          c.canonical_text_determines_content.ensures.itself v c.in_ok-value.value r.0 p
          (ap norm one ∙ c.norm_is_normal.ensures.idempotent t) r.2,
    )

pub returns-else-is_of-clause-none : goal.returns-else-is_of-clause-none
returns-else-is_of-clause-none g c = λ e t j s.
    let r = c.in_ok-value.ensures.ok in
    let one = c.text_has_one_tree.ensures c.args.body.now r.0 t r.1 j in
    let same : c.as_str.result.now ≡ compact (norm t) = c.as_str.ensures.value ∙ r.3 ∙ ap (λ z. compact (norm z)) one in
    true≢false (sym (c.is_of.ensures.1 (subst (λ b. g.S.Signature.signed c.args.signature.now b) (sym same) s)) ∙ c.if-is_of.false)

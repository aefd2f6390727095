-- `append` adds the bytes of a span, and its splices moved to their new indices. The loop invariant says that the
-- splices pushed so far are the first splices of the span, moved; at the end they are all of them.
use Rattle.std.proofs.Common.{rules, ◌≡◌, ◌++◌, ◌∷◌, [], List, map, length, refl, sym, ap, ap₂, ◌∙◌, append-nil, append_assoc}
use Rattle.std.proofs.lemmas.List.{map_more, take_all}
use Rattle.miniserde_canonical.specs.declared.spread.Splice.{Splice}
use Rattle.miniserde_canonical.specs.private.SplicedTexts.{shifted_splice, bytes_in, splices_in}
use Rattle.miniserde_canonical.proofs.spread.SplicedText.append.Goals as goal

pub loop-splice-init : goal.loop-splice-init
loop-splice-init c = record { bytes = refl; splices = sym (append-nil _) }

pub loop-splice-preserved : goal.loop-splice-preserved
loop-splice-preserved c = record {
  bytes = c.loop-splice.invariant.bytes;
  splices =
      c.in_ok-push.ensures.items
      ∙ ap₂ (λ (x : List Splice) (y : Splice). x ++ y ∷ []) c.loop-splice.invariant.splices c.in_ok-shifted_splice.ensures
      ∙ append_assoc c.args.self.now.splices.items _ _
      ∙ ap (λ z. c.args.self.now.splices.items ++ z)
      (sym (map_more (shifted_splice c.args.span.from.bytes c.len-at.result) c.part-splices.result.now
      c.loop-splice.splice-index _ c.loop-splice-test.true));
}

pub returns-clause-bytes : goal.returns-clause-bytes
returns-clause-bytes c = λ w.
    let is : c.part-bytes.result.now ≡ bytes_in c.args.span c.args.other.now.bytes.items = search rules in
    c.loop-splice.invariant.bytes ∙ c.in_ok-extend_from_slice.ensures.items ∙ ap (λ z. c.args.self.now.bytes.items ++ z) is

pub returns-clause-splices : goal.returns-clause-splices
returns-clause-splices c = λ w.
    let is : c.part-splices.result.now ≡ splices_in c.args.span c.args.other.now.splices.items = search rules in
    let at : c.len-at.result ≡ length c.args.self.now.bytes.items = search rules in
    c.loop-splice.invariant.splices
    ∙ ap (λ z. c.args.self.now.splices.items ++ map (shifted_splice c.args.span.from.bytes c.len-at.result) z)
    (take_all c.loop-splice.splice-index c.part-splices.result.now c.loop-splice-test.false ∙ is)
    ∙ ap (λ z. c.args.self.now.splices.items ++ map (shifted_splice c.args.span.from.bytes z)
    (splices_in c.args.span c.args.other.now.splices.items)) at

-- The writer began empty, so its text is the compact text of the tree, which spells it.
use Rattle.std.proofs.Common.{◌≡◌, ◌++◌, sym, ap, subst, ◌∙◌}
use Rattle.miniserde_model.specs.Value.{IsJson}
use Rattle.miniserde_model.specs.Compact.{compact}
use Rattle.miniserde_model.proofs.Written.{written}
use Rattle.miniserde_ser.proofs.ser.compact.to_string_and_normal.Goals as goal

pub returns-clause-spells : goal.returns-clause-spells
returns-clause-spells g c =
    let t = g.T.Serialize.tree c.args.value.now in
    let e : c.begin.new.w.text ≡ compact t =
    c.in_ok-begin.ensures.ok ∙ ap (λ w. w.text ++ compact t) c.watching-w.ensures in
    subst (λ z. IsJson z t) (sym (c.in_ok-into_string.ensures.ok ∙ e)) (written t c.in_ok-begin.ensures.in_range)

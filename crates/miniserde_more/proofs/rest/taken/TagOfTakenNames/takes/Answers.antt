-- A name is taken if it is the tag (`front`), and else exactly if it is one of the other names (`behind_only`).
use Rattle.std.proofs.Common.{[], ◌∷◌, sym, ap, ◌∙◌}
use Rattle.miniserde_record.specs.Marks.{is_among}
use Rattle.miniserde_more.proofs.RestTaken.{front, behind_only}
use Rattle.miniserde_more.proofs.rest.taken.TagOfTakenNames.takes.Goals as goal

pub returns-then-is_one_of : goal.returns-then-is_one_of
returns-then-is_one_of g c = sym (front (g.E.HasTag.tag ∷ []) g.A.TakenNames.further c.args.name.now
    (ap (λ ns. is_among ns c.args.name.now) (sym c.tag.ensures) ∙ sym c.is_one_of.ensures ∙ c.if-is_one_of.true))

pub returns : goal.returns
returns g c = c.takes.ensures ∙ sym (behind_only (g.E.HasTag.tag ∷ []) g.A.TakenNames.further c.args.name.now
    (ap (λ ns. is_among ns c.args.name.now) (sym c.tag.ensures) ∙ sym c.is_one_of.ensures ∙ c.if-is_one_of.false))

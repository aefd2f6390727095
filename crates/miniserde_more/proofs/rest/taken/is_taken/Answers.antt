-- A name is taken if it is a field's (`named`), and else exactly if it is a further name (`further_only`).
use Rattle.std.proofs.Common.{map, sym, ◌∙◌}
use Rattle.miniserde_more.proofs.RestTaken.{named, further_only}
use Rattle.miniserde_more.proofs.rest.taken.is_taken.Goals as goal

pub returns-then-is_one_of : goal.returns-then-is_one_of
returns-then-is_one_of g c = sym (named g.A.TakenNames.further (map (λ n. n.now) c.args.names.now) c.args.name.now
    (sym c.is_one_of.ensures ∙ c.if-is_one_of.true))

pub returns : goal.returns
returns g c = c.takes.ensures ∙ sym (further_only g.A.TakenNames.further (map (λ n. n.now) c.args.names.now) c.args.name.now
    (sym c.is_one_of.ensures ∙ c.if-is_one_of.false))

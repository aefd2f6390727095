-- The row that is read has the two texts.
use Rattle.std.proofs.Common.{Some, sym, ap, subst, ◌∙◌, option_copied}
use Rattle.sqlite.specs.Given.{Advances}
use Rattle.rows.proofs.visits.next_texts.Goals as goal

pub returns-in_ok-body-in-Some-clause-shows : goal.returns-in_ok-body-in-Some-clause-shows
returns-in_ok-body-in-Some-clause-shows g c clean =
    let row = sym c.get.ensures ∙ ap option_copied c.in-Some.is in (
      Some c.in-Some.row.now,
      subst (Advances g.S.Store c.args.rows.now.conn.now c.advance.new.self.conn.now) row (c.in_ok-advance.ensures.ok clean),
      λ i. (c.in_ok-key-in-Some.ensures.ok.1 i, c.in_ok-body-in-Some.ensures.ok.1 i),
    )

-- The token consumes the first event of a value, and `enter` pushes the kind that it opens (`entered`).
use Rattle.miniserde_text.specs.Lexer.{event_of_token}
use Rattle.miniserde_read.proofs.Skips.{entered}
use Rattle.miniserde_read.proofs.ignored.begin.Goals as goal

pub returns-clause-reaches : goal.returns-clause-reaches
returns-clause-reaches c =
    let q = c.in_ok-token.ensures.ok in
    entered c.enter.result c.args.stack.now
    (event_of_token c.in_ok-token.token q.0) c.enter.new.self q.1 (c.enter.ensures.opens q.0) (c.enter.ensures.ok q.0)

-- The tree is the list of the children that `read_items` reads, and it begins with the event of `[`.
use Rattle.std.proofs.Common.{ap, rules}
use Rattle.std.proofs.lemmas.Result.{IfOk-weaker}
use Rattle.miniserde_model.specs.Tree.{list}
use Rattle.miniserde_text.specs.Lexer.{event_of_token}
use Rattle.miniserde_read.proofs.items.read_tuple.Goals as goal

pub returns-clause-reads : goal.returns-clause-reads
returns-clause-reads g c = record {
  going = c.read_items.ensures.going;
  ok = IfOk-weaker c.read_items.result _ _
      (λ v h. (list h.0, (ap (λ z. event_of_token z c.args.source.now.scratch) c.in-SeqStart.is, h.1), h.2))
      c.read_items.ensures.ok;
  invalid = search rules;
}

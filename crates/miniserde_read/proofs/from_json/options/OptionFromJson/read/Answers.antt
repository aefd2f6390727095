-- The token `null` begins the tree null, which gives `None`.
use Rattle.std.proofs.Common.{refl, ap}
use Rattle.miniserde_model.specs.Tree.{null}
use Rattle.miniserde_text.specs.Lexer.{event_of_token}
use Rattle.miniserde_read.proofs.from_json.options.OptionFromJson.read.Goals as goal

pub returns-in-Null-clause-ok : goal.returns-in-Null-clause-ok
returns-in-Null-clause-ok g c = (null, (ap (λ z. event_of_token z c.args.source.now.scratch) c.in-Null.is, refl), refl)

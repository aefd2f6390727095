-- A mask of 0 says that none of the 4 bytes in the lanes is special (`lanes_plain`).
use Rattle.std.proofs.Common.{eqb-true, sym, ◌∙◌}
use Rattle.miniserde_text.proofs.Plain.{lanes_plain}
use Rattle.miniserde_text.proofs.escape.plain.four_are_plain.Goals as goal

pub returns : goal.returns
returns c = λ none. lanes_plain 4 c.args.bytes.now c.args.at c.requires (sym c.specials_of_four-found.ensures ∙ eqb-true _ _ none)

-- A mask of 0 says that none of the 8 bytes in the lanes is special (`lanes_plain`).
use Rattle.std.proofs.Common.{eqb-true, sym, ◌∙◌}
use Rattle.miniserde_text.proofs.Plain.{lanes_plain}
use Rattle.miniserde_text.proofs.escape.plain.eight_are_plain.Goals as goal

pub returns : goal.returns
returns c = λ none. lanes_plain 8 c.args.bytes.now c.args.at c.requires (sym c.specials_of_eight-found.ensures ∙ eqb-true _ _ none)

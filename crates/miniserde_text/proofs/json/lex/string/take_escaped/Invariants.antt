-- The scratch text is the initial one and the spelling of the characters between the backslashes before `at` and before
-- `next` (`Adds`). The length of the text from `next` on decreases.
use Rattle.std.proofs.Common.{◌∷◌, length, drop}
use Rattle.std.specs.String.{string_bytes}
use Rattle.miniserde_text.specs.private.LexerParts.{Adds}
use Rattle.miniserde_text.proofs.json.lex.string.take_escaped.Given as goal

abbrev pub invariant-escapes : goal.invariant-escapes
invariant-escapes g l =
    Adds g.S.Spelling.spelled (string_bytes l.initial.scratch) (string_bytes l.scratch) (92 ∷ drop l.at l.text) (92 ∷ drop l.next l.text)

abbrev pub decreases-escapes : goal.decreases-escapes
decreases-escapes g l = length (drop l.next l.text)

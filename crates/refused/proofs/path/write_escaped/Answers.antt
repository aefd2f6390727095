-- The backslash, and then the character.
use Rattle.std.proofs.Common.{◌≡◌, ◌∷◌, encode_utf8, refl, rules}
use Rattle.std.proofs.Output.{has_written_styled_append, has_written_styled_of_eq}
use Rattle.refused.specs.Text.{char_text}
use Rattle.refused.proofs.path.write_escaped.Goals as goal

pub returns-in_ok-write_str-in-46-clause-styled : goal.returns-in_ok-write_str-in-46-clause-styled
returns-in_ok-write_str-in-46-clause-styled g c = λ flush ok.
    let both : 92 ∷ encode_utf8 c.args.c ≡ char_text c.args.c = search rules in
    let first = c.in_ok-write_str-in-46.ensures.styled flush refl in
    has_written_styled_of_eq _ _ _ _ _ both
    (has_written_styled_append _ _ _ _ _ _ first (c.write_char.ensures.styled first.flush ok))

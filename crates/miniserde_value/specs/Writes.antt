-- The text that the tokens of a walk write.
use Rattle.std.specs.Prelude.{◌≡◌, ◌≤◌, List, ◌++◌, length, false}
use Rattle.miniserde_model.specs.Tokens.{Token}
use Rattle.miniserde_ser.specs.Writer.{WriterView}
use Rattle.miniserde_value.specs.Tokens.{tokens_text, first_flag_after, TokensInRange}

-- From `old` to `new`, the writer writes the tokens in `before` that are no longer in `after`, and
-- no call fails. The text so far followed by the text of the tokens left stays the same, and so
-- does the flag after all tokens, and so does the writer's flag `normal`. If the tokens in `after`
-- are in range, so are those in `before`, of which there are at least as many.
pub record Writes (old : WriterView) (before : List Token) (new : WriterView) (after : List Token) : Type 0 where
  pub text : new.text ++ tokens_text new.first after ≡ old.text ++ tokens_text old.first before
  pub first : first_flag_after new.first after ≡ first_flag_after old.first before
  pub are_tokens : TokensInRange after → TokensInRange before
  pub normal : new.normal ≡ old.normal
  pub shorter : length after ≤ length before
  pub was_running : old.refused ≡ false
  pub unrefused : new.refused ≡ false

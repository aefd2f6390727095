-- What a contract sees of a source, and what the calls of a source take inside a container.
use Rattle.std.specs.Prelude.{ℕ, Bool, true, false, List, [], Option, Some, None}
use Rattle.miniserde_model.specs.Lexing.{Names, Follows}
use Rattle.miniserde_model.specs.declared.kind.Kind.TheVariants.{Map}
use Rattle.miniserde_text.specs.Lexer.{text_of}
use Rattle.miniserde_text.specs.declared.json.lex.Text.{Text}
use Rattle.miniserde_text.specs.declared.json.lex.Text.TheVariants as text
use Rattle.miniserde_model.specs.declared.error.Error.{Error}

-- what a contract sees of a source: the text that is left, the first error, if there was one, and the scratch text
pub record SourceView : Type 0 where
  pub rest : List ℕ
  pub refused : Option Error
  pub scratch : List ℕ

-- the scratch text after the text of a string or of a name was moved out: a decoded text leaves it empty
abbrev pub left_scratch : Text → List ℕ → List ℕ
left_scratch (text.Input s) scratch = scratch
left_scratch text.Scratch scratch = []

-- Inside an object, from s to r stands the closing bracket if there is no name, and else a comma,
-- the name of a member and its colon. `scratch` is the scratch text, and `first` says that the
-- opening bracket was just taken, so that no comma is due.
abbrev pub NameFollows : Option Text → List ℕ → Bool → List ℕ → List ℕ → Type 0
NameFollows None scratch first s r = Follows Map first true s r
NameFollows (Some t) scratch first s r = (b : List ℕ) × Follows Map first false s b × Names b (text_of t scratch) r

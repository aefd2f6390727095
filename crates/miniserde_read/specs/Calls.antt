-- What a call does that reads a value.
use Rattle.std.specs.Prelude.{◌≡◌, Option, None, Result, Err, IfOk}
use Rattle.miniserde_model.specs.Tree.{Tree}
use Rattle.miniserde_model.specs.Step.{Step}
use Rattle.miniserde_model.specs.declared.error.Error.{Error}
use Rattle.miniserde_model.specs.declared.error.Error.TheVariants.{Invalid}
use Rattle.miniserde_read.specs.Rest.{GivesAt, GivesNoneAt}
use Rattle.miniserde_read.specs.Source.{SourceView}

-- The call reads a value whose first event is e. If it returns a value, the text spells a tree for which `from_tree`
-- returns the value's content, and the source has no error. If it returns `Invalid`, `from_tree` returns no content for
-- any tree that e and a prefix of the text spell.
pub record Reads {V C : Type 0} (from_tree : Tree → Option C) (content : V → C) (e : Step) (old : SourceView)
    (answer : Result V Error) (new : SourceView) : Type 0 where
  pub going : IfOk answer (λ _. new.refused ≡ None)
  pub ok : IfOk answer (λ v. GivesAt from_tree e old.rest new.rest (content v))
  pub invalid : answer ≡ Err Invalid → GivesNoneAt from_tree e old.rest

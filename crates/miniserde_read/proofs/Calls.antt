-- The record `Reads` of a call, from the one field that says something at an exit.
use Rattle.std.proofs.Common.{◌≡◌, Option, None, Result, Ok, Err, IsErrAnd}
use Rattle.miniserde_model.specs.Tree.{Tree}
use Rattle.miniserde_model.specs.Step.{Step}
use Rattle.miniserde_model.specs.declared.error.Error.{Error}
use Rattle.miniserde_model.specs.declared.error.Error.TheVariants.{Invalid}
use Rattle.miniserde_read.specs.Rest.{GivesAt, GivesNoneAt}
use Rattle.miniserde_read.specs.Source.{SourceView}
use Rattle.miniserde_read.specs.Calls.{Reads}

module _ {V C : Type 0} {from_tree : Tree → Option C} {content : V → C} {e : Step} {old new : SourceView} where
  -- a call that returns a value whose content a tree gives
  pub reads_value : (v : V) → new.refused ≡ None → GivesAt from_tree e old.rest new.rest (content v)
      → Reads from_tree content e old (Ok v) new
  reads_value v going given = record { going = going; ok = given; invalid = λ h. absurd (cc) }

  -- a call that returns the error x; if x is `Invalid`, no tree gives a content
  pub reads_none : (x : Error) → (x ≡ Invalid → GivesNoneAt from_tree e old.rest) → Reads from_tree content e old (Err x) new
  reads_none x none = record { going = tt; ok = tt; invalid = λ h. none (cc) }

  -- a call that passes on the error x of another
  pub reads_failed : {T : Type 0} {x : Error} (answer : Result V Error) → IsErrAnd answer (λ y. y ≡ x)
      → (◌≡◌ {A = Result T Error} (Err x) (Err Invalid) → GivesNoneAt from_tree e old.rest)
      → Reads from_tree content e old answer new
  reads_failed (Ok v) h none = absurd h
  reads_failed (Err y) h none = record { going = tt; ok = tt; invalid = λ i. none (cc) }

-- Between two events of a text: the moment, and the container that an event opens.
use Rattle.std.specs.Prelude.{Bool, true, false, List, [], Option, Some, None, ⊤}
use Rattle.miniserde_model.specs.Step.{Step, seq, map}
use Rattle.miniserde_model.specs.declared.kind.Kind.{Kind}
use Rattle.miniserde_model.specs.declared.kind.Kind.TheVariants.{Seq, Map}
use Rattle.miniserde_model.specs.private.Reading.{Moment, due, first, after}

-- the kind of the container that the event opens, if it opens one
abbrev pub opened_kind : Step → Option Kind
opened_kind seq = Some Seq
opened_kind map = Some Map
opened_kind _ = None

-- the moment if no value is due: a container was just opened (`true`), or a value just ended (`false`)
abbrev pub first_or_after : Bool → Moment
first_or_after true = first
first_or_after false = after

-- the moment if no container was just opened: a value is due (`true`), or one just ended (`false`)
abbrev pub due_or_after : Bool → Moment
due_or_after true = due
due_or_after false = after

-- if no container is open, the moment is not the one after an opening bracket
abbrev pub MomentFits : Moment → List Kind → Type 0
MomentFits first [] = ⊥
MomentFits _ _ = ⊤

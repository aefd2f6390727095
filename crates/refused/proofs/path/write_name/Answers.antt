-- A turn writes one more character (`one-char`). At the end the iterator has yielded all characters of the name.
use Rattle.std.proofs.Common.{rules, refl, ◌≡◌, map-id, sym, ◌∙◌}
use Rattle.std.specs.Str.{chars}
use Rattle.std.proofs.Output.{has_written_append, has_written_of_eq, has_written_styled_append, has_written_styled_of_eq}
use Rattle.std.proofs.lemmas.Iterator.{YieldsList-from_chars}
use Rattle.std.proofs.lemmas.Iterator.Consumers.{YieldsList-end}
use Rattle.refused.proofs.Text.{name_text-other, one-char}
use Rattle.refused.proofs.path.write_name.Goals as goal

pub loop-c-preserved : goal.loop-c-preserved
loop-c-preserved g c = (
  λ plain. let so_far = c.loop-c.invariant.0 plain in
      has_written_of_eq _ _ _ _ _ (one-char c.loop-c.yielded c.in-Some.c)
      (has_written_append _ _ _ _ _ _ so_far (c.in_ok-write_escaped.ensures.writes so_far.plain refl)),
  λ flush. let so_far = c.loop-c.invariant.1 flush in
      has_written_styled_of_eq _ _ _ _ _ (one-char c.loop-c.yielded c.in-Some.c)
      (has_written_styled_append _ _ _ _ _ _ so_far (c.in_ok-write_escaped.ensures.styled so_far.flush refl)),
)

pub returns-clause-writes : goal.returns-clause-writes
returns-clause-writes g c = λ plain ok.
    let end = YieldsList-end (YieldsList-from_chars c.args.name.now c.utf8.name cc) c.loop-c.yielded _ c.loop-c.yielded_by _ _
    c.in-None.is c.next.ensures.steps in
    let all : chars c.args.name.now ≡ c.loop-c.yielded = sym end.0 ∙ map-id c.loop-c.yielded in
    has_written_of_eq _ _ _ _ _ (name_text-other c.args.name.now c.loop-c.yielded (search rules) all)
    (c.loop-c.invariant.0 plain)

pub returns-clause-styled : goal.returns-clause-styled
returns-clause-styled g c = λ flush ok.
    let end = YieldsList-end (YieldsList-from_chars c.args.name.now c.utf8.name cc) c.loop-c.yielded _ c.loop-c.yielded_by _ _
    c.in-None.is c.next.ensures.steps in
    let all : chars c.args.name.now ≡ c.loop-c.yielded = sym end.0 ∙ map-id c.loop-c.yielded in
    has_written_styled_of_eq _ _ _ _ _ (name_text-other c.args.name.now c.loop-c.yielded (search rules) all)
    (c.loop-c.invariant.1 flush)

-- The first token says whether the tree is an object. A value that begins so is retained as such.
use Rattle.std.proofs.Common.{option_map, is_some, sym, ap, ◌∙◌, true≢false}
use Rattle.miniserde_value.specs.OnlyContainers.{only_members}
use Rattle.miniserde_value.specs.Values.{object_content}
use Rattle.miniserde_value.proofs.Openings.{no_members, is_members}
use Rattle.miniserde_value.proofs.json.read.ObjectFromJson.read.Goals as goal

pub returns-in_default : goal.returns-in_default
returns-in_default c = record {
  going = tt;
  ok = tt;
  invalid = λ e t r v. no_members t c.args.token c.args.source.now.scratch c.args.source.now.rest r c.in_default.not-MapStart v;
  infallible = λ f. absurd (cc);
  memory = λ e. tt;
}

pub unreachable-requires : goal.unreachable-requires
unreachable-requires c =
    let read = c.in_ok-read_value-in-MapStart.ensures.ok in
    true≢false (sym (is_members read.0 c.args.token c.args.source.now.scratch c.args.source.now.rest _ c.in-MapStart.is read.1)
    ∙ ap is_some (ap only_members read.2 ∙ sym c.into_object.ensures ∙ ap (option_map object_content) c.in-None.is))

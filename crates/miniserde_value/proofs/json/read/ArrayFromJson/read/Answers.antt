-- The first token says whether the tree is a list. A value that begins so is retained as such.
use Rattle.std.proofs.Common.{option_map, is_some, sym, ap, ◌∙◌, true≢false}
use Rattle.miniserde_value.specs.OnlyContainers.{only_list}
use Rattle.miniserde_value.specs.Values.{array_content}
use Rattle.miniserde_value.proofs.Openings.{no_list, is_list}
use Rattle.miniserde_value.proofs.json.read.ArrayFromJson.read.Goals as goal

pub returns-in_default : goal.returns-in_default
returns-in_default c = record {
  going = tt;
  ok = tt;
  invalid = λ e t r v. no_list t c.args.token c.args.source.now.scratch c.args.source.now.rest r c.in_default.not-SeqStart v;
  infallible = λ f. absurd (cc);
  memory = λ e. tt;
}

pub unreachable-requires : goal.unreachable-requires
unreachable-requires c =
    let read = c.in_ok-read_value-in-SeqStart.ensures.ok in
    true≢false (sym (is_list read.0 c.args.token c.args.source.now.scratch c.args.source.now.rest _ c.in-SeqStart.is read.1)
    ∙ ap is_some (ap only_list read.2 ∙ sym c.into_array.ensures ∙ ap (option_map array_content) c.in-None.is))

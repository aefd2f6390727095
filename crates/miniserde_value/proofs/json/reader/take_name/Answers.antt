-- The name, or its absence, is what the text needs before the next child, by the kind of the container
-- (`key_builds`, `element_builds`). Without a name nothing can follow (`name_ends`), nor after a duplicate one
-- (`repeat_gives`).
use Rattle.std.proofs.Common.{ap, sym, ◌∙◌}
use Rattle.std.specs.Prelude.{◌&&◌}
use Rattle.std.proofs.lemmas.Result.{err_from_is_err_and}
use Rattle.miniserde_text.proofs.Consumes.{name_ends}
use Rattle.miniserde_value.specs.Builders.{hole_in}
use Rattle.miniserde_value.specs.Hole.{has_member, with_name}
use Rattle.miniserde_value.specs.private.Builds.{kinds, state_before}
use Rattle.miniserde_value.proofs.Builds.{innermost_of_kinds, element_builds, MemberNext, key_builds, stuck, repeat_gives}
use Rattle.miniserde_value.proofs.json.reader.take_name.Goals as goal

pub returns-in-Seq-clause-builds : goal.returns-in-Seq-clause-builds
returns-in-Seq-clause-builds c = λ first s i p.
    element_builds c.args.once (hole_in c.args.builder.now) c.args.kind first i c.in-Seq.is p

pub returns-in_err-name-clause-invalid : goal.returns-in_err-name-clause-invalid
returns-in_err-name-clause-invalid c = λ first s i p e.
    let w = err_from_is_err_and c.from_residual.result c.from_residual.ensures.1 in
    let h = hole_in c.args.builder.now in
    stuck c.args.once (state_before first h s)
    (name_ends (kinds h) _ c.args.kind first (innermost_of_kinds h ∙ i) c.in_default.is p
    (c.in_err-name.ensures.invalid (cc (w.1, w.2, e)) c.requires))

pub returns-in_err-copy-clause-invalid : goal.returns-in_err-copy-clause-invalid
returns-in_err-copy-clause-invalid c = λ first s i p e.
    let w = err_from_is_err_and c.from_residual-in_err-copy.result c.from_residual-in_err-copy.ensures.1 in
    let h = hole_in c.args.builder.now in
    let member : MemberNext h first s _ _ =
    record {
      container = c.args.kind;
      names = _;
      inside = i;
      is_object = c.in_default.is;
      follows = p;
      is_name = c.in_ok-name.ensures.ok;
    } in
    repeat_gives c.args.once member
    (ap (λ z. c.args.once && has_member z h) (sym c.text.ensures) ∙ c.in_err-copy.ensures.invalid (cc (w.1, w.2, e)))

pub returns-clause-builds : goal.returns-clause-builds
returns-clause-builds c = λ first s i p.
    let h = hole_in c.args.builder.now in
    let member : MemberNext h first s _ _ =
    record {
      container = c.args.kind;
      names = _;
      inside = i;
      is_object = c.in_default.is;
      follows = p;
      is_name = c.in_ok-name.ensures.ok;
    } in
    key_builds c.args.once member
    (ap (λ z. c.args.once && has_member z h) (sym c.text.ensures) ∙ c.in_ok-copy.ensures.new)
    (ap (λ z. with_name z h) (c.in_ok-copy.ensures.ok ∙ c.text.ensures))

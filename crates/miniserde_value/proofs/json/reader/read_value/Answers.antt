-- `read_value` returns the value kept of the tree that begins with `token`, or `Invalid` if no such tree is kept. The
-- hole built so far is the invariant (`Builds`), and each exit is a lemma over plain variables
-- (`proofs/Builds.antt`).
use Rattle.std.proofs.Common.{◌≡◌, None, Some, is_some, option_map, sym, ap, ◌∙◌}
use Rattle.miniserde_text.specs.Lexer.{event_of_token}
use Rattle.miniserde_text.specs.private.Moments.{opened_kind}
use Rattle.miniserde_value.specs.Builders.{hole_in}
use Rattle.miniserde_value.specs.Hole.{after_begin}
use Rattle.miniserde_value.specs.Retained.{retained_tree}
use Rattle.miniserde_value.specs.Values.{content_of}
use Rattle.miniserde_value.specs.private.Builds.{state_before}
use Rattle.miniserde_read.proofs.Calls.{reads_failed, reads_value}
use Rattle.miniserde_value.proofs.Builds.{begins, BuiltSince, builds_init, Builds-append, pending_begun, read_ok, read_none}
use Rattle.miniserde_value.proofs.json.reader.read_value.Goals as goal

pub loop-kind-init : goal.loop-kind-init
loop-kind-init c =
    let e = event_of_token c.args.token c.args.source.now.scratch in
    record {
      going = c.requires.going;
      unnamed = pending_begun _ _ _ c.in_ok-first.ensures.ok;
      builds = builds_init c.args.once e (hole_in c.begin.new.self) c.in_ok-first.first c.args.source.now.rest
          (c.in_ok-first.ensures.opens ∙ ap (λ z. is_some (opened_kind z)) c.step.ensures)
          (ap (after_begin e) (sym c.new-builder.ensures) ∙ ap (λ z. after_begin z (hole_in c.new-builder.result))
          (sym c.step.ensures) ∙ c.in_ok-first.ensures.ok);
    }

pub returns-in_err-first : goal.returns-in_err-first
returns-in_err-first c = reads_failed _ c.from_residual.ensures.1 (λ x.
    absurd (begins c.args.token c.args.source.now.scratch (hole_in c.new-builder.result)
    (ap (λ z. after_begin z (hole_in c.new-builder.result)) (sym c.step.ensures)
    ∙ c.in_err-first.ensures.invalid x)))

pub loop-kind-preserved : goal.loop-kind-preserved
loop-kind-preserved c =
    let e = event_of_token c.args.token c.args.source.now.scratch in
    record {
      going = c.in_ok-first-2.ensures.going;
      unnamed = c.in_ok-first-2.ensures.unnamed;
      builds = Builds-append c.args.once c.loop-kind.invariant.builds c.in_ok-first-2.ensures.builds;
    }

pub returns-in_err-first-2 : goal.returns-in_err-first-2
returns-in_err-first-2 c = reads_failed _ c.from_residual-in_err-first-2.ensures.1 (λ x.
    let e = event_of_token c.args.token c.args.source.now.scratch in
    let since : BuiltSince c.args.once e c.args.source.now.rest
    (state_before c.loop-kind.first (hole_in c.loop-kind.builder) c.loop-kind.source.rest) =
    record {
      hole = hole_in c.begin.new.self;
      is_hole = ap (after_begin e) (sym c.new-builder.ensures) ∙ ap (λ z. after_begin z (hole_in c.new-builder.result))
          (sym c.step.ensures) ∙ c.in_ok-first.ensures.ok;
      builds = c.loop-kind.invariant.builds;
    } in
    read_none c.args.once since (c.in_err-first-2.ensures.invalid x))

pub unreachable-requires : goal.unreachable-requires
unreachable-requires c =
    let e = event_of_token c.args.token c.args.source.now.scratch in
    let since : BuiltSince c.args.once e c.args.source.now.rest
    (state_before c.loop-kind.first (hole_in c.loop-kind.builder) c.loop-kind.source.rest) =
    record {
      hole = hole_in c.begin.new.self;
      is_hole = ap (after_begin e) (sym c.new-builder.ensures) ∙ ap (λ z. after_begin z (hole_in c.new-builder.result))
          (sym c.step.ensures) ∙ c.in_ok-first.ensures.ok;
      builds = c.loop-kind.invariant.builds;
    } in
    let read = read_ok c.args.once c.args.token c.args.source.now.scratch c.loop-kind.first (hole_in c.loop-kind.builder)
    (sym c.innermost.ensures ∙ c.in_default.is) since in
    let none : None ≡ Some (retained_tree read.0) = ap (option_map content_of) (sym c.in-None.is) ∙ c.into_value.ensures ∙ read.2 in
    cc

pub returns : goal.returns
returns c =
    let e = event_of_token c.args.token c.args.source.now.scratch in
    let since : BuiltSince c.args.once e c.args.source.now.rest
    (state_before c.loop-kind.first (hole_in c.loop-kind.builder) c.loop-kind.source.rest) =
    record {
      hole = hole_in c.begin.new.self;
      is_hole = ap (after_begin e) (sym c.new-builder.ensures) ∙ ap (λ z. after_begin z (hole_in c.new-builder.result))
          (sym c.step.ensures) ∙ c.in_ok-first.ensures.ok;
      builds = c.loop-kind.invariant.builds;
    } in
    let read = read_ok c.args.once c.args.token c.args.source.now.scratch c.loop-kind.first (hole_in c.loop-kind.builder)
    (sym c.innermost.ensures ∙ c.in_default.is) since in
    reads_value _ c.loop-kind.invariant.going
    (read.0, read.1, sym read.3 ∙ sym c.into_value.ensures ∙ ap (option_map content_of) c.in-Some-into_value.is)

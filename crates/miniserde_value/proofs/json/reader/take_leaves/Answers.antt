-- Each turn builds exactly the events that it passes, up to the first token of a child (`child_builds`), and the end
-- builds the closing one (`close_builds`). What fails after them leaves no value (`never_behind`).
use Rattle.std.proofs.Common.{◌<◌, length, true, false, sym, subst, ◌∙◌, arith}
use Rattle.std.proofs.lemmas.Result.{err_from_is_err_and}
use Rattle.miniserde_model.specs.Lexing.{Follows}
use Rattle.miniserde_text.specs.Lexer.{is_close}
use Rattle.miniserde_text.proofs.Consumes.{after_ends}
use Rattle.miniserde_text.proofs.FirstEvents.{start_less}
use Rattle.miniserde_read.specs.Events.{EventInRange}
use Rattle.miniserde_read.proofs.Length.{follows_least}
use Rattle.miniserde_read.proofs.Tokens.{start_event}
use Rattle.miniserde_value.specs.Builders.{hole_in}
use Rattle.miniserde_value.specs.private.Builds.{kinds, state_before}
use Rattle.miniserde_value.proofs.Builds.{innermost_of_kinds, child_builds, close_builds, Builds-append, leaf_stays}
use Rattle.miniserde_value.proofs.Builds.{pending_begun, stuck, never_behind}
use Rattle.miniserde_value.proofs.json.reader.take_leaves.Goals as goal

pub returns-in_err-after-clause-invalid : goal.returns-in_err-after-clause-invalid
returns-in_err-after-clause-invalid c = λ e.
    let w = err_from_is_err_and c.from_residual.result c.from_residual.ensures.1 in
    let h = hole_in c.loop-source.builder in
    never_behind c.args.once c.loop-source.invariant.builds
    (stuck c.args.once (state_before c.loop-source.first h c.loop-source.source.rest)
    (after_ends (kinds h) c.args.kind c.loop-source.first
    (innermost_of_kinds h ∙ c.loop-source.invariant.inside)
    (c.in_err-after.ensures.invalid (cc (w.1, w.2, e)) c.loop-source.invariant.going)))

pub begin_child-requires-clause-event : goal.begin_child-requires-clause-event
begin_child-requires-clause-event c =
    subst (λ z. EventInRange z) (sym c.step.ensures) (start_event _ _ _ c.in_ok-token.ensures.ok)

pub returns-then-branch-clause-builds : goal.returns-then-branch-clause-builds
returns-then-branch-clause-builds c =
    let s = c.loop-source.source.rest in
    let p : Follows c.args.kind c.loop-source.first false s c.after.new.self.rest =
    subst (λ z. Follows c.args.kind c.loop-source.first (is_close z) s c.after.new.self.rest) c.in-Next.is
    c.in_ok-after.ensures.ok in
    child_builds c.args.once c.loop-source.invariant.builds
    (c.in_ok-name.ensures.builds c.loop-source.first s c.loop-source.invariant.inside p)
    c.in_ok-token.ensures.ok c.step.ensures (sym c.if-branch.true ∙ c.in_ok-begin_child.ensures.opens)
    c.in_ok-begin_child.ensures.ok

pub loop-source-smaller : goal.loop-source-smaller
loop-source-smaller c =
    let p : Follows c.args.kind c.loop-source.first false c.loop-source.source.rest c.after.new.self.rest =
    subst (λ z. Follows c.args.kind c.loop-source.first (is_close z) c.loop-source.source.rest c.after.new.self.rest)
    c.in-Next.is c.in_ok-after.ensures.ok in
    let less : length c.token.new.self.rest < length c.loop-source.source.rest = omega (
      arith,
      c.in_ok-name.ensures.shorter,
      follows_least c.args.kind c.loop-source.first false _ _ p,
      start_less _ _ _ c.in_ok-token.ensures.ok,
    ) in
    less

pub loop-source-preserved : goal.loop-source-preserved
loop-source-preserved c =
    let s = c.loop-source.source.rest in
    let p : Follows c.args.kind c.loop-source.first false s c.after.new.self.rest =
    subst (λ z. Follows c.args.kind c.loop-source.first (is_close z) s c.after.new.self.rest) c.in-Next.is
    c.in_ok-after.ensures.ok in
    let leaf = sym c.if-branch.false ∙ c.in_ok-begin_child.ensures.opens in
    record {
      going = c.in_ok-token.ensures.first_error.kept;
      unnamed = pending_begun _ _ _ c.in_ok-begin_child.ensures.ok;
      inside = leaf_stays _ _ _ _ c.in_ok-begin_child.ensures.ok leaf ∙ c.loop-source.invariant.inside;
      shorter = omega (
        arith,
        c.loop-source.invariant.shorter,
        c.in_ok-name.ensures.shorter,
        follows_least c.args.kind c.loop-source.first false _ _ p,
        start_less _ _ _ c.in_ok-token.ensures.ok,
      );
      builds = child_builds c.args.once c.loop-source.invariant.builds
          (c.in_ok-name.ensures.builds c.loop-source.first s c.loop-source.invariant.inside p)
          c.in_ok-token.ensures.ok c.step.ensures leaf c.in_ok-begin_child.ensures.ok;
    }

pub returns-clause-builds : goal.returns-clause-builds
returns-clause-builds c =
    let s = c.loop-source.source.rest in
    let p : Follows c.args.kind c.loop-source.first true s c.after.new.self.rest =
    subst (λ z. Follows c.args.kind c.loop-source.first (is_close z) s c.after.new.self.rest) c.in_default.is
    c.in_ok-after.ensures.ok in
    Builds-append c.args.once c.loop-source.invariant.builds
    (close_builds c.args.once (hole_in c.loop-source.builder) c.args.kind c.loop-source.first c.loop-source.invariant.inside p)

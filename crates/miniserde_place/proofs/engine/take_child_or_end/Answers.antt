-- `take_child_or_end` passes exactly the events that it hands to the place. Each exit is one lemma of `Moved.antt`,
-- chosen by the kind of the container and by what the lexer returned.
use Rattle.std.proofs.Common.{true, false, sym, subst, arith, true≢false}
use Rattle.std.proofs.lemmas.Result.{err_from_is_err_and}
use Rattle.miniserde_model.specs.Step.{key, element, finish}
use Rattle.miniserde_model.specs.Lexing.{Names, Follows}
use Rattle.miniserde_text.specs.Lexer.{is_close}
use Rattle.miniserde_text.proofs.Consumes.{close_passed, element_passed, key_passed, after_ends, name_ends}
use Rattle.miniserde_place.specs.private.EngineRuns.{state_before}
use Rattle.miniserde_place.proofs.Moved.{moved_one, rejects_one, never_rejects}
use Rattle.miniserde_place.proofs.Spelled.{close_spellable, element_spellable, key_spellable}
use Rattle.miniserde_read.proofs.Length.{follows_least, stands_least}
use Rattle.miniserde_place.proofs.engine.take_child_or_end.Goals as goal

pub returns-in_err-after-clause-invalid : goal.returns-in_err-after-clause-invalid
returns-in_err-after-clause-invalid g c = λ e.
    let w = err_from_is_err_and c.from_residual.result c.from_residual.ensures.1 in
    never_rejects (state_before c.args.first c.args.stack.now c.args.source.now.rest (g.V.Visitor.meaning.view c.args.place.now))
    (after_ends _ c.args.kind c.args.first c.requires.inside
    (c.in_err-after.ensures.invalid (cc (w.1, w.2, e)) c.requires.going))

pub returns-in_err-step-in-Close-clause-invalid : goal.returns-in_err-step-in-Close-clause-invalid
returns-in_err-step-in-Close-clause-invalid g c = λ e.
    let w = err_from_is_err_and c.from_residual-in_err-step-in-Close.result c.from_residual-in_err-step-in-Close.ensures.1 in
    let p : Follows c.args.kind c.args.first true c.args.source.now.rest c.after.new.self.rest =
    subst (λ z. Follows c.args.kind c.args.first (is_close z) c.args.source.now.rest c.after.new.self.rest)
    c.in-Close.is c.in_ok-after.ensures.ok in
    rejects_one (state_before c.args.first c.args.stack.now c.args.source.now.rest (g.V.Visitor.meaning.view c.args.place.now)) finish
    (close_passed c.args.kind c.args.first c.requires.inside p c.pop.ensures)
    (c.in_err-step-in-Close.ensures.takes.rejects (cc (w.1, w.2, e)) c.requires.unrefused)

pub returns-in_err-step-in-Seq-clause-invalid : goal.returns-in_err-step-in-Seq-clause-invalid
returns-in_err-step-in-Seq-clause-invalid g c = λ e.
    let w = err_from_is_err_and c.from_residual-in_err-step-in-Seq.result c.from_residual-in_err-step-in-Seq.ensures.1 in
    let p : Follows c.args.kind c.args.first false c.args.source.now.rest c.after.new.self.rest =
    subst (λ z. Follows c.args.kind c.args.first (is_close z) c.args.source.now.rest c.after.new.self.rest)
    c.in-Next.is c.in_ok-after.ensures.ok in
    rejects_one (state_before c.args.first c.args.stack.now c.args.source.now.rest (g.V.Visitor.meaning.view c.args.place.now)) element
    (element_passed c.args.kind c.args.first c.requires.inside c.in-Seq.is p)
    (c.in_err-step-in-Seq.ensures.takes.rejects (cc (w.1, w.2, e)) c.requires.unrefused)

pub returns-in_err-name-in-Map-clause-invalid : goal.returns-in_err-name-in-Map-clause-invalid
returns-in_err-name-in-Map-clause-invalid g c = λ e.
    let w = err_from_is_err_and c.from_residual-in_err-name-in-Map.result c.from_residual-in_err-name-in-Map.ensures.1 in
    let p : Follows c.args.kind c.args.first false c.args.source.now.rest c.after.new.self.rest =
    subst (λ z. Follows c.args.kind c.args.first (is_close z) c.args.source.now.rest c.after.new.self.rest)
    c.in-Next.is c.in_ok-after.ensures.ok in
    never_rejects (state_before c.args.first c.args.stack.now c.args.source.now.rest (g.V.Visitor.meaning.view c.args.place.now))
    (name_ends _ _ c.args.kind c.args.first c.requires.inside c.in-Map.is p
    (c.in_err-name-in-Map.ensures.invalid (cc (w.1, w.2, e)) c.in_ok-after.ensures.first_error.kept))

pub returns-in_err-step-in-Map-clause-invalid : goal.returns-in_err-step-in-Map-clause-invalid
returns-in_err-step-in-Map-clause-invalid g c = λ e.
    let w = err_from_is_err_and c.from_residual-in_err-step-in-Map.result c.from_residual-in_err-step-in-Map.ensures.1 in
    let p : Follows c.args.kind c.args.first false c.args.source.now.rest c.after.new.self.rest =
    subst (λ z. Follows c.args.kind c.args.first (is_close z) c.args.source.now.rest c.after.new.self.rest)
    c.in-Next.is c.in_ok-after.ensures.ok in
    let n : Names c.after.new.self.rest c.text.result.now c.name.new.self.rest =
    subst (λ z. Names c.after.new.self.rest z c.name.new.self.rest) (sym c.text.ensures)
    c.in_ok-name-in-Map.ensures.ok in
    rejects_one (state_before c.args.first c.args.stack.now c.args.source.now.rest (g.V.Visitor.meaning.view c.args.place.now))
    (key c.text.result.now) (key_passed c.args.kind c.args.first c.requires.inside c.in-Map.is p n)
    (c.in_err-step-in-Map.ensures.takes.rejects (cc (w.1, w.2, e)) c.requires.unrefused)

pub returns-in_ok-step-in-Close-clause-moved : goal.returns-in_ok-step-in-Close-clause-moved
returns-in_ok-step-in-Close-clause-moved g c =
    let p : Follows c.args.kind c.args.first true c.args.source.now.rest c.after.new.self.rest =
    subst (λ z. Follows c.args.kind c.args.first (is_close z) c.args.source.now.rest c.after.new.self.rest)
    c.in-Close.is c.in_ok-after.ensures.ok in
    moved_one (state_before c.args.first c.args.stack.now c.args.source.now.rest (g.V.Visitor.meaning.view c.args.place.now))
    _ finish
    (close_passed c.args.kind c.args.first c.requires.inside p c.pop.ensures)
    (close_spellable _ _ c.args.first c.requires.inside c.pop.ensures)
    c.in_ok-step-in-Close.ensures.takes.advances

pub returns-in_ok-step-in-Seq-clause-moved : goal.returns-in_ok-step-in-Seq-clause-moved
returns-in_ok-step-in-Seq-clause-moved g c =
    let p : Follows c.args.kind c.args.first false c.args.source.now.rest c.after.new.self.rest =
    subst (λ z. Follows c.args.kind c.args.first (is_close z) c.args.source.now.rest c.after.new.self.rest)
    c.in-Next.is c.in_ok-after.ensures.ok in
    moved_one (state_before c.args.first c.args.stack.now c.args.source.now.rest (g.V.Visitor.meaning.view c.args.place.now))
    _ element
    (element_passed c.args.kind c.args.first c.requires.inside c.in-Seq.is p)
    (element_spellable _ c.args.first c.requires.inside c.in-Seq.is)
    c.in_ok-step-in-Seq.ensures.takes.advances

pub returns-in_ok-step-in-Map-clause-moved : goal.returns-in_ok-step-in-Map-clause-moved
returns-in_ok-step-in-Map-clause-moved g c =
    let p : Follows c.args.kind c.args.first false c.args.source.now.rest c.after.new.self.rest =
    subst (λ z. Follows c.args.kind c.args.first (is_close z) c.args.source.now.rest c.after.new.self.rest)
    c.in-Next.is c.in_ok-after.ensures.ok in
    let n : Names c.after.new.self.rest c.text.result.now c.name.new.self.rest =
    subst (λ z. Names c.after.new.self.rest z c.name.new.self.rest) (sym c.text.ensures)
    c.in_ok-name-in-Map.ensures.ok in
    moved_one (state_before c.args.first c.args.stack.now c.args.source.now.rest (g.V.Visitor.meaning.view c.args.place.now))
    _
    (key c.text.result.now) (key_passed c.args.kind c.args.first c.requires.inside c.in-Map.is p n)
    (key_spellable _ c.args.first c.requires.inside c.in-Map.is n)
    c.in_ok-step-in-Map.ensures.takes.advances

pub returns-in_ok-step-in-Map-clause-less : goal.returns-in_ok-step-in-Map-clause-less
returns-in_ok-step-in-Map-clause-less g c =
    let p : Follows c.args.kind c.args.first false c.args.source.now.rest c.after.new.self.rest =
    subst (λ z. Follows c.args.kind c.args.first (is_close z) c.args.source.now.rest c.after.new.self.rest)
    c.in-Next.is c.in_ok-after.ensures.ok in
    let a = follows_least c.args.kind c.args.first false c.args.source.now.rest c.after.new.self.rest p in
    let b = stands_least c.after.new.self.rest c.name.new.self.rest c.in_ok-name-in-Map.ensures.ok in
    (omega (arith, a, b), λ e. absurd (true≢false e))

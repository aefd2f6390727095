-- The text at the index that `after_space` returns is the rest without its whitespace. From there, `follows` turns
-- the result of `take_punctuation` into `Follows`, and `follows_only` says that after `None` nothing follows. What
-- follows has a byte, so there was no error (`unrefused`).
use Rattle.std.proofs.Common.{◌≡◌, None, Some, drop, sym, subst, arith}
use Rattle.miniserde_model.specs.Bytes.{is_space}
use Rattle.miniserde_model.specs.Lexing.{Follows}
use Rattle.miniserde_text.specs.Lexer.{is_close}
use Rattle.miniserde_text.specs.private.Reading.{after_run, punctuation_at}
use Rattle.miniserde_text.proofs.Options.{none_is_some}
use Rattle.miniserde_text.proofs.Steps.{follows, follows_only}
use Rattle.miniserde_text.proofs.NothingLeft.{follows_some, unrefused, if_unrefused, no_error}
use Rattle.miniserde_text.proofs.json.lex.Lexer.after.Goals as goal

-- what was taken follows the rest
taken : (c : goal.After-self-1)
    → Follows c.args.kind c.args.first (is_close c.in-Some.answer) (drop c.self.inside.at c.self.inside.text.now)
    (drop c.in-Some.end c.self.inside.text.now)
taken c =
    let t = drop c.after_space-at.result.0 c.self.inside.text.now in
    let from : t ≡ after_run is_space (drop c.self.inside.at c.self.inside.text.now) = grind arith in
    let read : punctuation_at c.args.kind c.args.first t
    ≡ Some (is_close c.in-Some.answer, drop c.in-Some.end c.self.inside.text.now) = grind arith in
    follows _ c.args.first _ t _ from read

-- there was no error
fresh : (c : goal.After-self-1) → c.self.inside.refused ≡ None
fresh c = unrefused _ _ c.self.invariant (follows_some _ _ _ _ _ (taken c))

pub invariant_of-self : goal.invariant_of-self
invariant_of-self c = if_unrefused _ _ (fresh c)

pub returns-in-Some-clause-ok : goal.returns-in-Some-clause-ok
returns-in-Some-clause-ok c =
    let rest : c.args.self.now.rest ≡ drop c.self.inside.at c.self.inside.text.now = grind arith in
    subst (λ s. Follows c.args.kind c.args.first (is_close c.in-Some.answer) s (drop c.in-Some.end c.self.inside.text.now))
    (sym rest) (taken c)

pub returns-in-Some-clause-first_error : goal.returns-in-Some-clause-first_error
returns-in-Some-clause-first_error c =
    let none = fresh c in
    let before : c.args.self.now.refused ≡ None = grind arith in
    no_error _ _ _ before none

pub returns-in-Some-clause-unchanged : goal.returns-in-Some-clause-unchanged
returns-in-Some-clause-unchanged c =
    let none = fresh c in
    let before : c.args.self.now.refused ≡ None = grind arith in
    if_unrefused _ _ before

pub returns-in-None-clause-invalid : goal.returns-in-None-clause-invalid
returns-in-None-clause-invalid c is none a r h =
    let t = drop c.after_space-at.result.0 c.self.inside.text.now in
    let from : t ≡ after_run is_space c.args.self.now.rest = grind arith in
    let read : punctuation_at c.args.kind c.args.first t ≡ None = grind arith in
    none_is_some _ (a, r) read (follows_only _ c.args.first _ t (a, r) from h)

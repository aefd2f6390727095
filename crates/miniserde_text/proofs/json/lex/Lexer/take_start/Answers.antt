-- The text at the index that `after_space` returns is the rest without its whitespace. Each clause of `take_token` on
-- that text gives the clause on the rest by one lemma of `Tokens`. A token has a byte, so if one was taken, there was
-- no error (`unrefused`).
use Rattle.std.proofs.Common.{◌≡◌, ◌∙◌, None, Err, drop, ap, arith}
use Rattle.miniserde_model.specs.Bytes.{is_space}
use Rattle.miniserde_model.specs.declared.error.Error.TheVariants.{Invalid, Memory}
use Rattle.miniserde_text.specs.private.Reading.{after_run}
use Rattle.miniserde_text.proofs.Tokens.{start_takes, start_only, text_behind, backslash_behind}
use Rattle.miniserde_text.proofs.NothingLeft.{start_some, unrefused, no_error}
use Rattle.miniserde_text.proofs.json.lex.Lexer.take_start.Goals as goal

pub returns-in-Ok-clause-ok : goal.returns-in-Ok-clause-ok
returns-in-Ok-clause-ok g c =
    let from : drop c.after_space-at.result.0 c.self.inside.text.now ≡ after_run is_space c.args.self.now.rest = grind arith in
    let q = c.in-Ok.ensures.ok in
    let starts = start_takes c.args.self.now.rest (drop c.after_space-at.result.0 c.self.inside.text.now) _ _ from q.1 in
    (q.0, starts, q.2)

pub returns-in-Ok-clause-first_error : goal.returns-in-Ok-clause-first_error
returns-in-Ok-clause-first_error g c =
    let from : drop c.after_space-at.result.0 c.self.inside.text.now ≡ after_run is_space c.args.self.now.rest = grind arith in
    let q = c.in-Ok.ensures.ok in
    let starts = start_takes c.args.self.now.rest (drop c.after_space-at.result.0 c.self.inside.text.now) _ _ from q.1 in
    let some = start_some _ _ _ starts in
    let rest : c.args.self.now.rest ≡ drop c.self.inside.at c.self.inside.text.now = grind arith in
    let none = unrefused _ _ c.self.invariant (λ gone. some (rest ∙ gone)) in
    let before : c.args.self.now.refused ≡ None = grind arith in
    no_error _ _ _ before none

pub returns-in-Ok-clause-text : goal.returns-in-Ok-clause-text
returns-in-Ok-clause-text g c =
    let from : drop c.after_space-at.result.0 c.self.inside.text.now ≡ after_run is_space c.args.self.now.rest = grind arith in
    text_behind _ (drop c.after_space-at.result.0 c.self.inside.text.now) c.in-Ok.event
    (drop c.in-Ok.end c.self.inside.text.now) from c.in-Ok.ensures.text

pub returns-in-Err-clause-invalid : goal.returns-in-Err-clause-invalid
returns-in-Err-clause-invalid g c is fresh e r h =
    let from : drop c.after_space-at.result.0 c.self.inside.text.now ≡ after_run is_space c.args.self.now.rest = grind arith in
    let first = c.refuse.ensures.first fresh in
    let v : c.in-Err.e ≡ Invalid = cc in
    c.in-Err.ensures.invalid (ap Err v) e r (start_only _ (drop c.after_space-at.result.0 c.self.inside.text.now) e r from h)

pub returns-in-Err-clause-memory : goal.returns-in-Err-clause-memory
returns-in-Err-clause-memory g c is fresh =
    let from : drop c.after_space-at.result.0 c.self.inside.text.now ≡ after_run is_space c.args.self.now.rest = grind arith in
    let first = c.refuse.ensures.first fresh in
    let v : c.in-Err.e ≡ Memory = cc in
    let m = c.in-Err.ensures.memory (ap Err v) in
    backslash_behind _ (drop c.after_space-at.result.0 c.self.inside.text.now) from m.0 m.1

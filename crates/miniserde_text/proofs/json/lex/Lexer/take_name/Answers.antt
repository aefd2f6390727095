-- `name` takes whitespace, a name and its colon, and returns `Invalid` only if no name follows. Each fact of
-- `take_name`, about the text behind the whitespace, is carried over to the whole text (`names_of`, `names_only`). A name has a byte, so
-- if one was taken, there was no error (`unrefused`).
use Rattle.std.proofs.Common.{◌≡◌, ◌∙◌, None, Err, drop, ap, arith}
use Rattle.miniserde_model.specs.Bytes.{is_space}
use Rattle.miniserde_model.specs.Value.{Between}
use Rattle.miniserde_model.specs.Lexing.{BeforeColon}
use Rattle.miniserde_model.specs.declared.error.Error.TheVariants.{Invalid, Memory}
use Rattle.miniserde_text.specs.Lexer.{BorrowedIfPlain}
use Rattle.miniserde_text.specs.private.Reading.{after_run}
use Rattle.miniserde_text.proofs.ByteRuns.{stands_of}
use Rattle.miniserde_text.proofs.Tokens.{backslash_behind}
use Rattle.miniserde_text.proofs.Names.{names_of, names_only}
use Rattle.miniserde_text.proofs.NothingLeft.{name_some, unrefused, no_error}
use Rattle.miniserde_text.proofs.json.lex.Lexer.take_name.Goals as goal

pub returns-in-Ok-clause-ok : goal.returns-in-Ok-clause-ok
returns-in-Ok-clause-ok g c =
    let from : drop c.after_space-at.result.0 c.self.inside.text.now ≡ after_run is_space c.args.self.now.rest = grind arith in
    let q = c.in-Ok.ensures.ok in
    let named = names_of c.args.self.now.rest (drop c.after_space-at.result.0 c.self.inside.text.now) _ _ from q.1 in
    (q.0, named, q.2)

pub returns-in-Ok-clause-first_error : goal.returns-in-Ok-clause-first_error
returns-in-Ok-clause-first_error g c =
    let from : drop c.after_space-at.result.0 c.self.inside.text.now ≡ after_run is_space c.args.self.now.rest = grind arith in
    let q = c.in-Ok.ensures.ok in
    let named = names_of c.args.self.now.rest (drop c.after_space-at.result.0 c.self.inside.text.now) _ _ from q.1 in
    let some = name_some _ _ _ named in
    let rest : c.args.self.now.rest ≡ drop c.self.inside.at c.self.inside.text.now = grind arith in
    let none = unrefused _ _ c.self.invariant (λ gone. some (rest ∙ gone)) in
    let before : c.args.self.now.refused ≡ None = grind arith in
    no_error _ _ _ before none

pub returns-in-Ok-clause-text : goal.returns-in-Ok-clause-text
returns-in-Ok-clause-text g c =
    let from : drop c.after_space-at.result.0 c.self.inside.text.now ≡ after_run is_space c.args.self.now.rest = grind arith in
    stands_of (BeforeColon (Between 34 (BorrowedIfPlain c.in-Ok.text) 34)) _
    (drop c.after_space-at.result.0 c.self.inside.text.now) (drop c.in-Ok.end c.self.inside.text.now) from
    c.in-Ok.ensures.text

pub returns-in-Err-clause-invalid : goal.returns-in-Err-clause-invalid
returns-in-Err-clause-invalid g c is fresh n r h =
    let from : drop c.after_space-at.result.0 c.self.inside.text.now ≡ after_run is_space c.args.self.now.rest = grind arith in
    let first = c.refuse.ensures.first fresh in
    let v : c.in-Err.e ≡ Invalid = cc in
    c.in-Err.ensures.invalid (ap Err v) n r (names_only _ (drop c.after_space-at.result.0 c.self.inside.text.now) n r from h)

pub returns-in-Err-clause-memory : goal.returns-in-Err-clause-memory
returns-in-Err-clause-memory g c is fresh =
    let from : drop c.after_space-at.result.0 c.self.inside.text.now ≡ after_run is_space c.args.self.now.rest = grind arith in
    let first = c.refuse.ensures.first fresh in
    let v : c.in-Err.e ≡ Memory = cc in
    let m = c.in-Err.ensures.memory (ap Err v) in
    backslash_behind _ (drop c.after_space-at.result.0 c.self.inside.text.now) from m.0 m.1

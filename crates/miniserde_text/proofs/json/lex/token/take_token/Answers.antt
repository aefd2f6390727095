-- Behind a quote each fact is one of `take_string`. Elsewhere the functions on lists tell what is read, and that it is
-- no string.
use Rattle.std.proofs.Common.{◌≡◌, ◌≢◌, Err, Some, None, ℕ, List, [], drop, slice_index, ap, subst, arith}
use Rattle.std.specs.Str.{encode_utf8_all}
use Rattle.std.specs.String.{string_bytes}
use Rattle.std.proofs.lemmas.Result.{err_from_is_err_and}
use Rattle.miniserde_model.specs.declared.error.Error.TheVariants.{Invalid, Memory}
use Rattle.miniserde_text.specs.Lexer.{event_of_token}
use Rattle.miniserde_text.specs.private.Reading.{token_at}
use Rattle.miniserde_text.specs.private.LexerParts.{SpellsUpToQuote, ReachesBackslash}
use Rattle.miniserde_text.proofs.Tokens.{string_taken, string_refused, front_takes, front_refused, read_text, read_spelled, keeps}
use Rattle.miniserde_text.proofs.Tokens.{string_text}
use Rattle.miniserde_text.proofs.json.lex.token.take_token.Goals as goal

pub returns-in_err-text-clause-invalid : goal.returns-in_err-text-clause-invalid
returns-in_err-text-clause-invalid g c is e r h =
    let s = drop c.args.at c.args.text.now in
    let next : drop c.index_after.result c.args.text.now ≡ drop 1 s = grind arith in
    let q = err_from_is_err_and c.from_residual.result c.from_residual.ensures.1 in
    let v : c.in_err-text.field-0.0 ≡ Invalid = cc (q.1, q.2) in
    let at : slice_index s 0 ≡ 34 = grind arith in
    string_refused s at (subst (λ x. (cs r : List ℕ) → SpellsUpToQuote cs x r → ⊥) next (c.in_err-text.ensures.invalid (ap Err v))) e r h

pub returns-in_err-text-clause-memory : goal.returns-in_err-text-clause-memory
returns-in_err-text-clause-memory g c is =
    let s = drop c.args.at c.args.text.now in
    let next : drop c.index_after.result c.args.text.now ≡ drop 1 s = grind arith in
    let q = err_from_is_err_and c.from_residual.result c.from_residual.ensures.1 in
    let v : c.in_err-text.field-0.0 ≡ Memory = cc (q.1, q.2) in
    let at : slice_index s 0 ≡ 34 = grind arith in
    (at, subst ReachesBackslash next (c.in_err-text.ensures.memory (ap Err v)))

pub returns-then-first-eq34-clause-ok : goal.returns-then-first-eq34-clause-ok
returns-then-first-eq34-clause-ok g c =
    let s = drop c.args.at c.args.text.now in
    let next : drop c.index_after.result c.args.text.now ≡ drop 1 s = grind arith in
    let at : slice_index s 0 ≡ 34 = grind arith in
    let q = c.in_ok-text.ensures.ok in
    let chars = subst (λ x. SpellsUpToQuote q.0 x (drop c.in_ok-text.end c.args.text.now)) next q.1 in
    (encode_utf8_all q.0, string_taken q.0 s _ (drop c.in_ok-text.end c.args.text.now) at chars q.2, q.3)

pub returns-then-first-eq34-clause-text : goal.returns-then-first-eq34-clause-text
returns-then-first-eq34-clause-text g c =
    let s = drop c.args.at c.args.text.now in
    let next : drop c.index_after.result c.args.text.now ≡ drop 1 s = grind arith in
    let at : slice_index s 0 ≡ 34 = grind arith in
    string_text c.in_ok-text.text s (drop c.index_after.result c.args.text.now)
    (drop c.in_ok-text.end c.args.text.now) at next c.in_ok-text.ensures.text

pub returns-in-Some-clause-ok : goal.returns-in-Some-clause-ok
returns-in-Some-clause-ok g c =
    let s = drop c.args.at c.args.text.now in
    let away : slice_index s 0 ≢ 34 = λ e. grind arith in
    let read : token_at s ≡ Some (event_of_token c.in-Some.taken.0 [], drop c.in-Some.taken.1 c.args.text.now) = grind arith in
    let taken = front_takes s (event_of_token c.in-Some.taken.0 []) (drop c.in-Some.taken.1 c.args.text.now) read in
    ([], taken, read_spelled g.S.Spelling.spelled s (string_bytes c.args.scratch.now) c.in-Some.taken.0 _ away taken)

pub returns-in-Some-clause-text : goal.returns-in-Some-clause-text
returns-in-Some-clause-text g c =
    let s = drop c.args.at c.args.text.now in
    let away : slice_index s 0 ≢ 34 = λ e. grind arith in
    let read : token_at s ≡ Some (event_of_token c.in-Some.taken.0 [], drop c.in-Some.taken.1 c.args.text.now) = grind arith in
    read_text s c.in-Some.taken.0 _ away (front_takes s _ _ read)

pub returns-in-Some-clause-unchanged : goal.returns-in-Some-clause-unchanged
returns-in-Some-clause-unchanged g c = keeps c.in-Some.taken.0 _

pub returns-in-None-clause-invalid : goal.returns-in-None-clause-invalid
returns-in-None-clause-invalid g c is e r h =
    let s = drop c.args.at c.args.text.now in
    let away : slice_index s 0 ≢ 34 = λ e. grind arith in
    let read : token_at s ≡ None = grind arith in
    front_refused s away read e r h

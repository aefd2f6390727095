-- A name is put together from the string of `take_string`, the whitespace and the colon. Where a part is missing, no
-- name stands there.
use Rattle.std.proofs.Common.{◌≡◌, ◌≢◌, Err, ℕ, List, drop, slice_index, ap, subst, arith}
use Rattle.std.specs.Str.{encode_utf8_all}
use Rattle.std.proofs.lemmas.Result.{err_from_is_err_and}
use Rattle.miniserde_model.specs.Value.{Between}
use Rattle.miniserde_model.specs.declared.error.Error.TheVariants.{Invalid, Memory}
use Rattle.miniserde_text.specs.Lexer.{BorrowedIfPlain}
use Rattle.miniserde_model.specs.Bytes.{is_space}
use Rattle.miniserde_text.specs.private.Reading.{after_run}
use Rattle.miniserde_text.specs.private.LexerParts.{SpellsUpToQuote, ReachesBackslash}
use Rattle.miniserde_text.proofs.Strings.{string_leads}
use Rattle.miniserde_text.proofs.Tokens.{string_text}
use Rattle.miniserde_text.proofs.Names.{colon_leads, colon_of, colon_only, colon_behind, name_quote, no_string-no_name}
use Rattle.miniserde_text.proofs.json.lex.token.take_name.Goals as goal

pub returns-then-first-ne34-clause-invalid : goal.returns-then-first-ne34-clause-invalid
returns-then-first-ne34-clause-invalid g c is n r h =
    let s = drop c.args.at c.args.text.now in
    let at = name_quote s n r h in absurd (grind arith)

pub returns-in_err-name-clause-invalid : goal.returns-in_err-name-clause-invalid
returns-in_err-name-clause-invalid g c is n r h =
    let s = drop c.args.at c.args.text.now in
    let next : drop c.index_after.result c.args.text.now ≡ drop 1 s = grind arith in
    let q = err_from_is_err_and c.from_residual.result c.from_residual.ensures.1 in
    let e : c.in_err-name.field-0.0 ≡ Invalid = cc (q.1, q.2) in
    no_string-no_name s n r h (subst (λ x. (cs r : List ℕ) → SpellsUpToQuote cs x r → ⊥) next (c.in_err-name.ensures.invalid (ap Err e)))

pub returns-in_err-name-clause-memory : goal.returns-in_err-name-clause-memory
returns-in_err-name-clause-memory g c is =
    let s = drop c.args.at c.args.text.now in
    let next : drop c.index_after.result c.args.text.now ≡ drop 1 s = grind arith in
    let q = err_from_is_err_and c.from_residual.result c.from_residual.ensures.1 in
    let e : c.in_err-name.field-0.0 ≡ Memory = cc (q.1, q.2) in
    let at : slice_index s 0 ≡ 34 = grind arith in
    (at, subst ReachesBackslash next (c.in_err-name.ensures.memory (ap Err e)))

pub returns-then-byte-ne58-clause-invalid : goal.returns-then-byte-ne58-clause-invalid
returns-then-byte-ne58-clause-invalid g c is n r h =
    let s = drop c.args.at c.args.text.now in
    let next : drop c.index_after.result c.args.text.now ≡ drop 1 s = grind arith in
    let rest = drop c.in_ok-name.end c.args.text.now in
    let space : drop c.after_space-colon.result.0 c.args.text.now ≡ after_run is_space rest = grind arith in
    let q = c.in_ok-name.ensures.ok in
    let at : slice_index s 0 ≡ 34 = grind arith in
    let away : slice_index (drop c.after_space-colon.result.0 c.args.text.now) 0 ≢ 58 = λ e. grind arith in
    let string = string_leads q.0 s _ rest at (subst (λ x. SpellsUpToQuote q.0 x rest) next q.1) q.2 in
    away (colon_only rest _ r space (colon_behind s n r _ rest h string))

pub returns-clause-ok : goal.returns-clause-ok
returns-clause-ok g c =
    let s = drop c.args.at c.args.text.now in
    let next : drop c.index_after.result c.args.text.now ≡ drop 1 s = grind arith in
    let rest = drop c.in_ok-name.end c.args.text.now in
    let space : drop c.after_space-colon.result.0 c.args.text.now ≡ after_run is_space rest = grind arith in
    let last : drop c.index_after-2.result c.args.text.now ≡ drop 1 (drop c.after_space-colon.result.0 c.args.text.now) = grind arith in
    let q = c.in_ok-name.ensures.ok in
    let at : slice_index s 0 ≡ 34 = grind arith in
    let colon : slice_index (drop c.after_space-colon.result.0 c.args.text.now) 0 ≡ 58 = grind arith in
    let chars = subst (λ x. SpellsUpToQuote q.0 x rest) next q.1 in
    let taken = colon_leads _ s rest _ (string_leads q.0 s _ rest at chars q.2) (colon_of rest _ _ space colon last) in
    (encode_utf8_all q.0, taken, q.3)

pub returns-clause-text : goal.returns-clause-text
returns-clause-text g c =
    let s = drop c.args.at c.args.text.now in
    let next : drop c.index_after.result c.args.text.now ≡ drop 1 s = grind arith in
    let rest = drop c.in_ok-name.end c.args.text.now in
    let space : drop c.after_space-colon.result.0 c.args.text.now ≡ after_run is_space rest = grind arith in
    let last : drop c.index_after-2.result c.args.text.now ≡ drop 1 (drop c.after_space-colon.result.0 c.args.text.now) = grind arith in
    let at : slice_index s 0 ≡ 34 = grind arith in
    let colon : slice_index (drop c.after_space-colon.result.0 c.args.text.now) 0 ≡ 58 = grind arith in
    let text = c.in_ok-name.name in
    colon_leads (Between 34 (BorrowedIfPlain text) 34) s rest _
    (string_text text s (drop c.index_after.result c.args.text.now) rest at next c.in_ok-name.ensures.text)
    (colon_of rest _ _ space colon last)

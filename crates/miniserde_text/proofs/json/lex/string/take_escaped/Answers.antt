-- The invariant says which characters were passed and added. Each turn adds that of an escape (`escape_adds`) and
-- those of the run after it. A quote ends the string, and any other byte but a backslash begins no piece.
use Rattle.std.proofs.Common.{◌≡◌, ◌∷◌, Err, length, drop, slice_index, sym, ap, subst, arith}
use Rattle.std.proofs.lemmas.Result.{err_from_is_err_and}
use Rattle.miniserde_model.specs.declared.error.Error.TheVariants.{Invalid}
use Rattle.miniserde_text.specs.private.LexerParts.{SpellsUpToQuote, Adds}
use Rattle.miniserde_text.proofs.Strings.{adds_nil, adds_then, escape_adds, at_backslash, no_escape, escape_shorter}
use Rattle.miniserde_text.proofs.Strings.{end_refused, rest_refused, string_of}
use Rattle.miniserde_text.proofs.json.lex.string.take_escaped.Goals as goal

pub escapes-init : goal.escapes-init
escapes-init g c = adds_nil g.S.Spelling.spelled g.S.Spelling.joins _ _

pub returns-in_err-rest-clause-invalid : goal.returns-in_err-rest-clause-invalid
returns-in_err-rest-clause-invalid g c is cs r h =
    let s = g.S.Spelling in
    let p = err_from_is_err_and c.from_residual.result c.from_residual.ensures.1 in
    let e : c.in_err-rest.field-0.0 ≡ Invalid = cc (p.1, p.2) in
    rest_refused s.spelled s.joins _ _ _ _ c.escapes.invariant
    (no_escape (drop c.escapes.next c.args.text.now) (c.in_err-rest.ensures.invalid (ap Err e))) cs r h

pub escapes-smaller-then-byte_at-eq92 : goal.escapes-smaller-then-byte_at-eq92
escapes-smaller-then-byte_at-eq92 g c =
    let text = c.args.text.now in
    let e = c.in_ok-rest.ensures.ok in
    let at : slice_index (drop c.in_ok-rest.rest text) 0 ≡ 92 = grind arith in
    let next : drop c.index_after-next.result text ≡ drop 1 (drop c.in_ok-rest.rest text) = grind arith in
    let split = at_backslash text c.in_ok-rest.rest c.index_after-next.result at next in
    omega (arith, ap length split, escape_shorter (drop c.escapes.next text) e.0 (drop c.in_ok-rest.rest text) e.1)

pub escapes-preserved-then-byte_at-eq92 : goal.escapes-preserved-then-byte_at-eq92
escapes-preserved-then-byte_at-eq92 g c =
    let s = g.S.Spelling in
    let text = c.args.text.now in
    let e = c.in_ok-rest.ensures.ok in
    let at : slice_index (drop c.in_ok-rest.rest text) 0 ≡ 92 = grind arith in
    let next : drop c.index_after-next.result text ≡ drop 1 (drop c.in_ok-rest.rest text) = grind arith in
    subst (Adds s.spelled _ _ (92 ∷ drop c.args.at text)) (at_backslash text c.in_ok-rest.rest c.index_after-next.result at next)
    (escape_adds s.spelled s.joins _ _ _ _ (drop c.escapes.next text) e.0 (drop c.in_ok-rest.rest text) c.escapes.invariant e.1 e.2)

pub escapes-smaller : goal.escapes-smaller
escapes-smaller g c =
    let text = c.args.text.now in
    let e = c.in_ok-rest.ensures.ok in
    let at : slice_index (drop c.in_ok-tail.tail text) 0 ≡ 92 = grind arith in
    let next : drop c.index_after-next-in-92.result text ≡ drop 1 (drop c.in_ok-tail.tail text) = grind arith in
    let split = at_backslash text c.in_ok-tail.tail c.index_after-next-in-92.result at next in
    let escape = escape_shorter (drop c.escapes.next text) e.0 (drop c.in_ok-rest.rest text) e.1 in
    omega (arith, ap length split, escape, c.in_ok-tail.ensures.shorter)

pub escapes-preserved : goal.escapes-preserved
escapes-preserved g c =
    let s = g.S.Spelling in
    let text = c.args.text.now in
    let e = c.in_ok-rest.ensures.ok in
    let at : slice_index (drop c.in_ok-tail.tail text) 0 ≡ 92 = grind arith in
    let next : drop c.index_after-next-in-92.result text ≡ drop 1 (drop c.in_ok-tail.tail text) = grind arith in
    subst (Adds s.spelled _ _ (92 ∷ drop c.args.at text)) (at_backslash text c.in_ok-tail.tail c.index_after-next-in-92.result at next)
    (adds_then s.spelled s.joins _ _ _ _ _ _
    (escape_adds s.spelled s.joins _ _ _ _ (drop c.escapes.next text) e.0 (drop c.in_ok-rest.rest text) c.escapes.invariant e.1 e.2)
    c.in_ok-tail.ensures.ok)

pub returns-in-34-clause-ok : goal.returns-in-34-clause-ok
returns-in-34-clause-ok g c =
    let s = g.S.Spelling in
    let text = c.args.text.now in
    let e = c.in_ok-rest.ensures.ok in
    let at : slice_index (drop c.in_ok-tail.tail text) 0 ≡ 34 = grind arith in
    let next : drop c.index_after.result text ≡ drop 1 (drop c.in_ok-tail.tail text) = grind arith in
    let escape = escape_adds s.spelled s.joins _ _ _ _ (drop c.escapes.next text) e.0 (drop c.in_ok-rest.rest text)
    c.escapes.invariant e.1 e.2 in
    let turn = adds_then s.spelled s.joins _ _ _ _ _ _ escape c.in_ok-tail.ensures.ok in
    let p = string_of s.spelled s.joins _ _ (92 ∷ drop c.args.at text) (drop c.in_ok-tail.tail text) turn at in
    (p.0, subst (λ x. SpellsUpToQuote p.0 (92 ∷ drop c.args.at text) x) (sym next) p.1, p.2)

pub returns-in_default-clause-invalid : goal.returns-in_default-clause-invalid
returns-in_default-clause-invalid g c is cs r h =
    let s = g.S.Spelling in
    let text = c.args.text.now in
    let e = c.in_ok-rest.ensures.ok in
    let escape = escape_adds s.spelled s.joins _ _ _ _ (drop c.escapes.next text) e.0 (drop c.in_ok-rest.rest text)
    c.escapes.invariant e.1 e.2 in
    let turn = adds_then s.spelled s.joins _ _ _ _ _ _ escape c.in_ok-tail.ensures.ok in
    end_refused s.spelled s.joins _ _ (92 ∷ drop c.args.at text) (drop c.in_ok-tail.tail text) turn c.in_ok-tail.ensures.stops
    (λ e. grind arith) (λ e. grind arith) cs r h

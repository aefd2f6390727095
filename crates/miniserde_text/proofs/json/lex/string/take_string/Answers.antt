-- The run at the front passes its characters. A quote ends the string there. Where a backslash stands, the characters
-- of `take_decoded` are joined to them.
use Rattle.std.proofs.Common.{◌≡◌, ◌∷◌, ◌++◌, ℕ, List, Err, drop, slice_index, refl, sym, ap, subst, ◌∙◌, arith}
use Rattle.std.specs.Str.{encode_utf8_all, IsUtf8, IsCharBoundary}
use Rattle.std.proofs.lemmas.Result.{err_from_is_err_and}
use Rattle.std.proofs.lemmas.Str.{encodes-append, IsUtf8-drop}
use Rattle.miniserde_model.specs.declared.error.Error.TheVariants.{Invalid}
use Rattle.miniserde_text.specs.private.Reading.{after_run, before, is_unescaped, FollowsAscii}
use Rattle.miniserde_text.specs.private.LexerParts.{SpellsUpToQuote, PassesCharacters}
use Rattle.miniserde_text.proofs.Indices.{follows_boundary}
use Rattle.miniserde_text.proofs.Strings.{run_of, run_special, quote_ends, no_chars, run_refused}
use Rattle.miniserde_text.proofs.Strings.{run_inside, escaped_inside, reaches_backslash}
use Rattle.miniserde_text.proofs.json.lex.string.take_string.Goals as goal

pub text_between-requires-clause-from : goal.text_between-requires-clause-from
text_between-requires-clause-from g c = follows_boundary c.args.text.now c.args.at c.utf8.text c.requires

module _ (text : List ℕ) (at tail : ℕ) (utf8 : IsUtf8 text) (follows : FollowsAscii text at)
    (value : drop tail text ≡ after_run is_unescaped (drop at text)) (boundary : IsCharBoundary text tail) where
  run : (ds : List ℕ) × PassesCharacters ds (drop at text) (drop tail text) × (before (drop at text) (drop tail text) ≡ encode_utf8_all ds)
  run = run_of (drop at text) (drop tail text) value
      (IsUtf8-drop text at utf8 (follows_boundary text at utf8 follows)) (IsUtf8-drop text tail utf8 boundary)

pub returns-in-34-clause-ok : goal.returns-in-34-clause-ok
returns-in-34-clause-ok g c =
    let text = c.args.text.now in
    let s = drop c.args.at text in
    let tail = c.after_unescaped_in_lanes-tail in
    let t = drop tail.result text in
    let p = run text c.args.at tail.result c.utf8.text c.requires tail.ensures.value tail.ensures.boundary in
    let at : slice_index t 0 ≡ 34 = grind arith in
    let next : drop c.index_after.result text ≡ drop 1 t = grind arith in
    (p.0, subst (λ x. SpellsUpToQuote p.0 s x) (sym next) (quote_ends p.0 s t p.1 at), c.text_between.ensures ∙ p.2, tt)

pub returns-in_ok-end-in-92-clause-ok : goal.returns-in_ok-end-in-92-clause-ok
returns-in_ok-end-in-92-clause-ok g c =
    let text = c.args.text.now in
    let tail = c.after_unescaped_in_lanes-tail in
    let p = run text c.args.at tail.result c.utf8.text c.requires tail.ensures.value tail.ensures.boundary in
    let q = c.in_ok-end-in-92.ensures.ok in (
      p.0 ++ q.0,
      p.1.on q.0 (drop c.in_ok-end-in-92.end text) q.1,
      refl,
      q.2 ∙ ap g.S.Spelling.spelled (ap (λ x. x ++ encode_utf8_all q.0) p.2 ∙ sym (encodes-append p.0 q.0)),
    )

pub returns-in_err-end-in-92-clause-invalid : goal.returns-in_err-end-in-92-clause-invalid
returns-in_err-end-in-92-clause-invalid g c is cs r h =
    let text = c.args.text.now in
    let tail = c.after_unescaped_in_lanes-tail in
    let p = run text c.args.at tail.result c.utf8.text c.requires tail.ensures.value tail.ensures.boundary in
    let q = err_from_is_err_and c.from_residual.result c.from_residual.ensures.1 in
    let e : c.in_err-end-in-92.field-0.0 ≡ Invalid = cc (q.1, q.2) in
    run_refused p.1 (c.in_err-end-in-92.ensures.invalid (ap Err e)) cs r h

pub returns-in_default-clause-invalid : goal.returns-in_default-clause-invalid
returns-in_default-clause-invalid g c is cs r h =
    let text = c.args.text.now in
    let s = drop c.args.at text in
    let tail = c.after_unescaped_in_lanes-tail in
    let t = drop tail.result text in
    let p = run text c.args.at tail.result c.utf8.text c.requires tail.ensures.value tail.ensures.boundary in
    run_refused p.1 (no_chars t (run_special s t tail.ensures.value) (λ e. grind arith) (λ e. grind arith)) cs r h

pub returns-in-34-clause-text : goal.returns-in-34-clause-text
returns-in-34-clause-text g c =
    let text = c.args.text.now in
    let t = drop c.after_unescaped_in_lanes-tail.result text in
    let at : slice_index t 0 ≡ 34 = grind arith in
    let next : drop c.index_after.result text ≡ drop 1 t = grind arith in
    let s = drop c.args.at text in
    let q = run_inside s t c.after_unescaped_in_lanes-tail.ensures.value at in
    (before s t, q.0 ∙ ap (λ r. before s t ++ 34 ∷ r) (sym next), (sym c.text_between.ensures, q.1))

pub returns-in_ok-end-in-92-clause-text : goal.returns-in_ok-end-in-92-clause-text
returns-in_ok-end-in-92-clause-text g c =
    let text = c.args.text.now in
    let t = drop c.after_unescaped_in_lanes-tail.result text in
    let at : slice_index t 0 ≡ 92 = grind arith in
    let q = c.in_ok-end-in-92.ensures.ok in
    escaped_inside (drop c.args.at text) t (drop c.in_ok-end-in-92.end text) q.0 c.after_unescaped_in_lanes-tail.ensures.value at q.1

pub returns-in_err-end-in-92-clause-memory : goal.returns-in_err-end-in-92-clause-memory
returns-in_err-end-in-92-clause-memory g c is =
    let text = c.args.text.now in
    let t = drop c.after_unescaped_in_lanes-tail.result text in
    let at : slice_index t 0 ≡ 92 = grind arith in
    reaches_backslash (drop c.args.at text) t c.after_unescaped_in_lanes-tail.ensures.value at

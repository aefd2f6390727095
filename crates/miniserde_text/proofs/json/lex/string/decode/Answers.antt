-- `at` follows an ASCII byte, so it is a character boundary (`follows_boundary`), which `text_between` requires. The run
-- up to `tail` has no special byte (`plain_run`), and the spelling of the whole is that of the run and of the rest.
use Rattle.std.proofs.Common.{◌≡◌, ◌++◌, ◌∙◌, ◌∷◌, ℕ, List, drop, false, ap, sym, subst, arith}
use Rattle.std.specs.List.{AllByRecursion}
use Rattle.std.specs.Str.{encode_utf8_all}
use Rattle.std.specs.String.{string_bytes}
use Rattle.std.proofs.lemmas.Result.{IfOk-weaker}
use Rattle.miniserde_model.specs.Bytes.{is_special}
use Rattle.miniserde_text.specs.private.Reading.{before}
use Rattle.miniserde_text.specs.private.LexerParts.{SpellsUpToQuote}
use Rattle.miniserde_text.proofs.Indices.{follows_boundary}
use Rattle.miniserde_text.proofs.Strings.{plain_run, at_backslash}
use Rattle.miniserde_text.proofs.json.lex.string.decode.Goals as goal

pub text_between-requires-clause-from : goal.text_between-requires-clause-from
text_between-requires-clause-from g c = follows_boundary c.args.text.now c.args.at c.utf8.text c.requires.follows

pub returns-clause-ok : goal.returns-clause-ok
returns-clause-ok g c =
    let text = c.args.text.now in
    let s = g.S.Spelling in
    let front = before (drop c.args.at text) (drop c.args.tail text) in
    let t = drop c.args.tail text in
    let run = plain_run (drop c.args.at text) t c.requires.run in
    let plain = subst (AllByRecursion (λ c. is_special c ≡ false)) (sym c.text_between.ensures) run.0 in
    let pushed : string_bytes c.push_run.new.scratch ≡ s.spelled front =
    c.in_ok-push_run.ensures.ok plain ∙ ap (λ x. x ++ s.spelled c.text_between.result.now) c.clear.ensures.bytes
    ∙ ap s.spelled c.text_between.ensures in
    let next : drop c.index_after.result text ≡ drop 1 t = grind arith in
    let split = at_backslash text c.args.tail c.index_after.result c.requires.backslash next in
    IfOk-weaker c.take_escaped.result
    (λ r. (cs : List ℕ) × SpellsUpToQuote cs (92 ∷ drop c.index_after.result text) (drop r text)
    × (string_bytes c.take_escaped.new.scratch ≡ string_bytes c.push_run.new.scratch ++ s.spelled (encode_utf8_all cs)))
    (λ r. (cs : List ℕ) × SpellsUpToQuote cs t (drop r text)
    × (string_bytes c.take_escaped.new.scratch ≡ s.spelled (front ++ encode_utf8_all cs)))
    (λ r p. (
      p.0,
      subst (λ x. SpellsUpToQuote p.0 x (drop r text)) (sym split) p.1,
      p.2 ∙ ap (λ x. x ++ s.spelled (encode_utf8_all p.0)) pushed ∙ sym (s.joins front (encode_utf8_all p.0)),
    )) c.take_escaped.ensures.ok

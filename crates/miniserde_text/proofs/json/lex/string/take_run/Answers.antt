-- The run ends where `after_unescaped` says. Its characters are passed, and none of its bytes is special (`run_adds`).
use Rattle.std.proofs.Common.{◌≡◌, drop, ◌++◌, ◌∙◌, ap, sym, subst, false}
use Rattle.std.specs.List.{AllByRecursion}
use Rattle.std.specs.String.{string_bytes}
use Rattle.std.proofs.lemmas.Str.{IsUtf8-drop}
use Rattle.miniserde_model.specs.Bytes.{is_special}
use Rattle.miniserde_text.proofs.Indices.{follows_boundary}
use Rattle.miniserde_text.proofs.Strings.{run_adds, run_special, plain_run}
use Rattle.miniserde_text.proofs.json.lex.string.take_run.Goals as goal

pub text_between-requires-clause-from : goal.text_between-requires-clause-from
text_between-requires-clause-from g c = follows_boundary c.args.text.now c.args.at c.utf8.text c.requires

pub returns-clause-ok : goal.returns-clause-ok
returns-clause-ok g c =
    let text = c.args.text.now in
    let s = g.S.Spelling in
    let next = c.after_unescaped-next in
    let run = plain_run (drop c.args.at text) (drop next.result text) next.ensures.value in
    let plain = subst (AllByRecursion (λ c. is_special c ≡ false)) (sym c.text_between.ensures) run.0 in
    run_adds s.spelled g.S.Spelling.joins _ _ (drop c.args.at text) (drop next.result text) next.ensures.value
    (IsUtf8-drop text c.args.at c.utf8.text (follows_boundary text c.args.at c.utf8.text c.requires))
    (IsUtf8-drop text next.result c.utf8.text next.ensures.boundary)
    (c.in_ok-push_run.ensures.ok plain ∙ ap (λ x. string_bytes c.args.scratch.now ++ s.spelled x) c.text_between.ensures)

pub returns-clause-stops : goal.returns-clause-stops
returns-clause-stops g c = run_special (drop c.args.at c.args.text.now) _ c.after_unescaped-next.ensures.value

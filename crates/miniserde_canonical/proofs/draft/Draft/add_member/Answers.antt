-- The member begins at the end of the text with its run (`run_length`). It is the last one of the state
-- (`holding_begun`), and `spell` changes the text and the run alone (`keep_holding`).
use Rattle.std.proofs.Common.{rules, ◌≡◌, ◌+◌, length, [], ◌∷◌, ◌++◌, refl, sym, ap, ◌∙◌, arith}
use Rattle.miniserde_model.specs.Ascii.{name_separator}
use Rattle.miniserde_model.specs.Compact.{string_text}
use Rattle.miniserde_model.specs.Tokens.{comma_before}
use Rattle.miniserde_text.specs.Lexer.{text_of}
use Rattle.miniserde_canonical.specs.declared.spread.Point.{Point}
use Rattle.miniserde_canonical.specs.private.MemberNames.{name_of}
use Rattle.miniserde_canonical.proofs.DraftSteps.{keep_holding, holding_begun}
use Rattle.miniserde_canonical.proofs.InputRuns.{run_length}
use Rattle.miniserde_canonical.proofs.draft.Draft.add_member.Goals as goal

pub returns : goal.returns
returns c = λ rest part rest' before s s' t h k p i a.
    let n = text_of c.args.text c.args.scratch.now in
    let point : c.in_ok-ok_or.field-0 ≡ length c.args.self.now.out.bytes.items + c.saturating_sub-run.result = search rules in
    let splices : c.len-2.result ≡ length c.args.self.now.out.splices.items = search rules in
    let here : c.in_ok-ok_or.field-0 ≡ length (before ++ comma_before s.first) =
    run_length c.args.span.at _ t k.at
    (point ∙ ap (λ z. length c.args.self.now.out.bytes.items + z) c.saturating_sub-run.ensures) in
    record {
      bytes = (before ++ comma_before s.first) ++ (string_text n ++ name_separator ∷ []);
      wrote = c.in_ok-spell.ensures.wrote rest part rest' (before ++ comma_before s.first)
          (record { front = t.front; run = t.run; input = t.input; left = t.left; text = t.text }) k p;
      holding = keep_holding c.in_ok-spell.ensures.only_text
          (holding_begun {d = c.args.self.now} c.new-2.result n
          (record {
            keeps = record { splices = refl; groups = refl; groups_splices = refl; distinct = refl };
            members = c.in_ok-push.ensures.items;
            opened = refl;
          })
          (record {
            name = ap name_of c.new-2.ensures.name ∙ c.in_ok-name.ensures;
            first = c.new-2.ensures.first ∙ sym i;
            bytes = omega (arith, ap (λ (z : Point). z.bytes) c.new-2.ensures.point, here);
            splices = omega (arith, ap (λ (z : Point). z.splices) c.new-2.ensures.point, splices);
          }) a h);
    }

-- `-0` and a string with escapes are written anew (`rewritten`), and `{` opens an object in the state
-- (`holding_opened`). Any other first token of a value stays in the run (`stays`).
use Rattle.std.proofs.Common.{rules, ◌≡◌, pos, ◌++◌, ◌∷◌, [], length, refl, sym, ap, subst, ◌∙◌}
use Rattle.miniserde_model.specs.Ascii.{begin_object, quotation_mark, digit_0}
use Rattle.miniserde_model.specs.Compact.{compact, string_text}
use Rattle.miniserde_model.specs.Normal.{norm_neg}
use Rattle.miniserde_text.specs.Lexer.{event_of_token, text_of, SpelledText, SpelledToken}
use Rattle.miniserde_text.specs.private.Escape.{escapes}
use Rattle.miniserde_text.proofs.EscapeRule.{quoted_escapes}
use Rattle.miniserde_canonical.specs.private.EventTokens.{first_token}
use Rattle.miniserde_canonical.specs.private.Plain.{PartIsToken}
use Rattle.miniserde_canonical.specs.private.States.{TokenStep, AddsBytes}
use Rattle.miniserde_canonical.specs.private.Drafts.{Wrote}
use Rattle.miniserde_canonical.proofs.DraftSteps.{holding_opened, rewritten, stays}
use Rattle.miniserde_canonical.proofs.InputRuns.{wrote_on, rewound, as_negative, IsOtherToken, as_it_is, string_stands, decimal_zero}
use Rattle.miniserde_canonical.proofs.draft.Draft.token.Goals as goal

pub returns-then-n-ne0-clause-takes : goal.returns-then-n-ne0-clause-takes
returns-then-n-ne0-clause-takes c = λ rest part rest' x s s' r takes w p h.
    let q = subst (λ z. PartIsToken z x part) c.in-Negative.is p in
    let a = subst (λ z. TokenStep (first_token (event_of_token z x)) s s') c.in-Negative.is h in
    stays part rest'
    (subst (λ z. AddsBytes z s s') (sym (as_negative c.in-Negative.n part q.0 (search rules))) a.0) r takes.text

pub returns-in_ok-push-in-Negative-clause-takes : goal.returns-in_ok-push-in-Negative-clause-takes
returns-in_ok-push-in-Negative-clause-takes c = λ rest part rest' x s s' r takes w p h.
    let zero : c.in-Negative.n ≡ pos 0 = search rules in
    let a = subst (λ z. TokenStep (first_token (event_of_token z x)) s s') c.in-Negative.is h in
    let k = c.in_ok-flush-in-Negative.ensures in
    let q = k.wrote rest r.bytes r.wrote takes.at in
    let same = k.only_text in
    rewritten (digit_0 ∷ []) (subst (λ z. AddsBytes z s s') (ap (λ z. compact (norm_neg z)) zero ∙ decimal_zero) a.0) r
    (record {
      splices = same.splices;
      groups = same.groups;
      groups_splices = same.groups_splices;
      members = same.members;
      opened = same.opened;
      distinct = same.distinct;
    })
    (rewound part q.0 takes.text
    (record {
      input = refl;
      left = takes.end;
      text_is = c.in_ok-push-in-Negative.ensures.items ∙ ap (λ z. z ++ digit_0 ∷ []) q.1;
    }))

pub returns-in_ok-put_quoted-in-Str-clause-takes : goal.returns-in_ok-put_quoted-in-Str-clause-takes
returns-in_ok-put_quoted-in-Str-clause-takes c = λ rest part rest' x s s' r takes w p h.
    let a = subst (λ z. TokenStep (first_token (event_of_token z x)) s s') c.in-Str.is h in
    let k = c.in_ok-flush-in-Str.ensures in
    let inside : c.args.escaped.now ≡ escapes x =
    subst (λ z. SpelledText escapes z c.args.escaped.now x) c.in-Scratch.is
    (subst (λ z. SpelledToken escapes z c.args.escaped.now x) c.in-Str.is w) in
    let text : quotation_mark ∷ (c.args.escaped.now ++ quotation_mark ∷ []) ≡ string_text x =
    ap (λ z. quotation_mark ∷ (z ++ quotation_mark ∷ [])) inside ∙ sym (quoted_escapes x) in
    let q = k.wrote rest r.bytes r.wrote takes.at in
    let same = k.only_text in
    rewritten (string_text x) (subst (λ z. AddsBytes (string_text (text_of z x)) s s') c.in-Scratch.is a.0) r
    (record {
      splices = same.splices;
      groups = same.groups;
      groups_splices = same.groups_splices;
      members = same.members;
      opened = same.opened;
      distinct = same.distinct;
    })
    (rewound part q.0 takes.text
    (record {
      input = refl;
      left = takes.end;
      text_is = c.in_ok-put_quoted-in-Str.ensures ∙ ap (λ z. c.flush-in-Scratch.new.self.out.bytes.items ++ z) text
          ∙ ap (λ z. z ++ string_text x) q.1;
    }))

pub returns-in_default-text-clause-takes : goal.returns-in_default-text-clause-takes
returns-in_default-text-clause-takes c = λ rest part rest' x s s' r takes w p h.
    let q = subst (λ z. PartIsToken z x part) c.in-Str.is p in
    let a = subst (λ z. TokenStep (first_token (event_of_token z x)) s s') c.in-Str.is h in
    stays part rest'
    (subst (λ z. AddsBytes z s s') (string_stands c.in-Str.text x part c.in_default-text.not-Scratch q.1) a.0) r takes.text

pub returns-in-SeqStart-clause-takes : goal.returns-in-SeqStart-clause-takes
returns-in-SeqStart-clause-takes c = λ rest part rest' x s s' r takes w p h.
    let q = subst (λ z. PartIsToken z x part) c.in-SeqStart.is p in
    let a = subst (λ z. TokenStep (first_token (event_of_token z x)) s s') c.in-SeqStart.is h in
    stays part rest' (subst (λ z. AddsBytes z s s') (sym q.0) a.0) r takes.text

pub returns-in-MapStart-clause-takes : goal.returns-in-MapStart-clause-takes
returns-in-MapStart-clause-takes c = λ rest part rest' x s s' r takes w p h.
    let q = subst (λ z. PartIsToken z x part) c.in-MapStart.is p in
    let o = subst (λ z. TokenStep (first_token (event_of_token z x)) s s') c.in-MapStart.is h in
    let d = c.args.self.now in
    let number : c.len.result ≡ length d.members.items = search rules in
    let w : Wrote d rest' (r.bytes ++ begin_object ∷ []) =
    subst (λ z. Wrote d rest' (r.bytes ++ z)) q.0 (wrote_on part rest' r.wrote takes.text) in
    record {
      bytes = r.bytes ++ begin_object ∷ [];
      wrote = record { front = w.front; run = w.run; input = w.input; left = w.left; text = w.text };
      holding = holding_opened (record { splices = refl; groups = refl; groups_splices = refl; distinct = refl }) refl
          (c.in_ok-push-in-MapStart.ensures.items ∙ ap (λ z. d.opened.items ++ z ∷ []) number) o r.holding;
    }

pub returns-in_default-clause-takes : goal.returns-in_default-clause-takes
returns-in_default-clause-takes c = λ rest part rest' x s s' r takes w p h.
    let n = c.in_default in
    let other : IsOtherToken c.args.token = record {
      not_negative = n.not-Negative;
      not_string = n.not-Str;
      not_object = n.not-MapStart;
    } in
    stays part rest' (as_it_is c.args.token x part other p s s' h) r takes.text

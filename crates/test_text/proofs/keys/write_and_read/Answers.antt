-- The text of the key is read as what the law `back` says, and so is any key that is read.
use Rattle.std.proofs.Common.{◌≡◌, ap, sym, ◌∙◌, refl}
use Rattle.std.proofs.lemmas.Option.{same_Some}
use Rattle.std.proofs.lemmas.Result.{IfOk-weaker}
use Rattle.std.proofs.lemmas.Slice.Eq.{bytes_eq-Decides}
use Rattle.test_text.proofs.keys.write_and_read.Goals as goal

pub returns-clause-equal : goal.returns-clause-equal
returns-clause-equal g c =
    let k = g.K.MapKey in
    let laws = g.met.K.MapKey in
    let key = c.args.key.now in
    let b = laws.back key c.ranged.ensures in
    let text : c.as_str.result.now ≡ k.text key = rw (c.as_str.ensures.value, c.in_ok-to_key.ensures.ok, c.new-name.ensures.bytes) refl in
    IfOk-weaker c.from_key.result _ _
    (λ v h. laws.alike v key ∙ (bytes_eq-Decides _ _).1
    (ap k.code (same_Some _ _ (sym h ∙ ap k.read text ∙ b.2)) ∙ b.3)) c.from_key.ensures.value

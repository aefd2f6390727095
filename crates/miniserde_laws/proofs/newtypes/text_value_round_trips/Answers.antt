-- The value itself; another value that the string means has its content, and so its text.
use Rattle.std.proofs.Common.{◌≡◌, Option, Some, ap, sym, ◌∙◌}
use Rattle.miniserde_model.specs.Tree.{str}
use Rattle.miniserde_laws.proofs.newtypes.text_value_round_trips.Goals as goal

same : {C : Type 0} (c d : C) → ◌≡◌ {A = Option C} (Some c) (Some d) → c ≡ d
same c d e = cc

pub returns : goal.returns
returns g c = λ v r.
    let t = g.T.TextValue in
    ((v, r, r), λ w s e. ap (λ x. str (t.text x)) (same (t.content w) (t.content v) (sym e ∙ r)))

-- The text spells the tree of the value, which is valid.
use Rattle.std.proofs.Common.{sym, subst}
use Rattle.std.proofs.lemmas.Result.{err_from_is_err_and}
use Rattle.miniserde_model.specs.Value.{IsJson}
use Rattle.miniserde_laws.proofs.round_trip.write_and_read.Goals as goal

pub returns-clause-same : goal.returns-clause-same
returns-clause-same g c =
    let t = g.T.Serialize.tree c.args.value.now in
    let spells : IsJson c.as_str.result.now t = subst (λ z. IsJson z t) (sym c.as_str.ensures.value) c.in_ok-text.ensures.spells in
    c.in_ok-read.ensures.same c.args.value.now c.ranged.ensures spells

pub returns-clause-itself : goal.returns-clause-itself
returns-clause-itself g c = λ only. only c.in_ok-read.read c.in_ok-read.ensures.valid (returns-clause-same g c)

pub returns-in_err-read-clause-memory : goal.returns-in_err-read-clause-memory
returns-in_err-read-clause-memory g c = λ e.
    let w = err_from_is_err_and c.from_residual-in_err-read.result c.from_residual-in_err-read.ensures.1 in
    let t = g.T.Serialize.tree c.args.value.now in
    let spells : IsJson c.as_str.result.now t = subst (λ z. IsJson z t) (sym c.as_str.ensures.value) c.in_ok-text.ensures.spells in
    c.in_err-read.ensures.stored (cc (w.1, w.2, e)) c.args.value.now c.ranged.ensures spells

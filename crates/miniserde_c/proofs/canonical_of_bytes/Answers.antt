-- Bytes that are no UTF-8 have no tree, since a text with a tree is UTF-8. Others are invalid if `canonical` says so, of
-- a text that is the bytes.
use Rattle.std.proofs.Common.{Err, sym, ap, subst}
use Rattle.miniserde_model.specs.Value.{IsJson}
use Rattle.miniserde_model.proofs.Utf8.{json_utf8}
use Rattle.miniserde_c.proofs.canonical_of_bytes.Goals as goal

pub returns-in_default-clause-invalid : goal.returns-in_default-clause-invalid
returns-in_default-clause-invalid c = λ _ t p. c.in_default.ensures (json_utf8 c.args.bytes.now t p)

pub returns-in-Err-clause-invalid : goal.returns-in-Err-clause-invalid
returns-in-Err-clause-invalid c = λ s t p.
    c.in-Err.ensures.invalid (ap Err (c.status_of.ensures.invalid s)) t (subst (λ xs. IsJson xs t) (sym c.in-Ok.ensures.0) p)

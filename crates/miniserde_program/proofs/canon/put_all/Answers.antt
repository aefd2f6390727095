-- The bytes up to `at` are written. Each write that takes n bytes appends the next n (`Appends_on`), and each failed
-- write leaves the bytes up to `at` as the part that was written.
use Rattle.std.proofs.Common.{arith, ◌+◌, ◌∙◌, take, drop, sym, take-append-drop}
use Rattle.std.proofs.KnownBytes.{Appends-kept}
use Rattle.miniserde_program.proofs.Written.{Appends_on, fits_on}
use Rattle.miniserde_program.proofs.canon.put_all.Goals as goal

pub returns-in-Ok-eq0-clause-part : goal.returns-in-Ok-eq0-clause-part
returns-in-Ok-eq0-clause-part g c =
    let i = c.loop-at.at in
    let xs = c.args.bytes.now in (
      take (i + c.in-Ok-eq0.field-0) xs,
      drop (i + c.in-Ok-eq0.field-0) xs,
      sym (take-append-drop _ _),
      Appends_on _ _ _ xs i _ c.loop-at.invariant.written c.in-Ok-eq0.ensures.bytes,
    )

pub loop-at-preserved : goal.loop-at-preserved
loop-at-preserved g c =
    let inv = c.loop-at.invariant in
    let fits = fits_on c.args.bytes.now c.loop-at.at c.in-Ok.n inv.within c.in-Ok.ensures.bound in
    record {
      within = fits;
      written = Appends_on _ _ _ c.args.bytes.now c.loop-at.at _ inv.written c.in-Ok.ensures.bytes;
      failures = c.in-Ok.ensures.taken (omega arith) ∙ inv.failures;
      flushes = c.write.ensures.flushes ∙ inv.flushes;
    }

pub returns-in-Err-clause-part : goal.returns-in-Err-clause-part
returns-in-Err-clause-part g c = (
  take c.loop-at.at c.args.bytes.now,
  drop c.loop-at.at c.args.bytes.now,
  sym (take-append-drop _ _),
  Appends-kept _ _ _ _ c.loop-at.invariant.written c.in-Err.ensures.bytes,
)

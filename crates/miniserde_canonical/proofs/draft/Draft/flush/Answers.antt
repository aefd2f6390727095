-- The part of the input that is appended is the run, so the text becomes the draft's bytes (`flushed`).
use Rattle.std.proofs.Common.{◌≡◌, ◌≤◌, length, refl, subst}
use Rattle.miniserde_canonical.specs.private.SplicedTexts.{part_between}
use Rattle.miniserde_canonical.proofs.InputRuns.{flushed}
use Rattle.miniserde_canonical.proofs.draft.Draft.flush.Goals as goal

pub returns-clause-wrote : goal.returns-clause-wrote
returns-clause-wrote c =
    let from = c.saturating_sub.result in
    let to = c.saturating_sub-2.result in
    flushed
    (record {
      piece = c.part-run.result.now;
      from = from;
      to = to;
      from_is = c.saturating_sub.ensures;
      to_is = c.saturating_sub-2.ensures;
      is_part = subst (λ z. from ≤ to → to ≤ length z → c.part-run.result.now ≡ part_between from to z)
          c.as_bytes-bytes.ensures.value c.part-run.ensures;
      appended = c.in_ok-extend_from_slice.ensures.items;
      input = refl;
    })

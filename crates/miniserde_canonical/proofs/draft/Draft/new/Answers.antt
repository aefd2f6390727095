-- A draft without bytes, splices and members represents the state `initial_state` (`draft_starts`).
use Rattle.std.proofs.Common.{refl}
use Rattle.miniserde_canonical.proofs.DraftSteps.{draft_starts}
use Rattle.miniserde_canonical.proofs.draft.Draft.new.Goals as goal

pub returns : goal.returns
returns c =
    draft_starts c.args.input.now refl refl
    (record {
      bytes = c.new.ensures.bytes;
      splices = c.new.ensures.splices;
      groups = c.new-2.ensures.bytes;
      groups_splices = c.new-2.ensures.splices;
      members = c.new-3.ensures.items;
      opened = c.new-4.ensures.items;
      distinct = refl;
    })

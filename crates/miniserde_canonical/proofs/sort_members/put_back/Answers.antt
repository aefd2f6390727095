-- Two exits: a text without splices is moved from the groups to `out` (`back_short`), and for any other text `out`
-- gets a splice (`back_splice`).
use Rattle.std.proofs.Common.{refl}
use Rattle.miniserde_canonical.proofs.SortMembers.{back_short, back_splice}
use Rattle.miniserde_canonical.proofs.sort_members.put_back.Goals as goal

pub returns-then-saturating_sub-longest : goal.returns-then-saturating_sub-longest
returns-then-saturating_sub-longest c =
    back_short {from = c.args.from} {to = c.end-to.result} {mid = c.truncate.new.self}
    (record { bytes = c.truncate.ensures.bytes; splices = c.truncate.ensures.splices })
    (record { bytes = c.end-to.ensures.bytes; splices = c.end-to.ensures.splices }) c.if-to-from.true
    (record { bytes = c.in_ok-append.ensures.bytes; splices = c.in_ok-append.ensures.splices })
    (record {
      bytes = c.truncate-then-saturating_sub-longest.ensures.bytes;
      splices = c.truncate-then-saturating_sub-longest.ensures.splices;
    })

pub returns : goal.returns
returns c =
    back_splice {mid = c.truncate.new.self} c.args.from _
    (record { bytes = c.truncate.ensures.bytes; splices = c.truncate.ensures.splices })
    (record { bytes = c.end-to.ensures.bytes; splices = c.end-to.ensures.splices }) refl c.in_ok-push.ensures.items

-- The comma and the span of the member, appended one after the other, are the text of the member (`gains_member`).
use Rattle.miniserde_canonical.proofs.SortMembers.{gains_member}
use Rattle.std.proofs.Common.{refl}
use Rattle.miniserde_canonical.proofs.sort_members.put_member.Goals as goal

pub returns : goal.returns
returns c =
    gains_member {mid = record { bytes = c.put_comma.new.out; splices = c.args.groups.now.splices }} {p = c.span_of.result}
    c.args.first c.in_ok-put_comma.ensures refl
    (record {
      end = c.end.result;
      is_end = record { bytes = c.end.ensures.bytes; splices = c.end.ensures.splices };
      from = c.span_of.ensures.from;
      to = c.span_of.ensures.to;
    })
    (record { bytes = c.in_ok-append.ensures.bytes; splices = c.in_ok-append.ensures.splices })

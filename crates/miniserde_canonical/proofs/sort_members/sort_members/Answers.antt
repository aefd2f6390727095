-- The indices are sorted by name, the members are put into the groups in that order, and the result is put back.
-- By `settled` it is the normal form of the members.
use Rattle.std.proofs.Common.{sym, ap, subst, ◌∙◌}
use Rattle.miniserde_model.specs.Normal.{last_of}
use Rattle.miniserde_canonical.specs.private.Members.{members_at}
use Rattle.miniserde_canonical.proofs.MemberLists.{InNameOrder}
use Rattle.miniserde_canonical.proofs.SortMembers.{settled}
use Rattle.miniserde_canonical.proofs.sort_members.sort_members.Goals as goal

pub returns : goal.returns
returns c =
    let ns = c.args.members.now in
    let sorted : InNameOrder ns c.sort.new.order.items = record {
      sorted = c.in_ok-sort.ensures.sorted;
      lasts = λ r q. c.in_ok-sort.ensures.last r q ∙ ap (λ z. last_of q (members_at ns r z)) c.in_ok-fill.ensures;
    } in
    settled (record {
      order = _;
      from = _;
      otherwise = c.index-members-0.result;
      groups = c.put_members.new.groups;
      some = c.requires;
      in_order = subst (InNameOrder ns) (sym c.as_slice.ensures.value) sorted;
      is_end = record { bytes = c.end-from.ensures.bytes; splices = c.end-from.ensures.splices };
      puts = c.in_ok-number.ensures;
      back = c.in_ok-put_back.ensures;
    })

-- A member that the next one repeats adds nothing, and another its text.
use Rattle.std.proofs.Common.{sym, ◌∙◌, arith}
use Rattle.std.proofs.lemmas.List.{drop_all}
use Rattle.miniserde_canonical.proofs.SortMembers.{put_members_begins, put_members_skips, put_members_takes, put_members_ends}
use Rattle.miniserde_canonical.proofs.sort_members.put_members.Goals as goal
use Rattle.miniserde_canonical.proofs.sort_members.put_members.Goals.{then-not-repeats+in_ok-put_member, else-not-repeats}

pub loop-k-init : goal.loop-k-init
loop-k-init c =
    record { few = omega arith; so_far = put_members_begins c.args.members.now c.args.order.now c.args.out.now c.args.groups.now }

pub loop-k-preserved : goal.loop-k-preserved
loop-k-preserved c = elim c.if-not-repeats.branch [
  | then-not-repeats+in_ok-put_member w ↦ rw (w.groups-is, w.number-is)
      (record {
        few = omega (arith, c.loop-k.invariant.few);
        so_far =
            put_members_takes _ c.loop-k-test.true
            (λ r. sym (c.repeats.ensures r _) ∙ w.if-not-repeats.true) w.in_ok-put_member.ensures
            c.loop-k.invariant.so_far;
      })
  | else-not-repeats w ↦ rw (w.groups-is, w.number-is)
      (record {
        few = omega (arith, c.loop-k.invariant.few);
        so_far =
            put_members_skips 0 c.loop-k-test.true
            (λ r. sym (c.repeats.ensures r 0) ∙ w.if-not-repeats.false) c.loop-k.invariant.so_far;
      })
]

pub returns : goal.returns
returns c =
    put_members_ends (drop_all c.loop-k.k c.args.order.now c.loop-k-test.false) c.loop-k.invariant.so_far

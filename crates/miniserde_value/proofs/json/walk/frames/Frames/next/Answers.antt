-- `next` returns the first token that the innermost container has left. By cases: an item, a member or the end of an
-- object, each with a lemma of `Frames.antt`.
use Rattle.std.proofs.Common.{◌-◌, set, refl, arith}
use Rattle.std.specs.Vec.{vec_len}
use Rattle.miniserde_value.specs.declared.json.walk.frames.Frame.TheVariants as frame
use Rattle.miniserde_value.proofs.Lasts.{reverse_ends, reverse_ends_as, reverse_set, reverse_set_as, reverse_popped}
use Rattle.miniserde_value.proofs.Frames.{GaveItem, item_left, item_ordered, GaveMember, member_left}
use Rattle.miniserde_value.proofs.Frames.{member_ordered, Ended, ended_left, ended_ordered}
use Rattle.miniserde_value.proofs.json.walk.frames.Frames.next.Goals as goal

gave_item : (c : goal.In-Some)
    → GaveItem c.args.self.now.open.items
    (set c.args.self.now.open.items (vec_len c.args.self.now.open - 1) (frame.Array c.next.new.self))
    c.in-Array.items c.next.new.self c.in-Some.item.now
gave_item c =
    let some = c.in_ok-items.ensures.variant.0 refl in
    record {
      others = _;
      before = reverse_ends_as c.args.self.now.open.items _ (omega arith) c.in_ok-items.ensures.value c.in-Array.is;
      after = reverse_set c.args.self.now.open.items _ (frame.Array c.next.new.self) (omega arith);
      gave = c.in-Some.ensures.steps;
    }

pub returns-in-Some-clause-left : goal.returns-in-Some-clause-left
returns-in-Some-clause-left c = item_left _ (gave_item c)

pub returns-in-Some-clause-ordered : goal.returns-in-Some-clause-ordered
returns-in-Some-clause-ordered c = item_ordered _ (gave_item c)

gave_member : (c : goal.After-t33-1)
    → GaveMember c.args.self.now.open.items
    (set c.args.self.now.open.items (vec_len c.args.self.now.open - 1) c.in_ok-items.field-0.now)
    c.args.self.now.objects.items
    (set c.args.self.now.objects.items (vec_len c.args.self.now.objects - 1) c.next-in-Object.new.self)
    c.as_str.result.now c.in-Some-next.value.now
gave_member c =
    let open_some = c.in_ok-items.ensures.variant.0 refl in
    let some = c.in_ok-last_mut-in-Object.ensures.variant.0 refl in
    record {
      members = c.in_ok-last_mut-in-Object.field-0.now;
      members_after = c.next-in-Object.new.self;
      below = _;
      others = _;
      key = _;
      is_object = reverse_ends_as c.args.self.now.open.items _ (omega arith) c.in_ok-items.ensures.value c.in-Object.is;
      is_still = reverse_set_as c.args.self.now.open.items _ c.in_ok-items.field-0.now _ (omega arith) c.in-Object.is;
      before = reverse_ends c.args.self.now.objects.items _ _ _ (omega arith) c.in_ok-last_mut-in-Object.ensures.value;
      after = reverse_set c.args.self.now.objects.items _ c.next-in-Object.new.self (omega arith);
      gave = c.in-Some-next.ensures.steps;
      named = c.as_str.ensures.value;
    }

pub returns-in-Some-next-clause-left : goal.returns-in-Some-next-clause-left
returns-in-Some-next-clause-left c = member_left (gave_member c)

pub returns-in-Some-next-clause-ordered : goal.returns-in-Some-next-clause-ordered
returns-in-Some-next-clause-ordered c = member_ordered (gave_member c)

ended : (c : goal.After-pop-in-None-next-2) → Ended c.args.self.now.open.items c.pop-in-None-next-2.new.self.items
    c.args.self.now.objects.items c.pop-in-None-next.new.self.items
ended c =
    let open_some = c.in_ok-items.ensures.variant.0 refl in
    let some = c.in_ok-last_mut-in-Object.ensures.variant.0 refl in
    record {
      below = _;
      others = _;
      is_object = reverse_ends_as c.args.self.now.open.items _ (omega arith) c.in_ok-items.ensures.value c.in-Object.is;
      popped = reverse_popped c.args.self.now.open.items _ _ _ c.in_ok-items.field-0.now refl c.pop-in-None-next-2.ensures.rest;
      before = reverse_ends_as c.args.self.now.objects.items _ (omega arith)
          c.in_ok-last_mut-in-Object.ensures.value c.in-None-next.ensures.steps.0;
      after = reverse_popped c.args.self.now.objects.items _ _ _ c.next-in-Object.new.self refl c.pop-in-None-next.ensures.rest;
    }

pub returns-in-None-next-clause-left : goal.returns-in-None-next-clause-left
returns-in-None-next-clause-left c = ended_left c.args.self.now.open.items _ _ _ (ended c)

pub returns-in-None-next-clause-ordered : goal.returns-in-None-next-clause-ordered
returns-in-None-next-clause-ordered c = λ _ p. ended_ordered c.args.self.now.open.items _ _ _ (ended c) p

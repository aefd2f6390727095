-- What becomes of values that an earlier version stored.
use Rattle.std.specs.Prelude.{◌≡◌, ⊤, None, string_bytes}
use Rattle.miniserde.specs.Tree.{Tree, members}
use Rattle.miniserde.specs.Normal.{last_of}
use Rattle.miniserde.specs.Objects.{Name}
use Rattle.examples.specs.declared.tasks.OldState.{OldState}
use Rattle.examples.specs.declared.tasks.OldState.TheVariants as old
use Rattle.examples.specs.declared.tasks.State.{State}
use Rattle.examples.specs.declared.tasks.State.TheVariants as new
use Rattle.examples.specs.declared.tasks.OldTask.{OldTask}
use Rattle.examples.specs.declared.tasks.Task.{Task}
use Rattle.examples.specs.declared.old_order.OldOrder.{OldOrder}
use Rattle.examples.specs.declared.order.Order.{Order}

-- the tree has no member of the name
abbrev pub Lacks : Name → Tree → Type 0
Lacks n (members ms) = last_of n ms ≡ None
Lacks n t = ⊤

-- the state of version 2 that has the same name
abbrev pub state_of : OldState → State
state_of = elim [ old.Open ↦ new.Open | old.Done ↦ new.Done ]

-- the task of version 2 has what the old one has but its colour, three retries, and no note
abbrev pub IsUpgraded : OldTask → Task → Type 0
IsUpgraded v w = (w.id ≡ v.id) × (string_bytes w.name ≡ string_bytes v.title) × (w.state ≡ state_of v.state)
    × (w.retries ≡ 3) × (w.note ≡ None)

-- the order of version 2 has the old one's number, its count as the quantity, whether it is paid, and no note
abbrev pub IsSameOrder : OldOrder → Order → Type 0
IsSameOrder v w = (w.id ≡ v.id) × (w.quantity ≡ v.count) × (w.paid ≡ v.paid) × (w.note ≡ None)

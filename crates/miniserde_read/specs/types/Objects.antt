-- The state that the members of an object leave, taken one by one in their order.
use Rattle.std.specs.Prelude.{ℕ, List, Option, Some, None, option_and_then}
use Rattle.miniserde_model.specs.Tree.{Tree, members, Members, no_members, member}

-- the name of a member, as decoded text
abbrev pub Name : Type 0
Name = List ℕ

-- the state after one more member, if there is one: a function of the state before it, the member's name, and its
-- value, which is an X
abbrev pub MemberStep : Type 0 → Type 0 → Type 0
MemberStep S X = S → Name → X → Option S

-- the state after all the members, from the state s on, if f returns a state after each of them
abbrev pub after_members : {S : Type 0} → MemberStep S Tree → S → Members → Option S
after_members f s no_members = Some s
after_members f s (member k t ms) = option_and_then (λ r. after_members f r ms) (f s k t)

-- what f returns for the members of an object; `None` for any other tree
abbrev pub object_of : {R : Type 0} → (Members → Option R) → Tree → Option R
object_of f (members ms) = f ms
object_of f _ = None

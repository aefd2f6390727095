-- Holes: what a builder of documents has so far.
use Rattle.std.specs.Prelude.{ℕ, ◌+◌, ◌&&◌, Bool, true, false, List, [], ◌∷◌, ◌++◌, Option, Some, None, option_map}
use Rattle.std.specs.Prelude.{option_and_then, is_some, if◌then◌else◌}
use Rattle.miniserde_model.specs.Tree.{Tree, null, truth, nonneg, neg, num, str, list, members, Members, no_members}
use Rattle.miniserde_model.specs.Step.{Step, boolean, string, negative, nonnegative, float, seq, element, map, key, finish}
use Rattle.miniserde_model.specs.Step as step
use Rattle.miniserde_model.specs.Normal.{last_of, put as put_member}
use Rattle.miniserde_ser.specs.Trees.{trees_of}

-- what a builder has so far: its open containers, innermost first, and their complete parts
pub data Hole : Type 0 where
  -- no container is open, and these values are complete
  outside : List Tree → Hole
  -- a list with these items so far, inside another hole
  in_list : List Tree → Hole → Hole
  -- an object with these members so far, in the order of their names, and the name of its next
  -- value if that came, inside another hole
  in_members : Members → Option (List ℕ) → Hole → Hole

-- The hole after a value is added to its innermost container, or to the complete values if none is
-- open. In an object the value goes under the name that came for it, and replaces a value of that
-- name; without a name it is dropped.
abbrev pub with_tree : Tree → Hole → Hole
with_tree t (outside ts) = outside (ts ++ t ∷ [])
with_tree t (in_list ts h) = in_list (ts ++ t ∷ []) h
with_tree t (in_members ms None h) = in_members ms None h
with_tree t (in_members ms (Some n) h) = in_members (put_member n t ms) None h

-- the hole with n as the name of the next value, if its innermost container is an object; else the
-- same hole
abbrev pub with_name : List ℕ → Hole → Hole
with_name n (outside ts) = outside ts
with_name n (in_list ts h) = in_list ts h
with_name n (in_members ms k h) = in_members ms (Some n) h

-- whether the innermost open container is an object that has a member of the name
abbrev pub has_member : List ℕ → Hole → Bool
has_member n (outside ts) = false
has_member n (in_list ts h) = false
has_member n (in_members ms k h) = is_some (last_of n ms)

-- the hole after its innermost container, if one is open, closes and is added as a value to the
-- hole around it; the name of a value that has not come is dropped
abbrev pub after_close : Hole → Hole
after_close (outside ts) = outside ts
after_close (in_list ts h) = with_tree (list (trees_of (λ t. t) ts)) h
after_close (in_members ms n h) = with_tree (members ms) h

-- how many containers are open
abbrev pub depth : Hole → ℕ
depth (outside ts) = 0
depth (in_list ts h) = depth h + 1
depth (in_members ms n h) = depth h + 1

-- the tree of a list of exactly one tree; any other list gives nothing
abbrev pub single : List Tree → Option Tree
single [] = None
single (t ∷ []) = Some t
single (t ∷ (u ∷ us)) = None

-- the tree of the hole, if no container is open and exactly one value is complete
abbrev pub complete_tree : Hole → Option Tree
complete_tree (outside ts) = single ts
complete_tree (in_list ts h) = None
complete_tree (in_members ms n h) = None

-- ---- the hole after events

-- the hole h after an event that is the first of a value; any other event gives nothing
abbrev pub after_begin : Step → Hole → Option Hole
after_begin step.null h = Some (with_tree null h)
after_begin (boolean b) h = Some (with_tree (truth b) h)
after_begin (string s) h = Some (with_tree (str s) h)
after_begin (negative z) h = Some (with_tree (neg z) h)
after_begin (nonnegative n) h = Some (with_tree (nonneg n) h)
after_begin (float x) h = Some (with_tree (num x) h)
after_begin seq h = Some (in_list [] h)
after_begin map h = Some (in_members no_members None h)
after_begin element h = None
after_begin (key k) h = None
after_begin finish h = None

-- After an event between two values: whether a value is due, and the hole. In a list an element may
-- begin, in an object a member, and either may end; any other event gives nothing.
abbrev pub after_between : Step → Hole → Option (Bool × Hole)
after_between element (in_list ts h) = Some (true, in_list ts h)
after_between (key k) (in_members ms n h) = Some (true, in_members ms (Some k) h)
after_between finish (in_list ts h) = Some (false, after_close (in_list ts h))
after_between finish (in_members ms n h) = Some (false, after_close (in_members ms n h))
after_between _ _ = None

-- whether a value is due after the event e, and the hole after it, if e may come there; the first
-- argument says whether a value is due before e, and h is the hole before it
abbrev pub after_step : Bool → Hole → Step → Option (Bool × Hole)
after_step true h e = option_map (λ g. (false, g)) (after_begin e h)
after_step false h e = after_between e h

-- whether the event is a name, and the innermost open container an object that already has a member
-- of that name
abbrev pub repeats : Step → Hole → Bool
repeats (key k) h = has_member k h
repeats _ h = false

-- what `after_step` gives for e, except that with `once` a name that the innermost object already
-- has gives nothing; `due` says whether a value is due before e
abbrev pub after_step_once : Bool → Bool → Hole → Step → Option (Bool × Hole)
after_step_once once due h e = if once && repeats e h then None else after_step due h e

-- the tree that the events to come give from the hole h on, if they complete exactly one value;
-- `due` says whether a value is due before them, and with `once` a duplicate name gives nothing
abbrev pub outcome : Bool → Bool → Hole → List Step → Option Tree
outcome once true h [] = None
outcome once false h [] = complete_tree h
outcome once due h (e ∷ es) = option_and_then (λ s. outcome once s.0 s.1 es) (after_step_once once due h e)

-- If the next element or member is not the first before the tokens of a tree, it is not the first after them. By
-- recursion over the tree, its children and its members: an opening sets the flag, and the end of its container
-- unsets it.
use Rattle.std.proofs.Common.{◌≡◌, Bool, true, false, List, [], ◌∷◌, Result, Ok, Err, OnOk, refl, ◌∙◌}
use Rattle.miniserde_model.specs.Tree.{Tree, list, members, Trees, no_trees, tree, Members, no_members, member}
use Rattle.miniserde_model.specs.Tokens.{Token, leaf, array_end, name, object_end, tokens, child_tokens, member_tokens}
use Rattle.miniserde_value.specs.Tokens.{first_flag_after, TokensInRange}

-- ---- one token, and then others

-- if one token is in range and the later ones are, all of them are
pub in_range_before : (m : Token) (rest : List Token) → TokensInRange (m ∷ []) → TokensInRange rest → TokensInRange (m ∷ rest)
in_range_before (leaf t) rest h r = (h.0, r)
in_range_before (name n) rest h r = (h.0, r)
in_range_before _ rest h r = r

-- the flag after a token and then others is the flag after all of them
pub first_before : (b : Bool) (m : Token) (rest : List Token)
    → first_flag_after (first_flag_after b (m ∷ [])) rest ≡ first_flag_after b (m ∷ rest)
first_before b (leaf t) rest = refl
first_before b (name n) rest = refl
first_before b _ rest = refl

-- ---- behind a tree the next element or member is not the first, where it was not before

mutual
  pub first_tokens : (t : Tree) (rest : List Token) → first_flag_after false (tokens t rest) ≡ first_flag_after false rest
  first_tokens (list ts) rest = first_children ts true rest
  first_tokens (members ms) rest = first_members ms true rest
  first_tokens _ rest = refl

  first_children : (ts : Trees) (b : Bool) (rest : List Token)
      → first_flag_after b (child_tokens ts (array_end ∷ rest)) ≡ first_flag_after false rest
  first_children no_trees b rest = refl
  first_children (tree t ts) b rest = first_tokens t (child_tokens ts (array_end ∷ rest)) ∙ first_children ts false rest

  first_members : (ms : Members) (b : Bool) (rest : List Token)
      → first_flag_after b (member_tokens ms (object_end ∷ rest)) ≡ first_flag_after false rest
  first_members no_members b rest = refl
  first_members (member n t ms) b rest = first_tokens t (member_tokens ms (object_end ∷ rest)) ∙ first_members ms false rest

-- two facts of an `Ok` make a third
pub on_ok_both : {T E P R Q : Type 0} (r : Result T E) → (P → R → Q) → OnOk r P → OnOk r R → OnOk r Q
on_ok_both (Ok x) f p q = f p q
on_ok_both (Err e) f p q = tt

-- a fact holds of an `Ok` if it holds
pub on_ok_of : {T E P : Type 0} (r : Result T E) → P → OnOk r P
on_ok_of (Ok x) p = p
on_ok_of (Err e) p = tt

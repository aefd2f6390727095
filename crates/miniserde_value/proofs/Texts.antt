-- The tokens of a tree with names in order have the compact text of its normal form, and if they are in range, so is
-- that form. By recursion over the tree, its children and its members, whose names rise.
use Rattle.std.proofs.Common.{◌≡◌, ℕ, Bool, true, false, List, [], ◌∷◌, ◌++◌, refl, sym, ap, subst, ◌∙◌, append_assoc, append-nil}
use Rattle.miniserde_model.specs.Tree.{Tree, list, members, Trees, no_trees, tree, Members, no_members, member}
use Rattle.miniserde_model.specs.Normal.{norm, norm_children, norm_members, BeginsAbove, Rise}
use Rattle.miniserde_model.specs.InRange.{InRange, AllInRange, MembersInRange}
use Rattle.miniserde_model.specs.Compact.{string_text, compact, compact_children, compact_more, compact_members, compact_more_members}
use Rattle.miniserde_model.specs.Tokens.{Token, array_end, object_end, tokens, child_tokens, member_tokens}
use Rattle.miniserde_value.specs.Tokens.{IsOrdered, AreOrdered, AreOrderedMembers, tokens_text, TokensInRange}
use Rattle.miniserde_model.proofs.Normal.{trees_with_first}
use Rattle.miniserde_model.proofs.Lookups.{first_of_all}

-- names above another stay above it where each tree is normal
norm_above : (first : List ℕ) (ms : Members) → Rise ms → BeginsAbove first ms → BeginsAbove first (norm_members ms)
norm_above first no_members r b = tt
norm_above first (member n t ms) r b = go _ (first_of_all n (norm t) (norm_members ms) (norm_above n ms r.1 r.0))
  where
    go : (ns : Members) → ns ≡ member n (norm t) (norm_members ms) → BeginsAbove first ns
    go ns e = subst (BeginsAbove first) (sym e) b

-- members in order keep it
pub norm_first : (n : List ℕ) (t : Tree) (ms : Members) → Rise (member n t ms)
    → norm_members (member n t ms) ≡ member n (norm t) (norm_members ms)
norm_first n t ms r = first_of_all n (norm t) (norm_members ms) (norm_above n ms r.1 r.0)

-- a name with a colon and the text of its tree
named_text : (q a b rest : List ℕ) → (q ++ 58 ∷ []) ++ (a ++ (b ++ rest)) ≡ ((q ++ 58 ∷ a) ++ b) ++ rest
named_text q a b rest = append_assoc q (58 ∷ []) (a ++ (b ++ rest))
    ∙ sym (append_assoc (q ++ 58 ∷ a) b rest ∙ append_assoc q (58 ∷ a) (b ++ rest))

-- a container's text with its closing byte
closing : (a rest : List ℕ) (x : ℕ) → a ++ x ∷ rest ≡ (a ++ x ∷ []) ++ rest
closing a rest x = sym (append_assoc a (x ∷ []) rest)

mutual
  pub text_tokens : (t : Tree) → IsOrdered t → (rest : List Token)
      → tokens_text false (tokens t rest) ≡ compact (norm t) ++ tokens_text false rest
  text_tokens (list ts) h rest =
      ap (λ z. 91 ∷ z) (text_children ts h rest ∙ closing (compact_children (norm_children ts))
      (tokens_text false rest) 93)
  text_tokens (members ms) h rest =
      ap (λ z. 123 ∷ z) (text_members ms h.0 h.1 rest ∙ closing (compact_members (norm_members ms))
      (tokens_text false rest) 125)
  text_tokens _ h rest = refl

  pub text_children : (ts : Trees) → AreOrdered ts → (rest : List Token)
      → tokens_text true (child_tokens ts (array_end ∷ rest)) ≡ compact_children (norm_children ts)
      ++ 93 ∷ tokens_text false rest
  text_children no_trees h rest = refl
  text_children (tree t ts) h rest =
      text_tokens t h.0 (child_tokens ts (array_end ∷ rest))
      ∙ ap (λ z. compact (norm t) ++ z) (text_more ts h.1 (array_end ∷ rest))
      ∙ sym (append_assoc (compact (norm t)) (compact_more (norm_children ts)) (93 ∷ tokens_text false rest))

  pub text_more : (ts : Trees) → AreOrdered ts → (rest : List Token) → tokens_text false (child_tokens ts rest)
      ≡ compact_more (norm_children ts) ++ tokens_text false rest
  text_more no_trees h rest = refl
  text_more (tree t ts) h rest =
      ap (λ z. 44 ∷ z) (text_tokens t h.0 (child_tokens ts rest)
      ∙ ap (λ z. compact (norm t) ++ z) (text_more ts h.1 rest)
      ∙ sym (append_assoc (compact (norm t)) (compact_more (norm_children ts)) (tokens_text false rest)))

  pub text_members : (ms : Members) → Rise ms → AreOrderedMembers ms → (rest : List Token)
      → tokens_text true (member_tokens ms (object_end ∷ rest)) ≡ compact_members (norm_members ms)
      ++ 125 ∷ tokens_text false rest
  text_members no_members r h rest = refl
  text_members (member n t ms) r h rest =
      ap (λ z. (string_text n ++ 58 ∷ []) ++ z)
      (text_tokens t h.0 (member_tokens ms (object_end ∷ rest)) ∙ ap (λ z. compact (norm t) ++ z)
      (text_more_members ms r.1 h.1 (object_end ∷ rest)))
      ∙ named_text (string_text n) (compact (norm t)) (compact_more_members (norm_members ms)) (125 ∷ tokens_text false rest)
      ∙ ap (λ z. compact_members z ++ 125 ∷ tokens_text false rest) (sym (norm_first n t ms r))

  pub text_more_members : (ms : Members) → Rise ms → AreOrderedMembers ms → (rest : List Token)
      → tokens_text false (member_tokens ms rest) ≡ compact_more_members (norm_members ms) ++ tokens_text false rest
  text_more_members no_members r h rest = refl
  text_more_members (member n t ms) r h rest =
      ap (λ z. 44 ∷ ((string_text n ++ 58 ∷ []) ++ z))
      (text_tokens t h.0 (member_tokens ms rest) ∙ ap (λ z. compact (norm t) ++ z)
      (text_more_members ms r.1 h.1 rest))
      ∙ ap (λ z. 44 ∷ z) (named_text (string_text n) (compact (norm t)) (compact_more_members (norm_members ms)) (tokens_text false rest))
      ∙ ap (λ z. compact_more_members z ++ tokens_text false rest) (sym (norm_first n t ms r))

-- a value's text has no comma before it
text_begins : (b : Bool) (t : Tree) → tokens_text b (tokens t []) ≡ tokens_text false (tokens t [])
text_begins b (list ts) = refl
text_begins b (members ms) = refl
text_begins b _ = refl

-- the tokens of an ordered tree have the compact text of its normal form
pub text_whole : (b : Bool) (t : Tree) → IsOrdered t → tokens_text b (tokens t []) ≡ compact (norm t)
text_whole b t h = text_begins b t ∙ text_tokens t h [] ∙ append-nil (compact (norm t))

-- ---- the trees in range

mutual
  pub tokens_tree : (t : Tree) (rest : List Token) → TokensInRange (tokens t rest) → InRange (norm t) × TokensInRange rest
  tokens_tree (list ts) rest h = tokens_trees ts (array_end ∷ rest) h
  tokens_tree (members ms) rest h = tokens_members ms (object_end ∷ rest) h
  tokens_tree _ rest h = h

  pub tokens_trees : (ts : Trees) (rest : List Token) → TokensInRange (child_tokens ts rest)
      → AllInRange (norm_children ts) × TokensInRange rest
  tokens_trees no_trees rest h = (tt, h)
  tokens_trees (tree t ts) rest h =
      let one = tokens_tree t (child_tokens ts rest) h in
      let more = tokens_trees ts rest one.1 in
      ((one.0, more.0), more.1)

  pub tokens_members : (ms : Members) (rest : List Token) → TokensInRange (member_tokens ms rest)
      → MembersInRange (norm_members ms) × TokensInRange rest
  tokens_members no_members rest h = (tt, h)
  tokens_members (member n t ms) rest h =
      let one = tokens_tree t (member_tokens ms rest) h.1 in
      let more = tokens_members ms rest one.1 in
      (trees_with_first n (norm t) (norm_members ms) h.0 one.0 more.0, more.1)

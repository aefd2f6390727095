-- What is built of a tree's tokens is what a value keeps of the tree.
use Rattle.std.proofs.Common.{◌≡◌, List, [], ◌∷◌, ◌++◌, Some, None, refl, sym, ap, ◌∙◌, append_assoc, append-nil}
use Rattle.miniserde_model.specs.Tree.{Tree, list, members, Trees, no_trees, tree, Members, no_members, member}
use Rattle.miniserde_model.specs.Normal.{put as put_member}
use Rattle.miniserde_model.specs.Tokens.{Token, array_end, object_end, tokens, child_tokens, member_tokens}
use Rattle.miniserde_value.specs.Retained.{retained_tree, retained_children}
use Rattle.miniserde_value.specs.Hole.{Hole, in_list, in_members, with_tree}
use Rattle.miniserde_value.specs.laws.Listed.{listed, trees_listed, put_retained, puts_retained}
use Rattle.miniserde_value.specs.Tokens.{hole_after}

mutual
  pub built_tokens : (h : Hole) (t : Tree) (rest : List Token)
      → hole_after h (tokens t rest) ≡ hole_after (with_tree (retained_tree t) h) rest
  built_tokens h (list ts) rest =
      built_children ts [] h (array_end ∷ rest) ∙ ap (λ z. hole_after (with_tree (list z) h) rest)
      (trees_listed (retained_children ts))
  built_tokens h (members ms) rest = built_members ms no_members h (object_end ∷ rest)
      ∙ ap (λ z. hole_after (with_tree (members z) h) rest) (puts_retained ms)
  built_tokens h _ rest = refl

  pub built_children : (ts : Trees) (us : List Tree) (h : Hole) (rest : List Token)
      → hole_after (in_list us h) (child_tokens ts rest)
      ≡ hole_after (in_list (us ++ listed (retained_children ts)) h) rest
  built_children no_trees us h rest = ap (λ z. hole_after (in_list z h) rest) (sym (append-nil us))
  built_children (tree t ts) us h rest =
      built_tokens (in_list us h) t (child_tokens ts rest)
      ∙ built_children ts (us ++ retained_tree t ∷ []) h rest
      ∙ ap (λ z. hole_after (in_list z h) rest) (append_assoc us (retained_tree t ∷ []) (listed (retained_children ts)))

  pub built_members : (ms made : Members) (h : Hole) (rest : List Token)
      → hole_after (in_members made None h) (member_tokens ms rest)
      ≡ hole_after (in_members (put_retained made ms) None h) rest
  built_members no_members made h rest = refl
  built_members (member n t ms) made h rest = built_tokens (in_members made (Some n) h) t (member_tokens ms rest)
      ∙ built_members ms (put_member n (retained_tree t) made) h rest

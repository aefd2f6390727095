-- Members by the same names are alike only where their trees are, if each tree has a name and no name is a duplicate.
use Rattle.std.proofs.Common.{◌≡◌, true, List, [], ◌∷◌, length, Option, Some, None, refl, sym, ap, ◌∙◌, arith}
use Rattle.miniserde_model.specs.Tree.{Tree, Members, member}
use Rattle.miniserde_read.specs.types.Objects.{Name}
use Rattle.miniserde_record.specs.Fields.{count_named}
use Rattle.miniserde_record.specs.Structs.{is_new, are_distinct, with_names}
use Rattle.miniserde_record.proofs.Names.{same, both, count_new}

-- no member of a new name is among these
not_there : (n : Name) (t : Tree) (ms : Members) (ns : List Name) (ts : List (Option Tree)) → is_new n ns ≡ true
    → with_names ns ts ≡ member n t ms → ⊥
not_there n t ms ns ts h e =
    let none : count_named n (member n t ms) ≡ 0 = ap (count_named n) (sym e) ∙ count_new n ns ts h in
    absurd (cc (none, same n))

-- if the names are distinct and as many as the trees, members that are equal under them have equal trees
pub one_trees : (ns : List Name) (ts us : List (Option Tree)) → are_distinct ns ≡ true → length ts ≡ length ns
    → length us ≡ length ns → with_names ns ts ≡ with_names ns us → ts ≡ us
one_trees [] [] [] d p q e = refl
one_trees [] [] (u ∷ us) d p q e = absurd (omega (arith, q))
one_trees [] (t ∷ ts) us d p q e = absurd (omega (arith, p))
one_trees (n ∷ ns) [] us d p q e = absurd (omega (arith, p))
one_trees (n ∷ ns) (t ∷ ts) [] d p q e = absurd (omega (arith, q))
one_trees (n ∷ ns) (None ∷ ts) (None ∷ us) d p q e =
    ap (λ l. None ∷ l) (one_trees ns ts us (both (is_new n ns) (are_distinct ns) d).1 (omega (arith, p))
    (omega (arith, q)) e)
one_trees (n ∷ ns) (None ∷ ts) (Some u ∷ us) d p q e =
    absurd (not_there n u (with_names ns us) ns ts (both (is_new n ns) (are_distinct ns) d).0 e)
one_trees (n ∷ ns) (Some t ∷ ts) (None ∷ us) d p q e =
    absurd (not_there n t (with_names ns ts) ns us (both (is_new n ns) (are_distinct ns) d).0 (sym e))
one_trees (n ∷ ns) (Some t ∷ ts) (Some u ∷ us) d p q e =
    let first : t ≡ u = cc in
    let more : with_names ns ts ≡ with_names ns us = cc in
    let rest : ts ≡ us = one_trees ns ts us (both (is_new n ns) (are_distinct ns) d).1 (omega (arith, p)) (omega (arith, q)) more in
    rw (first, rest) refl

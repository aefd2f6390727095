-- If a text spells a tree, the numbers of the tree are in range and its strings are UTF-8 (`InRange`). By recursion
-- over the tree, with `tells` for the range of a number and `piece_scalar` for the characters of a string.
use Rattle.std.proofs.Common.{◌≡◌, ℕ, zero, suc, ◌^◌, ◌<◌, ◌≤◌, ℤ, pos, neg_ℤ, unsigned_abs, ◌≤ℤ◌, Bool, true}
use Rattle.std.proofs.Common.{false, cond, nat_lt, nat_le, List, [], ◌∷◌, drop, IsUtf8, refl, sym, subst, arith}
use Rattle.std.proofs.Common.{ltb-true, leb-true}
use Rattle.std.specs.Char.{IsScalar}
use Rattle.std.specs.Str.Parse.{digits_value}
use Rattle.std.proofs.lemmas.Bool.{and_from}
use Rattle.std.proofs.lemmas.Bool.Decides.{nat_tests}
use Rattle.std.proofs.lemmas.Int.{ints}
use lib.Utf8.{scalar, scalars}
use Rattle.miniserde_model.specs.Tree.{Tree, null, truth, nonneg, neg, num, str, list, members, Trees, no_trees}
use Rattle.miniserde_model.specs.Tree.{tree, Members, no_members, member}
use Rattle.miniserde_model.specs.Number.{IsNumber, is_plain, begins_minus, leaf}
use Rattle.miniserde_model.specs.String.{IsShortEscape, quote, IsPair, IsPiece, raw, short, unit, pair, ArePieces, IsString}
use Rattle.miniserde_model.specs.Value.{IsValue, AreElements, AreMoreElements, AreMembers, AreMoreMembers, IsJson}
use Rattle.miniserde_model.specs.InRange.{InRange, AllInRange, MembersInRange}

-- ---- what the leaf of a number text says of the text

pub record IsDigitsLeaf (b : List ℕ) (n : ℕ) : Type 0 where
  pub plain : is_plain b ≡ true
  pub bare : begins_minus b ≡ false
  pub value : n ≡ digits_value 10 b
  pub small : n < 2 ^ 64

pub record IsNegatedLeaf (b : List ℕ) (z : ℤ) : Type 0 where
  pub plain : is_plain b ≡ true
  pub minus : begins_minus b ≡ true
  pub value : z ≡ neg_ℤ (pos (digits_value 10 (drop 1 b)))
  pub small : digits_value 10 (drop 1 b) ≤ 2 ^ 63

abbrev pub TellsLeaf : List ℕ → Tree → Type 0
TellsLeaf b null = ⊥
TellsLeaf b (truth x) = ⊥
TellsLeaf b (nonneg n) = IsDigitsLeaf b n
TellsLeaf b (neg z) = IsNegatedLeaf b z
TellsLeaf b (num x) = b ≡ x
TellsLeaf b (str s) = ⊥
TellsLeaf b (list ts) = ⊥
TellsLeaf b (members ms) = ⊥

on_test : (P : Tree → Type 0) (v : Bool) (t u : Tree) → (v ≡ true → P t) → (v ≡ false → P u) → P (cond v t u)
on_test P true t u p q = p refl
on_test P false t u p q = q refl

leaf_tells : (b : List ℕ) → TellsLeaf b (leaf b)
unfolding leaf
leaf_tells b =
    on_test (TellsLeaf b) (is_plain b) _ _
    (λ p. on_test (TellsLeaf b) (begins_minus b) _ _
    (λ m. on_test (TellsLeaf b) (nat_le (digits_value 10 (drop 1 b)) (2 ^ 63)) _ _
    (λ l. record { plain = p; minus = m; value = refl; small = leb-true _ _ l }) (λ l. refl))
    (λ m. on_test (TellsLeaf b) (nat_lt (digits_value 10 b) (2 ^ 64)) _ _
    (λ l. record { plain = p; bare = m; value = refl; small = ltb-true _ _ l }) (λ l. refl)))
    (λ p. refl)

-- the leaf of a number text is an integer in range without or with a minus, or the text itself
pub tells : (b : List ℕ) (t : Tree) → IsNumber b t → TellsLeaf b t
tells b t p = subst (λ u. TellsLeaf b u) p.1 (leaf_tells b)

negative_range : (n : ℕ) → n ≤ 2 ^ 63 → (neg_ℤ (pos n) ≤ℤ pos 0) × (unsigned_abs (neg_ℤ (pos n)) ≤ 2 ^ 63)
negative_range zero h = (omega (arith, ints), omega arith)
negative_range (suc n) h = (omega (arith, ints), h)

-- ---- strings

short_scalar : (l c : ℕ) → IsShortEscape l c → IsScalar c
short_scalar l c quote = refl
short_scalar l c _ = refl

pair_scalar : (b : List ℕ) (c : ℕ) → IsPair b c → IsScalar c
pair_scalar b c p = let low : 65536 ≤ c = omega arith in let high : c < 1114112 = omega arith in grind (arith, nat_tests)

pub piece_scalar : (b : List ℕ) (c : ℕ) → IsPiece b c → IsScalar c
piece_scalar b c (raw p) = p.scalar
piece_scalar b c (short l s t) = short_scalar l c s
piece_scalar b c (unit s p) = s
piece_scalar b c (pair p) = pair_scalar b c p

pieces_scalars : (cs b : List ℕ) → ArePieces b cs → scalars cs ≡ true
pieces_scalars [] b p = refl
pieces_scalars (c ∷ cs) b p = and_from (scalar c) (scalars cs) (piece_scalar p.0 c p.3) (pieces_scalars cs p.1 p.4)

string_utf8 : (b s : List ℕ) → IsString b s → IsUtf8 s
string_utf8 b s p = (p.characters, (pieces_scalars p.characters p.inside p.pieces, sym p.value))

mutual
  pub value_tree : (t : Tree) (b : List ℕ) → IsValue t b → InRange t
  value_tree null b p = tt
  value_tree (truth x) b p = tt
  value_tree (nonneg n) b p = (tells b (nonneg n) p).small
  value_tree (neg z) b p = let l = tells b (neg z) p in rw (l.value) (negative_range _ l.small)
  value_tree (num x) b p = subst (λ y. IsNumber y (num x)) (tells b (num x) p) p
  value_tree (str s) b p = string_utf8 b s p
  value_tree (list ts) b p = elements_trees ts p.inside p.is_inside
  value_tree (members ms) b p = members_trees ms p.inside p.is_inside

  elements_trees : (ts : Trees) (b : List ℕ) → AreElements ts b → AllInRange ts
  elements_trees no_trees b p = tt
  elements_trees (tree t ts) b p = (value_tree t p.is_first.inner p.is_first.is_inner, more_trees ts p.rest p.is_rest)

  more_trees : (ts : Trees) (b : List ℕ) → AreMoreElements ts b → AllInRange ts
  more_trees no_trees b p = tt
  more_trees (tree t ts) b p = (value_tree t p.2.is_first.inner p.2.is_first.is_inner, more_trees ts p.2.rest p.2.is_rest)

  members_trees : (ms : Members) (b : List ℕ) → AreMembers ms b → MembersInRange ms
  members_trees no_members b p = tt
  members_trees (member s t ms) b p = (
    string_utf8 p.is_first.is_name.inner s p.is_first.is_name.is_inner,
    value_tree t p.is_first.is_value.inner
        p.is_first.is_value.is_inner,
    more_named ms p.rest p.is_rest,
  )

  more_named : (ms : Members) (b : List ℕ) → AreMoreMembers ms b → MembersInRange ms
  more_named no_members b p = tt
  more_named (member s t ms) b p = (
    string_utf8 p.2.is_first.is_name.inner s p.2.is_first.is_name.is_inner,
    value_tree t p.2.is_first.is_value.inner p.2.is_first.is_value.is_inner,
    more_named ms p.2.rest p.2.is_rest,
  )

-- a tree that a text spells is in range
pub json_tree : (b : List ℕ) (t : Tree) → IsJson b t → InRange t
json_tree b t p = value_tree t p.inner p.is_inner

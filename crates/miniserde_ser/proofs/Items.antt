-- The compact text of a list by its parts: of two lists with a comma between them, by recursion over the elements of the
-- first (`compact_children-append`), and of one whose first element is written (`compact_children_later`).
use Rattle.std.proofs.Common.{◌≡◌, ℕ, ◌+◌, ◌<◌, List, [], ◌∷◌, ◌++◌, length, Bool, take, get_or}
use Rattle.std.proofs.Common.{refl, ap, append_assoc, ◌∙◌, sym, arith}
use Rattle.std.proofs.lemmas.List.{take_more}
use Rattle.miniserde_model.specs.Tree.{Tree, list}
use Rattle.miniserde_model.specs.Compact.{compact, compact_children, compact_more}
use Rattle.miniserde_model.specs.InRange.{AllInRange}
use Rattle.std.specs.Prelude.{Result, OnOk}
use Rattle.std.proofs.lemmas.Result.{on_ok_weaker}
use Rattle.miniserde_model.specs.declared.error.Error.{Error}
use Rattle.miniserde_ser.specs.Trees.{trees_of}
use Rattle.miniserde_ser.specs.Writer.{WriterView, Appends, after_append, with_first_flag}

compact_more-append : {A : Type 0} (f : A → Tree) (xs ys : List A) → compact_more (trees_of f (xs ++ ys))
    ≡ compact_more (trees_of f xs) ++ compact_more (trees_of f ys)
compact_more-append f [] ys = refl
compact_more-append f (x ∷ xs) ys = grind (arith, append_assoc {A = ℕ}, compact_more-append f xs ys)

-- a comma stands between the elements of two lists that are not empty
compact_children-append : {A : Type 0} (f : A → Tree) (xs ys : List A) → 0 < length xs → 0 < length ys
    → compact_children (trees_of f (xs ++ ys)) ≡ compact_children (trees_of f xs) ++ (44 ∷ []) ++ compact_children (trees_of f ys)
compact_children-append f [] ys p q = absurd (omega (arith, p))
compact_children-append f (x ∷ xs) [] p q = absurd (omega (arith, q))
compact_children-append f (x ∷ xs) (y ∷ ys) p q = grind (arith, append_assoc {A = ℕ}, compact_more-append f xs (y ∷ ys))

-- if neither xs nor ys is empty, the text of both in one list is `[`, the text of xs, a comma, the text of ys and `]`
pub compact_parts : {A : Type 0} (f : A → Tree) (xs ys : List A) (old : List ℕ) → 0 < length xs → 0 < length ys
    → ((((old ++ 91 ∷ []) ++ compact_children (trees_of f xs)) ++ 44 ∷ []) ++ compact_children (trees_of f ys)) ++ 93 ∷ []
    ≡ old ++ compact (list (trees_of f (xs ++ ys)))
compact_parts f xs ys old p q = rw (compact_children-append f xs ys p q) (simp append_assoc refl)

-- if the trees of xs and those of ys are in range, so are those of both
pub AllInRange-append : {A : Type 0} (f : A → Tree) (xs ys : List A) → AllInRange (trees_of f xs) → AllInRange (trees_of f ys)
    → AllInRange (trees_of f (xs ++ ys))
AllInRange-append f [] ys h r = r
AllInRange-append f (x ∷ xs) ys h r = (h.0, AllInRange-append f xs ys h.1 r)

-- if x is the element of xs at i, the first i + 1 elements are the first i and then x
pub took : {A : Type 0} (xs : List A) (i : ℕ) (x : A) → i < length xs → x ≡ get_or xs i x → take (i + 1) xs ≡ take i xs ++ x ∷ []
took xs i x h e = take_more xs i x h ∙ ap (λ y. take i xs ++ y ∷ []) (sym e)

-- The elements xs are x and then `later`, which has one at least. If `old` and the text of xs make `all`, so do `old`, the
-- text of x, a comma and the text of `later`.
pub compact_children_later : {A : Type 0} (f : A → Tree) {xs : List A} (later : List A) {x : A} {all : List ℕ} (old : List ℕ)
    → xs ≡ x ∷ later → 0 < length later → old ++ compact_children (trees_of f xs) ≡ all
    → ((old ++ compact (f x)) ++ 44 ∷ []) ++ compact_children (trees_of f later) ≡ all
compact_children_later f [] old e h o = absurd (omega (arith, h))
compact_children_later f (y ∷ ys) old e h o =
    simp append_assoc refl ∙ ap (λ z. old ++ compact_children (trees_of f z)) (sym e) ∙ o

-- what a last piece makes of the text of all items before it
pub appends_text : {old new : WriterView} {bs whole : List ℕ} {first : Bool} {r : Result (Unit {0}) Error}
    → Appends old bs first r new → old.text ++ bs ≡ whole → OnOk r (new.text ≡ whole)
appends_text {old = old} {new = new} {bs = bs} {first = first} {r = r} a h =
    on_ok_weaker r (λ (e : new ≡ with_first_flag (after_append old bs new.capacity) first).
    ap (λ (w : WriterView). w.text) e ∙ h) a.ok

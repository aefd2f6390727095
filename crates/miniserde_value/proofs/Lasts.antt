-- The last element of a list is the first of the reversed list, also after it was set or removed. By induction over
-- the list: a list of `k + 1` elements is its first `k` and one more.
use Rattle.std.proofs.Common.{◌≡◌, ℕ, zero, suc, ◌-◌, List, [], ◌∷◌, ◌++◌, Some, slice_get, length, take, set}
use Rattle.std.proofs.Common.{get_or, reverse, refl, sym, ap, ◌∙◌, subst, arith}
use Rattle.std.proofs.lemmas.List.{reverse-append, take-set}
use Rattle.std.proofs.lemmas.Option.{slice_get_within, get_or_from_slice_get}

split_last : {A : Type 0} → (xs : List A) (k : ℕ) (d : A) → length xs ≡ suc k → xs ≡ take k xs ++ get_or xs k d ∷ []
split_last [] k d h = absurd (omega arith)
split_last (x ∷ []) zero d h = refl
split_last (x ∷ y ∷ xs) zero d h = absurd (omega arith)
split_last (x ∷ xs) (suc k) d h = ap (λ l. x ∷ l) (split_last xs k d (omega arith))

split_set : {A : Type 0} → (xs : List A) (k : ℕ) (u : A) → length xs ≡ suc k → set xs k u ≡ take k xs ++ u ∷ []
split_set [] k u h = absurd (omega arith)
split_set (x ∷ []) zero u h = refl
split_set (x ∷ y ∷ xs) zero u h = absurd (omega arith)
split_set (x ∷ xs) (suc k) u h = ap (λ l. x ∷ l) (split_set xs k u (omega arith))

-- if ys is xs and then x, the reverse of ys is x and then the reverse of xs
pub reverse_added : {A : Type 0} → (xs ys : List A) (x : A) → ys ≡ xs ++ x ∷ [] → reverse ys ≡ x ∷ reverse xs
reverse_added xs ys x e = ap reverse e ∙ reverse-append xs (x ∷ [])

-- the reverse of k + 1 elements is the element at k and then the reverse of the first k
pub reverse_last : {A : Type 0} → (xs : List A) (k : ℕ) (d : A) → length xs ≡ suc k → reverse xs ≡ get_or xs k d ∷ reverse (take k xs)
reverse_last xs k d h = reverse_added (take k xs) xs (get_or xs k d) (split_last xs k d h)

-- the reverse of k + 1 elements with u set at k is u and then the reverse of the first k
pub reverse_set : {A : Type 0} → (xs : List A) (k : ℕ) (u : A) → length xs ≡ suc k → reverse (set xs k u) ≡ u ∷ reverse (take k xs)
reverse_set xs k u h = reverse_added (take k xs) (set xs k u) u (split_set xs k u h)

-- the last is known
pub reverse_ends : {A : Type 0} → (xs : List A) (k : ℕ) (d x : A) → length xs ≡ suc k → x ≡ get_or xs k d
    → reverse xs ≡ x ∷ reverse (take k xs)
reverse_ends xs k d x h e = reverse_last xs k d h ∙ ap (λ y. y ∷ reverse (take k xs)) (sym e)

-- if y is the element at k of k + 1, the reverse is y and then the reverse of the first k
pub reverse_ends_as : {A : Type 0} {k : ℕ} {x y : A} (xs : List A) (d : A) → length xs ≡ suc k → x ≡ get_or xs k d
    → x ≡ y → reverse xs ≡ y ∷ reverse (take k xs)
reverse_ends_as {k = k} {x = x} xs d h e is = reverse_ends xs k d x h e ∙ ap (λ z. z ∷ reverse (take k xs)) is

-- the last was got
pub last_got : {A : Type 0} → (xs ys : List A) (x y : A) → ys ≡ xs → Some x ≡ slice_get ys (length ys - 1) → x ≡ y
    → reverse xs ≡ y ∷ reverse (take (length xs - 1) xs)
last_got xs ys x y same got is =
    let there : slice_get xs (length xs - 1) ≡ Some y = subst (λ l. slice_get l (length l - 1) ≡ Some x) same (sym got) ∙ ap Some is in
    let within = slice_get_within xs (length xs - 1) y there in
    reverse_ends xs (length xs - 1) y y (omega arith) (sym (get_or_from_slice_get xs (length xs - 1) y y there))

-- if u is set at k of k + 1 elements and is y, the reverse is y and then the reverse of the first k
pub reverse_set_as : {A : Type 0} → (xs : List A) (k : ℕ) (u y : A) → length xs ≡ suc k → u ≡ y
    → reverse (set xs k u) ≡ y ∷ reverse (take k xs)
reverse_set_as xs k u y h is = reverse_set xs k u h ∙ ap (λ z. z ∷ reverse (take k xs)) is

-- the last was set, and then taken
pub reverse_popped : {A : Type 0} → (xs ys : List A) (j k : ℕ) (u : A) → j ≡ k → ys ≡ take j (set xs k u) → reverse ys ≡ reverse (take k xs)
reverse_popped xs ys j k u e is = ap reverse (subst (λ n. ys ≡ take n (set xs k u)) e is ∙ take-set xs k u)

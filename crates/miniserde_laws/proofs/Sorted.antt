-- Two sorted maps whose entries agree at each code have the same members. By recursion over both lists of entries:
-- the lesser of two first keys would have no entry in the other map (`below_none`), so they are equal, and the later
-- entries agree too (`rest_agrees`).
use Rattle.std.proofs.Common.{◌≡◌, ℕ, true, false, List, [], ◌∷◌, Some, None, refl, sym, ap, ◌∙◌}
use Rattle.std.specs.Prelude.{bytes_eq}
use Rattle.std.specs.Map.{keys_of}
use Rattle.std.specs.Ordering.{is_eq, ordering_reverse}
use Rattle.std.specs.declared.cmp.Ordering.{Ordering}
use Rattle.std.specs.declared.cmp.Ordering.TheVariants.{Less, Equal, Greater}
use Rattle.std.specs.Cmp.{IsTotalOrder}
use Rattle.std.specs.List.{AllByRecursion}
use Rattle.std.specs.List.Sorted.{IsStrictlySortedBy}
use Rattle.std.proofs.lemmas.Option.{same_Some}
use Rattle.std.proofs.lemmas.Map.Keys.{sorted_head, sorted_tail}
use Rattle.miniserde_model.specs.Tree.{Tree}
use Rattle.miniserde_keys.specs.Keys.{Key}
use Rattle.miniserde_text.proofs.Equal.{bytes_eq-flips}
use Rattle.miniserde_read.specs.types.Maps.{entry_at}
use Rattle.miniserde_read.proofs.Entries.{equal_if_tested, tested_if_equal}
use Rattle.miniserde_read.proofs.Inserts.{absent-below}
use Rattle.miniserde_ser.specs.Trees.{members_of}
use Rattle.miniserde_laws.proofs.Agree.{written, Agree}

module _ {K V : Type 0} (code : K → Key) (text : K → List ℕ) (f : V → Tree)
    (cmp : K → K → Ordering) (total : IsTotalOrder cmp) (agrees : (a b : K) → is_eq (cmp a b) ≡ bytes_eq (code a) (code b)) where
  -- the keys ascend
  abbrev InOrder : List (K × V) → Type 0
  InOrder es = IsStrictlySortedBy cmp (keys_of es)

  -- what is written of the first entry
  first_written : (q : Key) (e : K × V) (es : List (K × V)) → code e.0 ≡ q
      → written code text f (entry_at code q (e ∷ es)) ≡ Some (text e.0, f e.1)
  first_written q e es s = rw (tested_if_equal (code e.0) q s) refl

  -- below the first key there is none
  below_none : (k : K) (e : K × V) (es : List (K × V)) → InOrder (e ∷ es) → cmp k e.0 ≡ Less → entry_at code (code k) (e ∷ es) ≡ None
  below_none k e es s l = absent-below {C = V} (λ c. c) code (λ v. v) cmp total agrees k e es s l

  -- behind a key there is no entry at its code
  later_none : (k : K) (es : List (K × V)) → AllByRecursion (λ y. cmp k y ≡ Less) (keys_of es) → entry_at code (code k) es ≡ None
  later_none k [] a = refl
  later_none k (e ∷ es) a =
      let apart : bytes_eq (code e.0) (code k) ≡ false = bytes_eq-flips (code e.0) (code k) ∙ sym (agrees k e.0) ∙ ap is_eq a.0 in
      rw apart (later_none k es a.1)

  -- entries agree behind two equal keys
  rest_agrees : (e g : K × V) (es fs : List (K × V)) → code e.0 ≡ code g.0 → InOrder (e ∷ es) → InOrder (g ∷ fs)
      → Agree code text f (e ∷ es) (g ∷ fs) → Agree code text f es fs
  rest_agrees e g es fs s o p a q =
      elim (bytes_eq (code e.0) q)
      as (λ b. bytes_eq (code e.0) q ≡ b → written code text f (entry_at code q es) ≡ written code text f
      (entry_at code q fs)) [
        | true ↦ λ b.
            let at : code e.0 ≡ q = equal_if_tested _ _ b in
            let here : entry_at code q es ≡ None = rw at at (later_none e.0 es (sorted_head cmp e.0 (keys_of es) o)) in
            let there : entry_at code q fs ≡ None = rw (sym s ∙ at) at (later_none g.0 fs (sorted_head cmp g.0 (keys_of fs) p)) in
            rw (here, there) refl
        | false ↦ λ b. let no : bytes_eq (code g.0) q ≡ false = ap (λ c. bytes_eq c q) (sym s) ∙ b in rw (b, no) at (a q)
      ] refl

  pub sorted_same : (es fs : List (K × V)) → InOrder es → InOrder fs → Agree code text f es fs → members_of text f es ≡ members_of text f fs
  sorted_same [] [] o p a = refl
  sorted_same [] (g ∷ fs) o p a = absurd (cc (a (code g.0) ∙ first_written (code g.0) g fs refl))
  sorted_same (e ∷ es) [] o p a = absurd (cc (sym (a (code e.0)) ∙ first_written (code e.0) e es refl))
  sorted_same (e ∷ es) (g ∷ fs) o p a =
      let left = first_written (code e.0) e es refl in
      let right = first_written (code g.0) g fs refl in
      elim (cmp e.0 g.0) as (λ b. cmp e.0 g.0 ≡ b → members_of text f (e ∷ es) ≡ members_of text f (g ∷ fs)) [
        | Equal ↦ λ c.
            let s : code e.0 ≡ code g.0 = equal_if_tested _ _ (sym (agrees e.0 g.0) ∙ ap is_eq c) in
            let one = same_Some _ _ (sym left ∙ a (code e.0) ∙ first_written (code e.0) g fs (sym s)) in
            rw (
              ap (λ z. z.0) one,
              ap (λ z. z.1) one,
              sorted_same es fs (sorted_tail cmp e.0 (keys_of es) o)
                  (sorted_tail cmp g.0 (keys_of fs) p) (rest_agrees e g es fs s o p a),
            ) refl
        | Less ↦ λ c. absurd (cc (sym left ∙ a (code e.0) ∙ ap (written code text f) (below_none e.0 g fs p c)))
        | Greater ↦ λ c.
            let turned : cmp g.0 e.0 ≡ Less = total.antisymm g.0 e.0 ∙ ap ordering_reverse c in
            absurd (cc (sym right ∙ sym (a (code g.0)) ∙ ap (written code text f) (below_none g.0 e es o turned)))
      ] refl

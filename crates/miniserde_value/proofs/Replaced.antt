-- What a write under the first name leaves.
use Rattle.std.proofs.Common.{◌≡◌, List, [], ◌∷◌, Some, sym, ap, ◌∙◌, subst}
use Rattle.std.specs.Prelude.{slice_get}
use Rattle.std.specs.Map.{keys_of, values_of}
use Rattle.std.specs.BTreeMap.{insert_entry}
use Rattle.std.specs.Cmp.{IsTotalOrder}
use Rattle.std.specs.Ordering.{match_ordering}
use Rattle.std.specs.declared.cmp.Ordering.{Ordering}
use Rattle.std.proofs.lemmas.Cmp.{tied_itself}

-- an entry inserted at the first key replaces the first value
pub replaced : {K X : Type 0} {n : List (K × X)} {v w : X} (cmp : K → K → Ordering) → IsTotalOrder cmp → (m : List (K × X)) (k : K)
    → slice_get (keys_of m) 0 ≡ Some k → slice_get (values_of m) 0 ≡ Some v → n ≡ insert_entry cmp m k w
    → (rest : List X) × (values_of m ≡ v ∷ rest) × (values_of n ≡ w ∷ rest)
replaced cmp total [] k hk hv hn = cc
replaced {K = K} {X = X} {v = v} {w = w} cmp total (e ∷ es) k hk hv hn =
    let at : e.0 ≡ k = cc in
    let is : e.1 ≡ v = cc in
    let tied = tied_itself total k in
    let here : insert_entry cmp (e ∷ es) k w ≡ (e.0, w) ∷ es =
    subst (λ (x : K). match_ordering (cmp k x) ((k, w) ∷ e ∷ es) ((e.0, w) ∷ es) (e ∷ insert_entry cmp es k w) ≡ (e.0, w) ∷ es) (sym at)
    (ap (λ (o : Ordering). match_ordering o ((k, w) ∷ e ∷ es) ((e.0, w) ∷ es) (e ∷ insert_entry cmp es k w)) tied) in
    (values_of es, ap (λ (x : X). x ∷ values_of es) is, ap values_of (hn ∙ here))

-- What the query for a key finds: the rows whose key equals the text, which are those that have it.
use Rattle.std.proofs.Common.{true≢false, arith, ◌≡◌, inl, inr, ℕ, List, [], ◌∷◌, ◌++◌, map, flat_map, Bool, true, false, ◌&&◌, cond}
use Rattle.std.proofs.Common.{Some, refl, sym, ap, subst, ◌∙◌, IsPermutation}
use Rattle.std.specs.List.{list_all}
use Rattle.std.specs.Ordering.{is_eq}
use Rattle.std.specs.declared.cmp.Ordering.{Ordering}
use Rattle.std.specs.declared.cmp.Ordering.TheVariants.{Less, Equal, Greater}
use Rattle.std.proofs.lemmas.Map.Lookups.{exact_bytes}
use Rattle.std.proofs.lemmas.Slice.Eq.{bytes_eq-Decides}
use Rattle.std.proofs.lemmas.Map.Text.{is_eq-slice_cmp}
use Rattle.std.proofs.lemmas.List.Sorted.{IsPermutation-sym}
use Rattle.sqlite_trees.proofs.ListLemmas.{all-permutation}
use Rattle.sqlite_rules.specs.Lists.{Has}
use Rattle.sqlite_rules.proofs.ListLemmas.{all_has, all_from, has_right}
use Rattle.sqlite_rules.proofs.ProbeLemmas.{has_mapped, mapped_has}
use Rattle.sqlite_value.proofs.OrderLemmas.{value_cmp-Text, value_cmp-apart}
use Rattle.sqlite_value.specs.declared.value.Value.{Value}
use Rattle.sqlite_value.specs.declared.value.Value.TheVariants.{Null, Int, Real, Text, Blob}
use Rattle.sqlite_sql.specs.Ops.{binary, is_true, from_truth}
use Rattle.sqlite_schema.specs.Rules.{equal}
use Rattle.sqlite.specs.Collation.TheVariants.{Binary}
use Rattle.sqlite.specs.Order.{Row, column}
use Rattle.sqlite.specs.Tree.{Trees}
use Rattle.sqlite.specs.Term.{Term, holds, col, op2}
use Rattle.sqlite_sql.specs.declared.ops.BinaryOp.TheVariants.{Compare}
use Rattle.sqlite_sql.specs.declared.ops.CompareOp.TheVariants.{Eq}
use Rattle.sqlite.specs.Query.{Output, output, matches, IsAnswer}
use Rattle.rows.proofs.Statements.{query_by, query_at}

-- ---- equal texts

pub and_true : (a : Bool) → (a && true) ≡ a
and_true true = refl
and_true false = refl

-- a truth value as a value of SQLite is read as itself
pub truth_back : (b : Bool) → is_true (from_truth (Some b)) ≡ b
truth_back true = refl
truth_back false = refl

pub is_equal : (o : Ordering) → is_eq o ≡ true → o ≡ Equal
is_equal Less h = cc
is_equal Equal h = refl
is_equal Greater h = cc

-- a value that equals a text is that text
pub is_text : (v : Value) (key : List ℕ) → equal Binary v (Text key) ≡ true → v ≡ Text key
unfolding binary
is_text Null key same = absurd (true≢false (sym same))
is_text (Int n) key same = absurd (true≢false (sym same ∙ truth_back _ ∙ ap is_eq (value_cmp-apart (Int n) (Text key) (λ e. omega arith))))
is_text (Real x) key same = absurd
    (true≢false (sym same ∙ truth_back _ ∙ ap is_eq (value_cmp-apart (Real x) (Text key) (λ e. omega arith))))
is_text (Text t) key same = ap Text (exact_bytes t key (is_equal _ (ap is_eq (sym (value_cmp-Text t key)) ∙ sym (truth_back _) ∙ same)))
is_text (Blob b) key same = absurd
    (true≢false (sym same ∙ truth_back _ ∙ ap is_eq (value_cmp-apart (Blob b) (Text key) (λ e. omega arith))))

-- a text equals itself
pub text_is : (v : Value) (key : List ℕ) → v ≡ Text key → equal Binary v (Text key) ≡ true
unfolding binary
text_is v key same = rw same
    (ap (λ o. is_true (from_truth (Some (is_eq o)))) (value_cmp-Text key key) ∙ truth_back _ ∙ is_eq-slice_cmp key key
    ∙ (bytes_eq-Decides key key).1 refl)

-- ---- what a query of one table shows

has_matched : {X Y : Type 0} (p : X → Bool) (f : X → Y) (xs : List X) (y : Y) → Has (flat_map (λ x. cond (p x) (f x ∷ []) []) xs) y
    → (x : X) × Has xs x × (p x ≡ true) × (y ≡ f x)
has_matched p f [] y h = absurd h
has_matched {X} {Y} p f (x ∷ xs) y h = go (p x) refl h (has_matched p f xs y)
  where
    go : (b : Bool) → p x ≡ b → Has (cond b (f x ∷ []) [] ++ flat_map (λ z. cond (p z) (f z ∷ []) []) xs) y
        → (Has (flat_map (λ z. cond (p z) (f z ∷ []) []) xs) y → (z : X) × Has xs z × (p z ≡ true) × (y ≡ f z))
        → (z : X) × Has (x ∷ xs) z × (p z ≡ true) × (y ≡ f z)
    go true is (inl same) later = (x, inl refl, is, same)
    go true is (inr there) later = let r = later there in (r.0, inr r.1, r.2, r.3)
    go false is there later = let r = later there in (r.0, inr r.1, r.2, r.3)

matched_has : {X Y : Type 0} (p : X → Bool) (f : X → Y) (xs : List X) (x : X) → Has xs x → p x ≡ true
    → Has (flat_map (λ z. cond (p z) (f z ∷ []) []) xs) (f x)
matched_has p f [] x h passes = absurd h
matched_has p f (z ∷ xs) x (inl same) passes = rw (← same, passes) (inl refl)
matched_has p f (z ∷ xs) x (inr later) passes = has_right (cond (p z) (f z ∷ []) []) (flat_map (λ w. cond (p w) (f w ∷ []) []) xs) (f x)
    (matched_has p f xs x later passes)

-- what a permutation has, the list has
pub has_permuted : {X : Type 0} (xs ys : List X) (x : X) → IsPermutation xs ys → Has ys x → Has xs x
has_permuted xs ys x same = all_has (Has xs) ys x (all-permutation (Has xs) xs ys same (all_from (Has xs) xs (λ e h. h)))

-- the rows that a query shows are what it makes of the rows that pass its test
pub record AreFound (test : Row → Bool) (show : Row → Row) (rows found : List Row) : Type 0 where
  pub sound : (x : Row) → Has found x → (r : Row) × Has rows r × (test r ≡ true) × (x ≡ show r)
  pub complete : (r : Row) → Has rows r → test r ≡ true → Has found (show r)

-- an answer to the query shows them
pub found_by : (term : Term) (shown : List Term) (db : Trees) (given : Row) (found : List Row)
    → IsAnswer (query_by term shown) db given found
    → AreFound (λ r. list_all (holds (given ∷ r ∷ [])) (term ∷ [])) (λ r. (output (query_by term shown) (given ∷ r ∷ [])).1) (db 0) found
found_by term shown db given found answer =
    let query = query_by term shown in
    let test = λ (r : Row). list_all (holds (given ∷ r ∷ [])) query.filter in
    let env = λ (r : Row). given ∷ r ∷ [] in
    let all = matches db query.filter query.from (given ∷ []) in
    let kept : answer.kept ≡ map (output query) all = answer.distinct ∙ ap (map (output query)) answer.grouped in
    record {
      sound = λ x h.
          let o = has_mapped (λ (k : Output). k.1) answer.ordered x (subst (λ l. Has l x) answer.shown h) in
          let e = has_mapped (output query) all o.0
          (subst (λ l. Has l o.0) kept (has_permuted answer.kept answer.ordered o.0 answer.same o.1)) in
          let r = has_matched test env (db 0) e.0 e.1 in
          (r.0, r.1, r.2, o.2 ∙ ap (λ (k : Output). k.1) (e.2 ∙ ap (output query) r.3));
      complete = λ r h passes.
          let o = output query (env r) in
          let there = subst (λ l. Has l o) (sym kept) (mapped_has (output query) all (env r) (matched_has test env (db 0) r h passes)) in
          subst (λ l. Has l o.1) (sym answer.shown)
          (mapped_has (λ (k : Output). k.1) answer.ordered o
          (has_permuted answer.ordered answer.kept o (IsPermutation-sym _ _ answer.same) there));
    }

-- the rows that the query shows have this column of the rows that have the key
pub record AreShown (at : ℕ) (rows : List Row) (key : List ℕ) (found : List Row) : Type 0 where
  pub sound : (x : Row) → Has found x → (r : Row) × Has rows r × (column r 1 ≡ Text key) × (x ≡ column r at ∷ [])
  pub complete : (r : Row) → Has rows r → column r 1 ≡ Text key → Has found (column r at ∷ [])

-- an answer to the query for a key shows them
pub found_at : (at : ℕ) (db : Trees) (key : List ℕ) (found : List Row) → IsAnswer (query_at at) db (Text key ∷ []) found
    → AreShown at (db 0) key found
found_at at db key found answer =
    let f = found_by (op2 (Compare Eq Binary) (col 1 1) (col 0 0)) (col 1 at ∷ []) db (Text key ∷ []) found answer in
    record {
      sound = λ x h. let r = f.sound x h in (r.0, r.1, is_text (column r.0 1) key (sym (and_true _) ∙ r.2), r.3);
      complete = λ r h has. f.complete r h (and_true _ ∙ text_is (column r 1) key has);
    }

-- If each visit adds one to a count, the visits of all rows add the number of rows.
use Rattle.std.proofs.Common.{arith, ◌≡◌, ◌+◌, ℕ, List, [], ◌∷◌, length, true, Ok, sym, ap, ◌∙◌}
use Rattle.std.proofs.lemmas.List.{length-map}
use Rattle.std.proofs.lemmas.List.Sorted.{length_permutation}
use Rattle.sqlite.specs.declared.types.Value.{Value}
use Rattle.sqlite.specs.Effect.{Database}
use Rattle.rows.specs.Entries.{key_of, body_of, words_of}
use Rattle.rows.specs.Visits.{Entry, VisitStep, GoesOn, TakesAll}

module _ {V : Type 0} (takes : VisitStep V) (count : V → ℕ)
    (adds : (v w : V) (e : Entry) → takes v e.0 e.1 (Ok true) w → count w ≡ count v + 1) where
  counts : (entries : List Entry) (v w : V) → GoesOn takes v entries w → count w ≡ count v + length entries
  counts [] v w same = ap count (sym same) ∙ omega arith
  counts (e ∷ entries) v w all =
      let first = adds v all.0 e all.1 in
      let rest = counts entries all.0 w all.2 in
      omega (arith, first, rest)

  pub counts_all : (db : Database) (v w : V) → count v ≡ 0 → TakesAll takes db v w → count w ≡ length (db.trees 0)
  counts_all db v w none all =
      let number = length_permutation _ _ all.1.same in
      let entries = length-map all.0 words_of in
      let rows = length-map {B = Value × Value} (db.trees 0) (λ row. (key_of row, body_of row)) in
      omega (arith, none, counts all.0 v w all.2, number, entries, rows)

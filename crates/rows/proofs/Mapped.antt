-- The rows of a database of this schema are a map from texts to texts: each column is STRICT and NOT NULL, and the key unique.
use Rattle.std.proofs.Common.{◌≡◌, ℕ, List, [], ◌∷◌, true, not, None, refl, sym, ap, subst, ◌∙◌, true≢false, drop}
use Rattle.std.proofs.lemmas.Bool.{and_parts}
use Rattle.sqlite_rules.proofs.ListLemmas.{all_has}
use Rattle.sqlite_schema.specs.declared.schema.Kind.TheVariants as kind
use Rattle.sqlite_schema.specs.declared.schema.Constraint.TheVariants.{Datatype, NotNull, Unique}
use Rattle.sqlite_schema.specs.Rules.{Obeys, is_of, are_typed, are_present}
use Rattle.sqlite_sql.specs.Ops.{is_null}
use Rattle.sqlite.specs.declared.types.Value.{Value}
use Rattle.sqlite.specs.declared.types.Value.TheVariants.{Null, Int, Real, Text, Blob}
use Rattle.sqlite.specs.Order.{Row}
use Rattle.sqlite.specs.Effect.{Database, IsDatabase}
use Rattle.rows.specs.Entries.{entry, key_of, body_of, IsStore, IsMap}
use Rattle.rows.proofs.Kept.{text_of_same}
use Rattle.rows.proofs.Unique.{one_row}

text_value : (v : Value) → is_of kind.Text v ≡ true → not (is_null v) ≡ true → (t : List ℕ) × (v ≡ Text t)
text_value Null p q = absurd (true≢false (sym q))
text_value (Int n) p q = absurd (true≢false (sym p))
text_value (Real x) p q = absurd (true≢false (sym p))
text_value (Text t) p q = (t, refl)
text_value (Blob b) p q = absurd (true≢false (sym p))

-- a row that is typed and has no NULL has two texts
two_texts : (row : Row) → are_present None 0 entry.columns row ≡ true → are_typed None 0 entry.columns (drop 1 row) ≡ true
    → (k b : List ℕ) × (key_of row ≡ Text k) × (body_of row ≡ Text b)
two_texts [] p t = absurd (true≢false (sym p))
two_texts (id ∷ []) p t = absurd (true≢false (sym p))
two_texts (id ∷ k ∷ []) p t = absurd (true≢false (sym (and_parts _ _ p).1))
two_texts (id ∷ k ∷ b ∷ rest) p t =
    let present = and_parts _ _ p in
    let typed = and_parts _ _ t in
    let key = text_value k typed.0 present.0 in
    let body = text_value b (and_parts _ _ typed.1).0 (and_parts _ _ present.1).0 in
    (key.0, body.0, key.1, body.1)

-- a store that obeys its schema is a map
pub is_map : (db : Database) → IsDatabase db → IsStore db → IsMap db
is_map db sound store =
    let obeys = subst (λ s. Obeys s db.trees) store.schema sound.obeys in
    record {
      texts = λ row h. two_texts row (all_has _ (db.trees 0) row (obeys.rules NotNull).0 h)
          (and_parts _ _ (all_has _ (db.trees 0) row (obeys.rules Datatype).0 h)).0;
      only = λ key a b p q.
          let same = one_row db.trees p.0 q.0 key (obeys.rules Unique) store.keyed store.rising p.1 q.1 p.2 q.2 in
          text_of_same a b (sym p.3 ∙ ap body_of same ∙ q.3);
    }

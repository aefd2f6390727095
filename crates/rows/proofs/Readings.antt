-- Rows that a query gives one at a time. Those that it has given begin an answer, and the database is as it was: a loop carries
-- `HasRead` from one row to the next.
use Rattle.std.proofs.Common.{◌≡◌, ◌⊎◌, inl, inr, List, [], ◌∷◌, ◌++◌, map, Option, Some, None, String, IsTrue}
use Rattle.std.proofs.Common.{refl, sym, ◌∙◌, ℕ}
use Rattle.std.specs.List.{AllByRecursion}
use Rattle.std.specs.Global.{Global}
use Rattle.std.proofs.lemmas.List.{map-append}
use Rattle.sqlite_trees.specs.declared.store.Store.{Ghosts}
use Rattle.sqlite_rules.specs.Lists.{Has}
use Rattle.sqlite_rules.proofs.ProbeLemmas.{has_mapped}
use Rattle.sqlite.specs.declared.types.Value.{Value}
use Rattle.sqlite.specs.Order.{Row}
use Rattle.sqlite.specs.Effect.{Database, IsDatabase}
use Rattle.sqlite.specs.Listing.{understood}
use Rattle.sqlite.specs.State.{State, IsUnchanged, Shown}
use Rattle.sqlite.specs.Held.{Held, state}
use Rattle.sqlite.specs.Stream.{returned, HasEnded}
use Rattle.sqlite.specs.Given.{HasGiven, Returns, Advances}
use Rattle.sqlite.proofs.Callers.{IsPlain, begun_plain, unchanged_then}
use Rattle.rows.specs.Entries.{texts_of, words_of, IsStore}
use Rattle.rows.specs.Visits.{Entry, ShowsTexts}
use Rattle.rows.proofs.Each.{stored, shown}
use Rattle.rows.proofs.Mapped.{is_map}
use Rattle.rows.proofs.Serving.{shown_open}

-- a key and a body that are texts
abbrev pub AreTexts : Value × Value → Type 0
AreTexts v = (e : Entry) × (v ≡ words_of e)

pub entries_of : (vs : List (Value × Value)) → AllByRecursion AreTexts vs → (es : List Entry) × (vs ≡ map words_of es)
entries_of [] all = ([], refl)
entries_of (v ∷ vs) all =
    let rest = entries_of vs all.1 in
    (all.0.0 ∷ rest.0, λ i. all.0.1 i ∷ rest.1 i)

-- a row of a sound store has two texts
pub stored_texts : (db : Database) → IsDatabase db → IsStore db → (v : Value × Value) → Has (map stored (db.trees 0)) v → AreTexts v
stored_texts db sound store v h =
    let row = has_mapped stored (db.trees 0) v h in
    let texts = (is_map db sound store).texts row.0 row.1 in
    ((texts.0, texts.1), row.2 ∙ (λ i. (texts.2 i, texts.3 i)))

module _ {S : Type 0} (g : Ghosts S) (text : List ℕ) (params : Row) where
  -- what `sqlite` says of a query once it has begun
  abbrev pub Starts : Held S → Held S → Type 0
  Starts old now =
      (HasGiven g text params now [] × IsUnchanged (state g old) (state g now))
      ⊎ (Returns (understood old.schema text) × Shown text params (state g old) (state g now) (returned now.reading)
      × HasEnded now.reading)

  -- then the connection was open
  pub starts_open : (old now : Held S) → Starts old now → IsTrue (state g old).is_open
  starts_open old now (inl h) = h.1.0.was_open
  starts_open old now (inr h) = shown_open text params (state g old) (state g now) (returned now.reading) h.1

  -- the query has given rows that show these entries, and the database is as it was
  pub record HasRead (old now : Held S) (entries : List Entry) : Type 0 where
    pub same : IsUnchanged (state g old) (state g now)
    pub given : List Row
    pub gives : HasGiven g text params now given
    pub read : map shown given ≡ map words_of entries

  -- at its start it has given none
  pub read_none : (old now : Held S) → IsPlain (understood old.schema text) → Starts old now → HasRead old now []
  read_none old now plain h =
      let at = begun_plain g text params old now plain h in
      record { same = at.1; given = []; gives = at.0; read = refl }

  -- it gives one more row
  pub read_one : (old mid now : Held S) (row : Option Row) (texts : String Global × String Global) (entries : List Entry)
      → HasRead old mid entries → IsUnchanged (state g mid) (state g now) → Advances g mid now row → ShowsTexts row (Some texts)
      → HasRead old now (entries ++ texts_of texts ∷ [])
  read_one old mid now None texts entries has same moves shows = absurd shows
  read_one old mid now (Some row) texts entries has same moves shows = record {
    same = unchanged_then (state g old) (state g mid) (state g now) has.same same;
    given = has.given ++ row ∷ [];
    gives = moves text params has.given has.gives;
    read = map-append shown has.given (row ∷ []) ∙ (λ i. has.read i ++ shows i ∷ [])
        ∙ sym (map-append words_of entries (texts_of texts ∷ []));
  }

  -- it has no more: those that it gave are the answer
  pub read_all : (old mid now : Held S) (row : Option Row) (entries : List Entry) (has : HasRead old mid entries)
      → Advances g mid now row → ShowsTexts row None → Shown text params (state g mid) (state g now) has.given
  read_all old mid now (Some row) entries has moves shows = absurd shows
  read_all old mid now None entries has moves shows = moves text params has.given has.gives

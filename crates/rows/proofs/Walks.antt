-- Rows that are visited one at a time. The rows that a query has given so far begin an answer, and the rows of an answer are the
-- entries of the table: so those of the rows that were read begin them. A loop carries `Walks` from one row to the next.
use Rattle.std.proofs.Common.{◌≡◌, inl, inr, Bool, true, List, [], ◌∷◌, ◌++◌, map, Option, Some, None, Ok, Result, String}
use Rattle.std.proofs.Common.{refl, sym, ap, subst, ◌∙◌}
use Rattle.std.specs.List.{FoldsTo}
use Rattle.std.specs.Global.{Global}
use Rattle.std.proofs.lemmas.List.{map-append}
use Rattle.sqlite_trees.specs.declared.store.Store.{Ghosts}
use Rattle.sqlite_rules.specs.Lists.{Has}
use Rattle.sqlite_rules.proofs.ListLemmas.{all_from, has_right}
use Rattle.sqlite.specs.declared.types.Value.TheVariants.{Null}
use Rattle.sqlite.specs.Order.{Row}
use Rattle.sqlite.specs.Program.{overlay}
use Rattle.sqlite.specs.Effect.{Database, IsDatabase}
use Rattle.sqlite.specs.Listing.{understood}
use Rattle.sqlite.specs.State.{State, IsUnchanged, Begins}
use Rattle.sqlite.specs.Held.{Held, state}
use Rattle.sqlite.specs.Given.{Advances}
use Rattle.sqlite.proofs.Callers.{IsPlain, begins_as, given_begin}
use Rattle.rows.specs.Entries.{each_text, entry_schema, texts_of, words_of, AreEntries, IsStore}
use Rattle.rows.specs.Visits.{Entry, VisitStep, BeginsEntries, GoesOn, TakesAll, TakesFirst, StopsAt, ShowsTexts}
use Rattle.rows.specs.declared.error.Error.{Error}
use Rattle.rows.proofs.Each.{stored, shown, permuted, answers_each, shows_each}
use Rattle.rows.proofs.Found.{has_permuted}
use Rattle.rows.proofs.Readings.{AreTexts, entries_of, stored_texts, Starts, HasRead, read_none, read_one, read_all}
use Rattle.rows.proofs.Statements.{each_command, each_is, each_plain}

-- ---- the rows so far

-- rows that begin an answer are the first entries
pub begins_entries : (s : State) (found : List Row) (front : List Entry) → IsDatabase s.now → IsStore s.now
    → Begins each_text [] s found → map shown found ≡ map words_of front → BeginsEntries s.now front
begins_entries s found front sound store h read =
    let first = begins_as each_text [] s s entry_schema store.schema each_command each_is.0 each_plain each_is.1 found h in
    let tail = first.1.0 in
    let trees = overlay s.now.trees [] in
    let answer = first.1.1 Null in
    let joined = map-append shown found tail in
    let rest = entries_of (map shown tail)
    (all_from AreTexts (map shown tail) (λ v there. stored_texts s.now sound store v
    (has_permuted (map stored (trees 0)) (map shown (found ++ tail)) v (permuted trees (found ++ tail) answer)
    (subst (λ l. Has l v) (sym joined) (has_right (map shown found) (map shown tail) v there))))) in
    let all : map shown (found ++ tail) ≡ map words_of (front ++ rest.0) =
    joined ∙ (λ i. read i ++ rest.1 i) ∙ sym (map-append words_of front rest.0) in
    (rest.0, answers_each s.now (found ++ tail) (front ++ rest.0) answer all)

-- ---- one visit after another

more : {P A : Type 0} (R : P → A → P → Type 0) (xs : List A) (x : A) (p q r : P) → FoldsTo R p xs q → R q x r → FoldsTo R p (xs ++ x ∷ []) r
more R [] x p q r all last = (r, subst (λ z. R z x r) (sym all) last, refl)
more R (y ∷ xs) x p q r all last = (all.0, all.1, more R xs x all.0 q r all.2 last)

module _ {S V : Type 0} (g : Ghosts S) (takes : VisitStep V) where
  -- the query has given the rows that the visitor took, and the database is as it was
  pub record Walks (old now : Held S) (v w : V) : Type 0 where
    pub front : List Entry
    pub reads : HasRead g each_text [] old now front
    pub took : GoesOn takes v front w

  -- the query is at its start
  pub starts : (old now : Held S) (v : V) → Starts g each_text [] old now → old.schema ≡ entry_schema → Walks old now v v
  starts old now v h has =
      record {
        front = [];
        reads = read_none g each_text [] old now (subst (λ s. IsPlain (understood s each_text)) (sym has) each_plain) h;
        took = refl;
      }

  -- one more row is read
  pub record Reads (old now : Held S) (v w : V) (last : Entry) : Type 0 where
    pub front : List Entry
    pub reads : HasRead g each_text [] old now (front ++ last ∷ [])
    pub took : GoesOn takes v front w

  pub reads : (old mid now : Held S) (v w : V) (row : Option Row) (texts : String Global × String Global) → Walks old mid v w
      → IsUnchanged (state g mid) (state g now) → Advances g mid now row → ShowsTexts row (Some texts) → Reads old now v w (texts_of texts)
  reads old mid now v w row texts walks same moves shows = record {
    front = walks.front;
    reads = read_one g each_text [] old mid now row texts walks.front walks.reads same moves shows;
    took = walks.took;
  }

  -- and the visitor takes it
  pub took : (old now : Held S) (v w u : V) (last : Entry) → Reads old now v w last → takes w last.0 last.1 (Ok true) u → Walks old now v u
  took old now v w u last reads takes_it = record {
    front = reads.front ++ last ∷ [];
    reads = reads.reads;
    took = more _ reads.front last v w u reads.took takes_it;
  }

  module _ (old now : Held S) (sound : IsDatabase (state g old).now) (store : IsStore (state g old).now) where
    begins_at : (front : List Entry) → HasRead g each_text [] old now front → BeginsEntries (state g old).now front
    begins_at front has =
        let back = has.same.0.now_is in
        subst (λ db. BeginsEntries db front) back
        (begins_entries (state g now) has.given front (subst IsDatabase (sym back) sound) (subst IsStore (sym back) store)
        (given_begin g each_text [] now has.given has.gives) has.read)

    -- the visitor took the first rows
    pub takes_first : (v w : V) → Walks old now v w → TakesFirst takes (state g old).now v w
    takes_first v w walks = (walks.front, begins_at walks.front walks.reads, walks.took)

    -- or stopped at one
    pub stops : (v w u : V) (last : Entry) (r : Result Bool Error) → Reads old now v w last → takes w last.0 last.1 r u
        → StopsAt takes (state g old).now v u r
    stops v w u last r reads takes_it = (reads.front, last, w, begins_at (reads.front ++ last ∷ []) reads.reads, reads.took, takes_it)

  -- or took all
  pub takes_all : (old mid now : Held S) (v w : V) (row : Option Row) → old.schema ≡ entry_schema → Walks old mid v w
      → Advances g mid now row → ShowsTexts row None → TakesAll takes (state g old).now v w
  takes_all old mid now v w row has walks moves shows =
      let back = walks.reads.same.0.now_is in
      let all = shows_each (state g mid) (state g now) walks.reads.given walks.front (ap (λ (db : Database). db.schema) back ∙ has)
      (read_all g each_text [] old mid now row walks.front walks.reads moves shows) walks.reads.read in
      (walks.front, subst (λ db. AreEntries db walks.front) back all, walks.took)

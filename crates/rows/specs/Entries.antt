-- The table of the rows: its statements, its schema, and what its rows are.
use Rattle.std.specs.Prelude.{◌≡◌, ◌⊎◌, ◌↔◌, ◌≤◌, ◌<◌, ◌+◌, ℕ, min, List, [], ◌∷◌, ◌++◌, map, length, codes, true, false, None, String}
use Rattle.std.specs.Prelude.{string_bytes, IsTrue, IsPermutation}
use Rattle.std.specs.declared.cmp.Ordering.TheVariants.{Less}
use Rattle.sqlite_schema.specs.declared.schema.Column.{Column}
use Rattle.sqlite_schema.specs.declared.schema.Index.{Index}
use Rattle.sqlite_schema.specs.declared.schema.Stamps.{Stamps}
use Rattle.std.specs.Global.{Global}
use Rattle.std.specs.Ordering.{nat_cmp, is_ge}
use Rattle.std.specs.Cmp.Lexicographic.{slice_cmp}
use Rattle.std.specs.List.Sorted.{IsSortedByKey, IsStrictlySortedBy}
use Rattle.sqlite_value.specs.Keys.{plain}
use Rattle.sqlite.specs.Collation.TheVariants.{Binary}
use Rattle.sqlite.specs.declared.types.Value.{Value}
use Rattle.sqlite.specs.declared.types.Value.TheVariants.{Null, Text as Words}
use Rattle.sqlite.specs.Order.{Row, column}
use Rattle.sqlite.specs.Effect.{Database}
use Rattle.sqlite.specs.State.{State, IsUnchanged, IsRolledBack}
use Rattle.sqlite_rules.specs.Lists.{Has}
use Rattle.std.specs.List.{AllByRecursion}
use Rattle.sqlite.specs.Tree.{rowid, IsTable}
use Rattle.sqlite.specs.View.{is_int}
use Rattle.sqlite.specs.Table.{Table}
use Rattle.sqlite.specs.Schema.{Schema}
use Rattle.sqlite.specs.Change.{created}
use Rattle.sqlite.specs.Kind.TheVariants.{Text}

-- the statement that makes the table
abbrev pub create_text : List ℕ
create_text = codes "CREATE TABLE IF NOT EXISTS entry (key TEXT PRIMARY KEY NOT NULL, body TEXT NOT NULL) STRICT"

-- the statement that puts a body under a key
abbrev pub put_text : List ℕ
put_text = codes "INSERT INTO entry (key, body) VALUES (?1, ?2) ON CONFLICT(key) DO UPDATE SET body = excluded.body"

-- the statement that removes the row of a key
abbrev pub remove_text : List ℕ
remove_text = codes "DELETE FROM entry WHERE key = ?1"

-- the query for the body of a key
abbrev pub get_text : List ℕ
get_text = codes "SELECT body FROM entry WHERE key = ?1"

-- the query for a key
abbrev pub has_text : List ℕ
has_text = codes "SELECT key FROM entry WHERE key = ?1"

-- the query for all rows
abbrev pub each_text : List ℕ
each_text = codes "SELECT key, body FROM entry ORDER BY key"

-- the query for the first rows from a key on
abbrev pub range_text : List ℕ
range_text = codes "SELECT key, body FROM entry WHERE key >= ?1 ORDER BY key LIMIT ?2"

-- the query for the number of rows
abbrev pub len_text : List ℕ
len_text = codes "SELECT count(*) FROM entry"

-- the statement that begins a transaction
abbrev pub begin_text : List ℕ
begin_text = codes "BEGIN"

-- the statement that commits a transaction
abbrev pub commit_text : List ℕ
commit_text = codes "COMMIT"

-- the statement that rolls a transaction back
abbrev pub rollback_text : List ℕ
rollback_text = codes "ROLLBACK"

-- a column of texts that are never NULL
abbrev pub text_column : List ℕ → Column
text_column name =
    record { name = name; kind = Text; is_strict = true; not_null = true; default = Null; collation = Binary }

-- no default that reads the time
abbrev pub no_stamps : Stamps
no_stamps = record { places = []; terms = []; formats = [] }

-- the table: two columns of texts that are never NULL, and the first is its primary key
abbrev pub entry : Table
entry = record {
  name = codes "entry";
  tree = 0;
  columns = text_column (codes "key") ∷ text_column (codes "body") ∷ [];
  key = None;
  primary = 1 ∷ [];
  uniques = (1 ∷ []) ∷ [];
  orders = plain ∷ [];
  checks = [];
  references = [];
  computed = [];
  stamps = no_stamps;
  is_counted = false;
}

-- the index of its primary key
abbrev pub entry_index : Index
entry_index = record {
  name = codes "sqlite_autoindex_entry_1";
  tree = 1;
  table = 0;
  columns = 1 ∷ [];
  order = plain;
  is_unique = true;
}

-- the schema of a database with no table
abbrev pub no_schema : Schema
no_schema = record { tables = []; indexes = []; views = [] }

-- the schema of a database with this table alone
abbrev pub entry_schema : Schema
entry_schema = created no_schema entry

-- the key in a row of the table, whose first column is the rowid
abbrev pub key_of : Row → Value
key_of r = column r 1

-- the body in a row of the table
abbrev pub body_of : Row → Value
body_of r = column r 2

-- a row of the table has this key and this body
abbrev pub Holds : Database → List ℕ → List ℕ → Type 0
Holds db key body = (row : Row) × Has (db.trees 0) row × (key_of row ≡ Words key) × (body_of row ≡ Words body)

-- a row of the table has this key
abbrev pub HasKey : Database → List ℕ → Type 0
HasKey db key = (row : Row) × Has (db.trees 0) row × (key_of row ≡ Words key)

-- The database has the table alone, whose rows are `trees 0` (`tree` of `entry`). Their rowids are integers (`keyed`), and
-- increase (`rising`).
pub record IsStore (db : Database) : Type 0 where
  pub schema : db.schema ≡ entry_schema
  pub keyed : AllByRecursion (λ row. is_int (rowid row) ≡ true) (db.trees 0)
  pub rising : IsTable (db.trees 0)

-- each row has a text as its key and a text as its body, and a key has one body
pub record IsMap (db : Database) : Type 0 where
  pub texts : (row : Row) → Has (db.trees 0) row → (k b : List ℕ) × (key_of row ≡ Words k) × (body_of row ≡ Words b)
  pub only : (key a b : List ℕ) → Holds db key a → Holds db key b → a ≡ b

-- the new database is a store where the key has this body and no other, and other keys have the bodies that they had
pub record IsPut (old new : Database) (key body : List ℕ) : Type 0 where
  pub store : IsStore new
  pub here : Holds new key body
  pub only : (other : List ℕ) → Holds new key other → other ≡ body
  pub others : (k b : List ℕ) → (k ≡ key → ⊥) → Holds new k b ↔ Holds old k b

-- the new database is a store where no row has the key, and other keys have the bodies that they had
pub record IsRemoved (old new : Database) (key : List ℕ) : Type 0 where
  pub store : IsStore new
  pub gone : HasKey new key → ⊥
  pub others : (k b : List ℕ) → (k ≡ key → ⊥) → Holds new k b ↔ Holds old k b

-- the connection is outside of a transaction, and what it sees is its last commit
abbrev pub IsCommitted : State → Type 0
IsCommitted s = (s.in_transaction ≡ false) × (s.committed ≡ s.now)

-- the connection was outside of a transaction and is inside of one, where it sees what it saw before
pub record IsBegun (old new : State) : Type 0 where
  pub was_outside : old.in_transaction ≡ false
  pub inside : new.in_transaction ≡ true
  pub is_open : IsTrue new.is_open
  pub now : new.now ≡ old.now
  pub committed : new.committed ≡ old.committed

-- the connection was open, and is open inside of a transaction, and its last commit is the one from before
pub record StaysInside (old new : State) : Type 0 where
  pub was_open : IsTrue old.is_open
  pub is_open : IsTrue new.is_open
  pub inside : new.in_transaction ≡ true
  pub committed : new.committed ≡ old.committed

-- The connection is outside of a transaction. Unless it is shut, it sees its last commit, which is the one from before.
pub record IsBack (old new : State) : Type 0 where
  pub is_outside : new.in_transaction ≡ false
  pub was_open : IsTrue new.is_open → IsTrue old.is_open
  pub now : IsTrue new.is_open → new.now ≡ old.committed
  pub committed : IsTrue new.is_open → new.committed ≡ old.committed

-- the connection sees what it saw before, unless the call has shut it
abbrev pub IsUndone : State → State → Type 0
IsUndone old new = IsTrue new.is_open → new.now ≡ old.now

-- The connection is outside of a transaction. Unless it is shut, it sees a store, which is its last commit.
abbrev pub IsServing : State → Type 0
IsServing s = (s.in_transaction ≡ false) × (IsTrue s.is_open → (s.committed ≡ s.now) × IsStore s.now)

-- the connection sees what it saw before, unless it is shut, and no call opens one that was shut
abbrev pub Keeps : State → State → Type 0
Keeps old new = IsTrue new.is_open → IsTrue old.is_open × (new.now ≡ old.now)

-- the connection is as it was, or its transaction is rolled back unless it is shut
abbrev pub Aborts : State → State → Type 0
Aborts old new = IsUnchanged old new ⊎ IsRolledBack old new

-- the bytes of a key and of a body
abbrev pub texts_of : String Global × String Global → List ℕ × List ℕ
texts_of e = (string_bytes e.0, string_bytes e.1)

-- a key and a body as values of SQLite
abbrev pub words_of : List ℕ × List ℕ → Value × Value
words_of e = (Words e.0, Words e.1)

-- the entries are the keys and bodies of the table's rows, as many times as they are there, in the byte order of the
-- keys
pub record AreEntries (db : Database) (entries : List (List ℕ × List ℕ)) : Type 0 where
  pub same : IsPermutation (map (λ row. (key_of row, body_of row)) (db.trees 0)) (map words_of entries)
  pub sorted : IsSortedByKey (λ e. e.0) (slice_cmp nat_cmp) entries

-- the second text does not come before the first in the byte order
abbrev pub IsFrom : List ℕ → List ℕ → Type 0
IsFrom start key = IsTrue (is_ge (slice_cmp nat_cmp key start))

-- the bytes of the keys and bodies of these entries
abbrev pub bytes_in : List (List ℕ × List ℕ) → ℕ
bytes_in [] = 0
bytes_in (e ∷ entries) = length e.0 + length e.1 + bytes_in entries

-- The page has as many entries as it may have, or at least as many bytes.
abbrev pub IsFull : ℕ → ℕ → List (List ℕ × List ℕ) → Type 0
IsFull limit max_bytes entries = (length entries ≡ limit) ⊎ (max_bytes ≤ bytes_in entries)

-- Only its last entry brings a page to this many bytes: the entries before the last one, if there are any, have fewer.
abbrev pub StopsInTime : ℕ → List (List ℕ × List ℕ) → Type 0
StopsInTime max_bytes entries = (front : List (List ℕ × List ℕ)) (last : List ℕ × List ℕ) → entries ≡ front ++ last ∷ []
    → (front ≡ [] → ⊥) → bytes_in front < max_bytes

-- The entries are rows of the table whose keys do not come before `start`, in the byte order of the keys, each once. A page has
-- at most `limit` entries, and ends with the entry that brings it to `max_bytes`. A row from `start` on is missing only if the
-- page is full and the row comes after all its entries.
pub record IsPage (db : Database) (start : List ℕ) (limit max_bytes : ℕ) (entries : List (List ℕ × List ℕ)) : Type 0 where
  pub held : (e : List ℕ × List ℕ) → Has entries e → IsFrom start e.0 × Holds db e.0 e.1
  pub rising : IsStrictlySortedBy (slice_cmp nat_cmp) (map (λ e. e.0) entries)
  pub most : length entries ≤ limit
  pub in_time : StopsInTime max_bytes entries
  pub complete : (k b : List ℕ) → IsFrom start k → Holds db k b → Has entries (k, b)
      ⊎ (IsFull limit max_bytes entries × ((e : List ℕ × List ℕ) → Has entries e → slice_cmp nat_cmp e.0 k ≡ Less))

-- the number of rows of the table, as SQLite counts them: up to the greatest integer of 64 bits
abbrev pub row_count : Database → ℕ
row_count db = min (length (db.trees 0)) 9223372036854775807

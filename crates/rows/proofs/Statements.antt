-- What the texts of the statements mean under the schema of the table: the checker computes each of them.
use Rattle.std.proofs.Common.{◌≡◌, ℕ, List, [], ◌∷◌, Ok, Some, None, codes, pos, negsuc, false, refl}
use Rattle.sqlite.specs.Compile.{table_defined_by}
use Rattle.sqlite_tied.specs.Compute.{everything}
use Rattle.sqlite.specs.Listing.{understood, reads_listing}
use Rattle.sqlite.specs.declared.types.Value.TheVariants.{Null, Int}
use Rattle.sqlite.specs.Term.{Term, lit, col, op2}
use Rattle.sqlite.specs.Query.{Query, inner, end}
use Rattle.sqlite.specs.Source.TheVariants.{Values}
use Rattle.sqlite.specs.Command.{Command}
use Rattle.sqlite.specs.Command.TheVariants.{CreateTable, InsertOr, Delete, Select, Begin, Commit, Rollback, Nothing}
use Rattle.sqlite.specs.Collation.TheVariants.{Binary}
use Rattle.sqlite_value.specs.Keys.{ascending}
use Rattle.sqlite_schema.specs.declared.command.Conflict.TheVariants.{Abort}
use Rattle.sqlite_schema.specs.declared.command.Upsert.{Upsert}
use Rattle.sqlite_schema.specs.declared.program.Program.{Program}
use Rattle.sqlite_sql.specs.declared.ops.BinaryOp.TheVariants.{Compare}
use Rattle.sqlite_sql.specs.declared.ops.CompareOp.TheVariants.{Eq, Ge}
use Rattle.sqlite_sql.specs.declared.aggregate.AggregateOp.TheVariants.{CountRows}
use Rattle.sqlite_sql.specs.Group.{Grouping}
use Rattle.sqlite.proofs.Callers.{IsPlain, command_of, statement_of}
use Rattle.rows.specs.Entries.{create_text, put_text, remove_text, get_text, has_text, each_text, begin_text, commit_text}
use Rattle.rows.specs.Entries.{range_text, len_text, rollback_text, entry, no_schema, entry_schema}

abbrev pub terms : List Term
terms = lit Null ∷ col 0 0 ∷ col 0 1 ∷ []

-- the query that shows these columns of the rows that pass a test
abbrev pub query_by : Term → List Term → Query
query_by test shown = record {
  from = inner 0 end;
  filter = test ∷ [];
  group = None;
  project = shown;
  distinct = false;
  collations = [];
  order = [];
  limit = lit (Int (negsuc 0));
  offset = lit (Int (pos 0));
}

-- the query that shows this column of the rows of a key
abbrev pub query_at : ℕ → Query
query_at at = query_by (op2 (Compare Eq Binary) (col 1 1) (col 0 0)) (col 1 at ∷ [])

pub create_is : (command_of (understood no_schema create_text) ≡ CreateTable)
    × (statement_of create_text (understood no_schema create_text) ≡ create_text) × (table_defined_by create_text ≡ Ok entry)
unfolding understood everything
create_is = (refl, refl, refl)

pub create_plain : IsPlain (understood no_schema create_text)
unfolding understood everything
create_plain = (refl, refl)

-- the query that gives the row of a rowid, with the new body
abbrev pub has_id : Term
has_id = op2 (Compare Eq Binary) (col 1 0) (col 0 2)

abbrev pub with_body : List Term
with_body = col 1 0 ∷ col 1 0 ∷ col 1 1 ∷ col 0 5 ∷ []

abbrev pub update : Program
update = record { lets = []; body = query_by has_id with_body }

-- a row of the key is updated
abbrev pub clause : Upsert
clause = record { target = Some (1 ∷ []); update = Some update }

pub put_is : command_of (understood entry_schema put_text) ≡ InsertOr 0 Abort (Values terms 3) (clause ∷ [])
unfolding understood everything
put_is = refl

pub put_plain : IsPlain (understood entry_schema put_text)
unfolding understood everything
put_plain = (refl, refl)

abbrev pub remove_command : Command
remove_command = Delete 0 (record { lets = []; body = query_at 0 })

pub remove_is : command_of (understood entry_schema remove_text) ≡ remove_command
unfolding understood everything
remove_is = refl

pub remove_plain : IsPlain (understood entry_schema remove_text)
unfolding understood everything
remove_plain = (refl, refl)

abbrev pub key_command : ℕ → List (List ℕ) → Command
key_command at names = Select (record { lets = []; body = query_at at }) names

-- the text is the query that shows this column of the rows of a key
pub record IsKeyQuery (sql : List ℕ) (at : ℕ) : Type 0 where
  pub names : List (List ℕ)
  pub is : command_of (understood entry_schema sql) ≡ key_command at names
  pub unlisted : reads_listing entry_schema sql ≡ false
  pub plain : IsPlain (understood entry_schema sql)

pub get_query : IsKeyQuery get_text 2
unfolding understood everything
get_query = record { names = codes "body" ∷ []; is = refl; unlisted = refl; plain = (refl, refl) }

pub has_query : IsKeyQuery has_text 1
unfolding understood everything
has_query = record { names = codes "key" ∷ []; is = refl; unlisted = refl; plain = (refl, refl) }

pub again_is : command_of (understood entry_schema create_text) ≡ Nothing
unfolding understood everything
again_is = refl

pub again_plain : IsPlain (understood entry_schema create_text)
unfolding understood everything
again_plain = (refl, refl)

pub begin_is : (command_of (understood entry_schema begin_text) ≡ Begin) × IsPlain (understood entry_schema begin_text)
unfolding understood everything
begin_is = (refl, (refl, refl))

pub commit_is : (command_of (understood entry_schema commit_text) ≡ Commit) × IsPlain (understood entry_schema commit_text)
unfolding understood everything
commit_is = (refl, (refl, refl))

pub rollback_is : (command_of (understood entry_schema rollback_text) ≡ Rollback) × IsPlain (understood entry_schema rollback_text)
unfolding understood everything
rollback_is = (refl, (refl, refl))

abbrev pub each_query : Query
each_query = record {
  from = inner 0 end;
  filter = [];
  group = None;
  project = col 1 1 ∷ col 1 2 ∷ [];
  distinct = false;
  collations = [];
  order = (col 1 1, ascending Binary) ∷ [];
  limit = lit (Int (negsuc 0));
  offset = lit (Int (pos 0));
}

abbrev pub each_command : Command
each_command = Select (record { lets = []; body = each_query }) (codes "key" ∷ codes "body" ∷ [])

pub each_is : (command_of (understood entry_schema each_text) ≡ each_command) × (reads_listing entry_schema each_text ≡ false)
unfolding understood everything
each_is = (refl, refl)

pub each_plain : IsPlain (understood entry_schema each_text)
unfolding understood everything
each_plain = (refl, refl)

-- the query for the first rows from a key on
abbrev pub is_from : Term
is_from = op2 (Compare Ge Binary) (col 1 1) (col 0 0)

abbrev pub range_query : Query
range_query = record {
  from = inner 0 end;
  filter = is_from ∷ [];
  group = None;
  project = col 1 1 ∷ col 1 2 ∷ [];
  distinct = false;
  collations = [];
  order = (col 1 1, ascending Binary) ∷ [];
  limit = col 0 1;
  offset = lit (Int (pos 0));
}

abbrev pub range_command : Command
range_command = Select (record { lets = []; body = range_query }) (codes "key" ∷ codes "body" ∷ [])

pub range_is : (command_of (understood entry_schema range_text) ≡ range_command) × (reads_listing entry_schema range_text ≡ false)
unfolding understood everything
range_is = (refl, refl)

pub range_plain : IsPlain (understood entry_schema range_text)
unfolding understood everything
range_plain = (refl, refl)

-- the query for the number of rows
abbrev pub all_rows : Grouping
all_rows = record {
  keys = [];
  collations = [];
  aggregates = record { op = CountRows; distinct = false; collation = Binary; argument = lit Null } ∷ [];
  having = [];
}

abbrev pub len_query : Query
len_query = record {
  from = inner 0 end;
  filter = [];
  group = Some all_rows;
  project = col 1 0 ∷ [];
  distinct = false;
  collations = [];
  order = [];
  limit = lit (Int (negsuc 0));
  offset = lit (Int (pos 0));
}

abbrev pub len_command : Command
len_command = Select (record { lets = []; body = len_query }) (codes "count(*)" ∷ [])

pub len_is : (command_of (understood entry_schema len_text) ≡ len_command) × (reads_listing entry_schema len_text ≡ false)
unfolding understood everything
len_is = (refl, refl)

pub len_plain : IsPlain (understood entry_schema len_text)
unfolding understood everything
len_plain = (refl, refl)

-- What the schema of the table is when it is written out, and what a database of this schema has.
use Rattle.std.proofs.Common.{arith, ◌≡◌, List, [], ◌∷◌, ◌++◌, ℕ, true, codes, refl, ap, ◌∙◌}
use Rattle.std.proofs.lemmas.Fmt.{decimal_digit}
use Rattle.sqlite_value.specs.Keys.{plain}
use Rattle.sqlite_schema.specs.declared.schema.Schema.{Schema}
use Rattle.rows.specs.Entries.{entry, entry_index, entry_schema}

-- the schema, written out
pub written_out : entry_schema ≡ record { tables = entry ∷ []; indexes = entry_index ∷ []; views = [] }
written_out = ap (λ (digits : List ℕ). let s : Schema = record {
  tables = entry ∷ [];
  indexes = record {
    name = codes "sqlite_autoindex_" ++ (codes "entry" ++ (codes "_" ++ digits));
    tree = 1;
    table = 0;
    columns = 1 ∷ [];
    order = plain;
    is_unique = true;
  } ∷ [];
  views = [];
} in s) (decimal_digit 1 (omega arith))

-- a schema is that one exactly if each of its parts is
pub parts : (s : Schema) → s.tables ≡ entry ∷ [] → s.indexes ≡ entry_index ∷ [] → s.views ≡ [] → s ≡ entry_schema
parts s tables indexes views = rw (written_out, tables, indexes, views) refl

pub its_tables : (s : Schema) → s ≡ entry_schema → s.tables ≡ entry ∷ []
its_tables s is = ap (λ (s : Schema). s.tables) is

pub its_indexes : (s : Schema) → s ≡ entry_schema → s.indexes ≡ entry_index ∷ []
its_indexes s is = ap (λ (s : Schema). s.indexes) (is ∙ written_out)

pub its_views : (s : Schema) → s ≡ entry_schema → s.views ≡ []
its_views s is = ap (λ (s : Schema). s.views) is

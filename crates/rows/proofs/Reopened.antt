-- What an open finds is the database that was committed: the trees are the same, and they list one schema.
use Rattle.std.proofs.Common.{◌≡◌, ℕ, List, sym, ap, subst, ◌∙◌}
use Rattle.std.proofs.Math.Logic.{∥∥₁_elim}
use Rattle.sqlite_disk.specs.declared.Disk.{Ghosts}
use Rattle.sqlite_disk.specs.declared.Files.{Files}
use Rattle.sqlite_wal.specs.Recovery.{Image}
use Rattle.sqlite_wal.specs.Reads.{AreClean}
use Rattle.sqlite_schema.specs.declared.schema.Schema.{Schema}
use Rattle.sqlite_trees.specs.Tree.{Trees}
use Rattle.sqlite_trees.specs.Props.{Trees-set}
use Rattle.sqlite_trees.specs.Objects.{catalog_tree}
use Rattle.sqlite_catalog.specs.Listing.{Lists}
use Rattle.sqlite_catalog.proofs.ReadLemmas.{lists_once}
use Rattle.sqlite_store.specs.declared.store.FileStore.{FileStore}
use Rattle.sqlite.specs.Effect.{Database, IsDatabase}
use Rattle.sqlite.specs.State.{State, IsLive, IsUnchanged, Opens}
use Rattle.sqlite.specs.Held.{Held}
use Rattle.sqlite.specs.Files.{HoldsDatabase, IsOpened, Finds, file_state}
use Rattle.sqlite.specs.Start.{FindsIn}
use Rattle.sqlite.specs.Closing.{IsCopied}
use Rattle.rows.specs.Entries.{IsPut, IsCommitted}
use Rattle.sqlite.proofs.Callers.{finds_again}

abbrev database : Schema → Trees → Database
database schema trees = record { schema = schema; trees = trees }

-- trees that list a schema are one database
pub one_database : (a b : Database) → IsDatabase a → IsDatabase b → a.trees ≡ b.trees → a ≡ b
one_database a b p q same =
    let schemas : a.schema ≡ b.schema =
    lists_once (b.trees catalog_tree) a.schema b.schema (subst (λ (t : Trees). Lists (t catalog_tree) a.schema) same p.lists) q.lists in
    ap (λ s. database s a.trees) schemas ∙ ap (database b.schema) same

-- an open sees the database whose trees it committed last
opened_is : (s : State) (db : Database) → Opens s → IsLive s → IsDatabase db → s.committed.trees ≡ db.trees → s.now ≡ db
opened_is s db opens live sound same = one_database s.now db (live opens.is_open).0 sound
    (ap (λ (d : Database). d.trees) opens.clean ∙ same)

-- the files held the database
pub opened_finds : (image : Image) (s : State) (db : Database) → Opens s → IsLive s → FindsIn image s → IsDatabase db
    → ∥ HoldsDatabase image db.trees ∥₁ → s.now ≡ db
opened_finds image s db opens live found sound holds =
    opened_is s db opens live sound (∥∥₁_elim holds (Trees-set _ _) (found.holds db.trees))

-- the files were closed
pub reopened_finds : {D : Type 0} {g : Ghosts D} (old new : Held (FileStore D g)) (files : Files D) → IsLive (file_state old)
    → (AreClean g files.log files.db → IsCopied old files) → IsOpened new → Finds files new
    → (file_state new).now ≡ (file_state old).committed
reopened_finds old new files live closed opened found =
    opened_is (file_state new) (file_state old).committed opened.0 opened.1 (live (closed found.honest).was_open).1
    (finds_again old new files closed found)

-- a call that changes nothing leaves what was committed
pub still_committed : (old new : State) → IsCommitted old → IsUnchanged old new → IsCommitted new
still_committed old new c same = (same.0.mode ∙ c.0, same.0.committed_is ∙ c.1 ∙ sym same.0.now_is)

-- and so a connection that was opened
pub opened_committed : (old new : State) → Opens old → IsUnchanged old new → IsCommitted new
opened_committed old new opens = still_committed old new (opens.autocommit, sym opens.clean)

-- what was put is in the database that is found, and stays there if a call changes nothing
pub still_put : (old put again new : Database) (key body : List ℕ) → IsPut old put key body → again ≡ put → new ≡ again
    → IsPut old new key body
still_put old put again new key body p found same = subst (λ db. IsPut old db key body) (sym (same ∙ found)) p

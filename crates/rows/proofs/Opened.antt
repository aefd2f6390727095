-- A database that an open found in files, and that has the schema of the table, is a store: the trees of a file are in order.
use Rattle.std.proofs.Common.{arith, ◌≡◌, inl, inr, ℕ, List, true, refl, sym, ap, subst}
use Rattle.std.proofs.Math.Logic.{∥∥₁_elim}
use Rattle.sqlite_wal.specs.Recovery.{Image}
use Rattle.sqlite_pages.specs.PageMap.{PageMap}
use Rattle.sqlite_pool.specs.File.{in_use, version_in}
use Rattle.sqlite_trees.specs.declared.store.Shape.TheVariants as shape
use Rattle.sqlite_trees.specs.Tree.{Trees}
use Rattle.sqlite_trees.specs.View.{IsShaped, IsOrdered}
use Rattle.sqlite_trees.specs.Props.{IsShaped-prop}
use Rattle.sqlite_trees.specs.Objects.{catalog_tree, IsListed}
use Rattle.sqlite_rules.specs.Lists.{Has}
use Rattle.sqlite_schema.specs.declared.schema.Schema.{Schema}
use Rattle.sqlite_schema.specs.declared.schema.Table.{Table}
use Rattle.sqlite_catalog.specs.Listing.{IsSound}
use Rattle.sqlite_catalog.proofs.LayoutLemmas.{table_shape}
use Rattle.sqlite_store.specs.declared.catalog.Wanted.{Wanted}
use Rattle.sqlite_store.specs.Listing.{all_shapes, all_reals, file_trees, IsOurs}
use Rattle.sqlite_store.specs.Listed.{catalog_rows, is_listed}
use Rattle.sqlite_store.proofs.ListingLemmas.{all_ordered}
use Rattle.sqlite.specs.Effect.{Database}
use Rattle.sqlite.specs.State.{State, IsLive, Opens}
use Rattle.sqlite.specs.Files.{AreFoundIn}
use Rattle.rows.specs.Entries.{entry, entry_schema, IsServing}

module _ (size : ℕ) (wanted : List Wanted) (pages : PageMap) (ours : IsOurs size true wanted pages) where
  abbrev trees : Trees
  trees = file_trees size wanted pages

  in_order : IsOrdered (all_shapes wanted) trees
  in_order = all_ordered ours.file.db (version_in pages)

  listing : IsListed (trees catalog_tree) (all_shapes wanted) (all_reals wanted)
  listing = rw (catalog_rows size wanted (in_use size pages)) (is_listed wanted)

  -- the rows of each table have integers as rowids, which increase
  table_in_order : (schema : Schema) (t : Table) → Has schema.tables t → IsSound schema trees → IsShaped shape.Table (trees t.tree)
  table_in_order schema t has sound =
      let rise = (subst (λ s. IsShaped s (trees catalog_tree)) listing.itself.0 (in_order catalog_tree)).0 in
      subst (λ s. IsShaped s (trees t.tree)) (table_shape listing rise sound.lists.listed t has).0 (in_order t.tree)

found_in_order : (image : Image) (db : Trees) → AreFoundIn image db → IsSound entry_schema db → IsShaped shape.Table (db 0)
found_in_order image db (inl (size, pages, wanted, adopts, ours, is)) sound =
    ∥∥₁_elim ours (IsShaped-prop shape.Table (db 0)) (λ o. subst (λ (t : Trees). IsShaped shape.Table (t 0)) (sym is)
    (table_in_order size wanted pages o entry_schema entry (inl refl) (subst (IsSound entry_schema) is sound)))
found_in_order image db (inr nothing) sound = rw (nothing.1.0 0 (omega arith)) (tt, tt)

-- a connection that was opened over files with the schema of the table serves a store
pub opened_serves : (image : Image) (s : State) → Opens s → IsLive s → AreFoundIn image s.committed.trees → s.now.schema ≡ entry_schema
    → IsServing s
opened_serves image s opens live found has =
    let trees = ap (λ (d : Database). d.trees) opens.clean in
    let sound = subst (λ c. IsSound c s.now.trees) has (live opens.is_open).0 in
    let order = found_in_order image s.now.trees (subst (AreFoundIn image) (sym trees) found) sound in
    (opens.autocommit, λ l. (sym opens.clean, record { schema = has; keyed = order.1; rising = order.0 }))

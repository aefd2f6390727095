-- The meaning of a tuple: the children of a list mean its items one by one (RFC 8259, section 5).
use Rattle.std.specs.Prelude.{◌≡◌, ◌↔◌, ℕ, Bool, List, Option, Some, None}
use Rattle.miniserde_model.specs.Tree.{Trees}
use Rattle.miniserde_read.specs.Meaning.{Meaning, meaning_with}
use Rattle.miniserde_read.specs.Rest.{ElementsAt}
use Rattle.miniserde_read.specs.types.Tuples.{NoneReads, none_of, ItemReads, item_of, TupleReads, tuple_of}
use Rattle.miniserde_read.specs.laws.Tuples.{none-given, item-given, tuple-given}

-- the meaning of a tuple's items, which have the type V as nested pairs: which children of a list mean which items
pub record ItemsMeaning (V : Type 0) : Type 1 where
  -- the content of the items, and the type of that content
  pub Content : Type 0
  pub content : V → Content
  -- the content that the children of a list give, if they give any
  pub from_trees : Trees → Option Content
  -- the children mean the items one by one, and no child is left
  pub reads : Trees → V → Type 0
  -- children mean items exactly if they give the content of the items
  pub reads_agrees : (ts : Trees) (v : V) → reads ts v ↔ (from_trees ts ≡ Some (content v))

-- the meaning of an empty chain of items: children mean it if there are none
abbrev pub no_items : ItemsMeaning (Unit {0})
no_items = record { Content = Unit {0}; content = λ v. tt; from_trees = none_of; reads = NoneReads; reads_agrees = none-given }

-- the meaning of one item, by m, and of the items after it, by n
abbrev pub item_and : {T V : Type 0} → Meaning T → ItemsMeaning V → ItemsMeaning (T × V)
item_and m n = record {
  Content = m.Content × n.Content;
  content = λ v. (m.content v.0, n.content v.1);
  from_trees = item_of m.from_tree n.from_trees;
  reads = ItemReads m.reads n.reads;
  reads_agrees = item-given m.reads n.reads m.from_tree n.from_trees m.content n.content m.reads_agrees n.reads_agrees;
}

-- the meaning of a tuple, by the meaning n of its items, which `items` returns: a list means the
-- tuple if the list's children mean the items
abbrev pub tuple_meaning : {V W : Type 0} → ItemsMeaning V → (W → V) → Meaning W
tuple_meaning n items =
    meaning_with (λ w. n.content (items w)) (tuple_of n.from_trees) (λ t w. TupleReads n.reads t (items w))
    (λ t w. tuple-given n.reads_agrees t (items w))

-- from s to r stand elements and a closing bracket, and `of` returns the content c for the elements; `first` says
-- that the opening bracket was just taken
abbrev pub ItemsGiveAt : {C : Type 0} → (Trees → Option C) → Bool → List ℕ → List ℕ → C → Type 0
ItemsGiveAt of first s r c = (ts : Trees) × ElementsAt ts first s r × (of ts ≡ Some c)

-- `of` returns no content for any elements that a prefix of s spells, with the closing bracket;
-- `first` says that the opening bracket was just taken
abbrev pub ItemsGiveNoneAt : {C : Type 0} → (Trees → Option C) → Bool → List ℕ → Type 0
ItemsGiveNoneAt of first s = (ts : Trees) (r : List ℕ) → ElementsAt ts first s r → of ts ≡ None

-- The meaning of a struct's fields with a map that keeps the members of other names.
use Rattle.std.specs.Prelude.{◌≡◌, false, List, ◌++◌, Some, option_map, option_and_then}
use Rattle.std.proofs.Common.{ap, ◌∙◌}
use Rattle.miniserde_model.specs.Tree.{Tree, members}
use Rattle.miniserde_read.specs.Meaning.{Meaning}
use Rattle.miniserde_read.specs.types.Objects.{Name, after_members}
use Rattle.miniserde_read.specs.types.Maps.{MapContent, MapReads, no_entries, map_member}
use Rattle.miniserde_record.specs.FieldsMeaning.{FieldsMeaning}
use Rattle.miniserde_record.specs.Marks.{is_among}
use Rattle.miniserde_record.specs.laws.Left.{left}
use Rattle.miniserde_more.specs.Rest.{others, kept, name_keys, rest_content, rest_member}
use Rattle.miniserde_more.specs.laws.Rest.{fields-apart, rest-agrees}

-- The meaning of a map beside fields, by the meaning n of the fields, their names ns, and the meaning m of the map's values;
-- `entries` returns the map's entries, and `text` the name of a key. The fields mean what they mean without the map. The
-- map, without entries of the fields' names and of the further names, is what the object of the members of other names
-- means: at each name it has an entry exactly if there is such a member, and the tree of the last one means its value.
abbrev pub with_rest : {K V W M : Type 0} → (K → Name) → List Name → List Name → Meaning V → (M → List (K × V)) → FieldsMeaning W
    → FieldsMeaning (M × W)
with_rest text ns further m entries n = record {
  Content = MapContent m.Content × n.Content;
  content = λ v. (rest_content text (further ++ ns) m.content (entries v.0), n.content v.1);
  State = MapContent m.Content × n.State;
  empty = (no_entries, n.empty);
  count = n.count;
  next_state = λ names s k t. option_and_then (λ x. option_map (λ r. (r, x)) (rest_member (further ++ ns) m.from_tree s.0 k t))
      (n.next_state ns s.1 k t);
  refuses = λ names s k. n.refuses ns s.1 k;
  refuses_agrees = λ names s k h t. ap (option_and_then (λ x. option_map (λ r. (r, x)) (rest_member (further ++ ns) m.from_tree s.0 k t)))
      (n.refuses_agrees ns s.1 k h t);
  end = λ s. option_map (λ d. (s.0, d)) (n.end s.1);
  from_members = λ names s ms. option_and_then (λ r. option_map (λ d. (r, d)) (n.from_members ns s.1 ms))
      (after_members (map_member Some (λ k. k) m.from_tree) s.0 (others (further ++ ns) ms));
  members_agree = λ names s ms. fields-apart (further ++ ns) m.from_tree (n.next_state ns) n.end s.0 s.1 ms
      ∙ ap (λ p. option_and_then (λ r. option_map (λ d. (r, d)) p)
      (after_members (map_member Some (λ k. k) m.from_tree) s.0 (others (further ++ ns) ms))) (n.members_agree ns s.1 ms);
  reads = λ before names ms v. n.reads before ns ms v.1
      × MapReads (name_keys text) m.from_tree m.reads (members (others (further ++ ns) (left before ms)))
      (kept text (further ++ ns) (entries v.0));
  reads_agrees = λ before names ms v. rest-agrees text m (others (further ++ ns) (left before ms))
      (kept text (further ++ ns) (entries v.0)) (n.reads_agrees before ns ms v.1);
}

-- members whose names no field has leave the fields as they are, by the meaning n of the fields
abbrev pub IsOpen : {V : Type 0} → FieldsMeaning V → Type 0
IsOpen n = (names : List Name) (s : n.State) (k : Name) (t : Tree) → is_among names k ≡ false → n.next_state names s k t ≡ Some s

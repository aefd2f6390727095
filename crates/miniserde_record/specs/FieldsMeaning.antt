-- The meaning of a struct, by the meanings and the marks of its fields.
use Rattle.std.proofs.Common.{◌∙◌}
use Rattle.std.specs.Prelude.{◌≡◌, ◌↔◌, refl, ℕ, ◌+◌, Bool, true, false, cond, List, [], Option, Some, None, option_and_then, ⊤}
use Rattle.miniserde_model.specs.Tree.{Tree, Members}
use Rattle.miniserde_read.specs.Meaning.{Meaning, meaning_with}
use Rattle.miniserde_read.specs.types.Objects.{Name, object_of, after_members}
use Rattle.miniserde_record.specs.Aliases.{field_name_of, with_field_names}
use Rattle.miniserde_record.specs.Fields.{MemberRule, field_member, field_refuses, field_end, field_rule, fields_content}
use Rattle.miniserde_record.specs.Fields.{missing_content, MissingReads, value_rule, FieldsRead, StructReads}
use Rattle.miniserde_record.specs.Marks.{has_no_members, all_among}
use Rattle.miniserde_record.specs.laws.Left.{left}
use Rattle.miniserde_record.specs.laws.Aliases.{alias-apart}
use Rattle.miniserde_record.specs.laws.Fields.{none-refused, field-refused, none-apart, closed-apart, field-apart}
use Rattle.miniserde_record.specs.laws.Meanings.{none-agrees, closed-agrees, missing-agrees, field-agrees, struct-agrees}

-- the meaning of the fields of a struct: which members mean which values V, by the names of the fields
pub record FieldsMeaning (V : Type 0) : Type 1 where
  -- the content of the fields' values, and the type of that content
  pub Content : Type 0
  pub content : V → Content
  -- the type of the state of the fields after some members, and the state before any member
  pub State : Type 0
  pub empty : State
  -- the number of fields
  pub count : ℕ
  -- the state after one more member, if the member is no error, by the fields' names, the state
  -- before it, the member's name and its tree
  pub next_state : List Name → State → Name → Tree → Option State
  -- whether a member's name is an error whatever its tree, by the fields' names and the state
  -- before; `refuses_agrees` says that `next_state` returns no state then
  pub refuses : List Name → State → Name → Bool
  pub refuses_agrees : (names : List Name) (s : State) (k : Name) → refuses names s k ≡ true → (t : Tree) → next_state names s k t ≡ None
  -- the content by the state after the last member, if each field has a value or may be missing
  pub end : State → Option Content
  -- the content that members give, field by field, by the fields' names and the state before them;
  -- `members_agree` says that they give the same by `next_state`, one by one, and `end`
  pub from_members : List Name → State → Members → Option Content
  pub members_agree : (names : List Name) (s : State) (ms : Members)
      → option_and_then end (after_members (next_state names) s ms) ≡ from_members names s ms
  -- The members mean the values, by two lists of names: `before` has those of a tag and of the fields that stand in the
  -- struct before these fields, and `names` has those of these fields.
  -- `reads_agrees` says that they do exactly if the members whose names are not in `before` give the values' content.
  pub reads : List Name → List Name → Members → V → Type 0
  pub reads_agrees : (before names : List Name) (ms : Members) (v : V)
      → reads before names ms v ↔ (from_members names empty (left before ms) ≡ Some (content v))

-- the meaning of no fields: members of all names are skipped
abbrev pub no_fields : FieldsMeaning (Unit {0})
no_fields = record {
  Content = Unit {0};
  content = λ _. tt;
  State = Unit {0};
  empty = tt;
  count = 0;
  next_state = λ ns s k t. Some tt;
  refuses = λ ns s k. false;
  refuses_agrees = λ ns s k h t. none-refused (Some tt) h;
  end = λ s. Some tt;
  from_members = λ ns s ms. Some tt;
  members_agree = λ ns s ms. none-apart ms;
  reads = λ before ns ms v. ⊤;
  reads_agrees = λ before ns ms v. none-agrees v;
}

-- The meaning of the end of the fields of a `closed` struct. Members with the names of the fields, and of a tag beside
-- them, do not reach it, and each member that does is an error: so members are read if each has one of the names
-- `before`.
abbrev pub closed_end : FieldsMeaning (Unit {0})
closed_end = record {
  Content = Unit {0};
  content = λ _. tt;
  State = Unit {0};
  empty = tt;
  count = 0;
  next_state = λ ns s k t. None;
  refuses = λ ns s k. true;
  refuses_agrees = λ ns s k h t. refl;
  end = λ s. Some tt;
  from_members = λ ns s ms. cond (has_no_members ms) (Some tt) None;
  members_agree = λ ns s ms. closed-apart s ms;
  reads = λ before ns ms v. all_among before ms ≡ true;
  reads_agrees = λ before ns ms v. closed-agrees before ms v;
}

-- what a member's tree does to a field of a type with the meaning m, and to the later ones, with the meaning n
abbrev trees_rule : {T V : Type 0} → Bool → (m : Meaning T) (n : FieldsMeaning V) → MemberRule m.Content n.State Tree
trees_rule once m n = record { once = once; of = m.from_tree; later = n.next_state }

-- The meaning of a field and of the later fields, by the meaning m of the field's type and n of the
-- later fields. If `once` is true, at most one member has the field's name. If the field is
-- missing, it counts as if a member had the tree `given` (`given-present`, `given-missing`); if
-- that is `None`, it has the value `absent`, if there is one.
abbrev pub field_and : {T V : Type 0} → Bool → Option Tree → Meaning T → Option T → FieldsMeaning V → FieldsMeaning (T × V)
field_and once given m absent n = record {
  Content = m.Content × n.Content;
  content = λ v. (m.content v.0, n.content v.1);
  State = Option m.Content × n.State;
  empty = (None, n.empty);
  count = n.count + 1;
  next_state = field_member (trees_rule once m n);
  refuses = field_refuses once n.refuses;
  refuses_agrees = field-refused (trees_rule once m n) n.refuses n.refuses_agrees;
  end = field_end (missing_content m given absent) n.end;
  from_members = fields_content (field_rule once given m absent) n.from_members;
  members_agree = field-apart (field_rule once given m absent) n.next_state n.end n.from_members n.members_agree;
  reads = FieldsRead (record { first = value_rule once given m absent; later = n.reads });
  reads_agrees = field-agrees once m (missing_content m given absent) (MissingReads m given absent)
      (missing-agrees m given absent) n.reads n.from_members n.content n.empty n.reads_agrees;
}

-- the meaning n of fields, with the aliases ps: a member whose name is an alias counts as one with
-- the name of the alias's field
abbrev pub with_aliases : {V : Type 0} → List (Name × Name) → FieldsMeaning V → FieldsMeaning V
with_aliases ps n = record {
  Content = n.Content;
  content = n.content;
  State = n.State;
  empty = n.empty;
  count = n.count;
  next_state = λ names s k t. n.next_state names s (field_name_of ps k) t;
  refuses = λ names s k. n.refuses names s (field_name_of ps k);
  refuses_agrees = λ names s k h t. n.refuses_agrees names s (field_name_of ps k) h t;
  end = n.end;
  from_members = λ names s ms. n.from_members names s (with_field_names ps ms);
  members_agree = λ names s ms. alias-apart ps (n.next_state names) n.end s ms ∙ n.members_agree names s (with_field_names ps ms);
  reads = λ before names ms v. n.reads [] names (with_field_names ps (left before ms)) v;
  reads_agrees = λ before names ms v. n.reads_agrees [] names (with_field_names ps (left before ms)) v;
}

-- the meaning of a struct, by the meaning n of its fields and their names; `values` returns the fields' values
abbrev pub struct_meaning : {V W : Type 0} → FieldsMeaning V → List Name → (W → V) → Meaning W
struct_meaning n names values =
    meaning_with (λ w. n.content (values w)) (object_of (n.from_members names n.empty)) (StructReads (n.reads [] names) values)
    (struct-agrees (n.reads [] names) values (n.from_members names n.empty) n.content (n.reads_agrees [] names))

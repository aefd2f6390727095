-- The meaning of an enum, by the meanings of its variants' data.
use Rattle.std.specs.Prelude.{◌≡◌, ◌↔◌, refl, ℕ, ◌+◌, true, List, Option, Some, None}
use Rattle.miniserde_model.specs.Tree.{Tree}
use Rattle.miniserde_read.specs.Meaning.{Meaning, meaning_with}
use Rattle.miniserde_read.specs.types.Objects.{Name}
use Rattle.miniserde_record.specs.Structs.{is_new, are_distinct}
use Rattle.miniserde_enum.specs.declared.one_of.OneOf.{OneOf}
use Rattle.miniserde_enum.specs.declared.one_of.Never.{Never}
use Rattle.miniserde_enum.specs.Tagging.{Tagging, content_by_tagging, external, internal}
use Rattle.miniserde_enum.specs.Cases.{variant_content, unit_content, data_content, CaseReads, UnitReads, DataReads, case_content}
use Rattle.miniserde_enum.specs.laws.Cases.{case-fresh, case-agrees, unit-agrees, data-agrees}

-- the meaning of the variants V of an enum: which trees mean which values, by the tagging and the variants' names
pub record CasesMeaning (V : Type 0) : Type 1 where
  -- the content of a value, and the type of that content; two values are equal here if their contents are
  pub Content : Type 0
  pub content : V → Content
  -- the number of variants
  pub count : ℕ
  -- by the variants' names, the content that a name and data give, if they are a variant's name and
  -- its data
  pub content_by_name : List Name → Name → Option Tree → Option Content
  -- a name that no variant has gives no content
  pub fresh : (names : List Name) (n : Name) (o : Option Tree) → is_new n names ≡ true → content_by_name names n o ≡ None
  -- the tree means the value, by the tagging and the variants' names
  pub reads : Tagging → List Name → Tree → V → Type 0
  -- a tree means a value exactly if it gives the value's content, by names of which no two are equal
  pub agrees : (tagging : Tagging) (names : List Name) → are_distinct names ≡ true → (t : Tree) (v : V)
      → reads tagging names t v ↔ (content_by_tagging tagging (content_by_name names) t ≡ Some (content v))

-- the meaning of no variants: no tree means a value
abbrev pub no_cases : CasesMeaning Never
no_cases = record {
  Content = Never;
  content = λ v. v;
  count = 0;
  content_by_name = λ ns k o. None;
  fresh = λ ns n o h. refl;
  reads = λ tagging ns t v. ⊥;
  agrees = λ tagging ns d t v. elim v [ ];
}

-- the meaning of a variant without data and of the later variants, by their meaning n
abbrev pub unit_and : {V : Type 0} → CasesMeaning V → CasesMeaning (OneOf (Unit {0}) V)
unit_and n = record {
  Content = OneOf (Unit {0}) n.Content;
  content = case_content (λ u. u) n.content;
  count = n.count + 1;
  content_by_name = variant_content unit_content n.content_by_name;
  fresh = case-fresh unit_content UnitReads (λ u. u) unit-agrees n.content_by_name n.reads n.content n.fresh n.agrees;
  reads = λ tagging. CaseReads (UnitReads tagging) (n.reads tagging);
  agrees = case-agrees unit_content UnitReads (λ u. u) unit-agrees n.content_by_name n.reads n.content n.fresh n.agrees;
}

-- the meaning of a variant with data and of the later variants, by the meaning m of the data and n of the later ones
abbrev pub data_and : {T V : Type 0} → Meaning T → CasesMeaning V → CasesMeaning (OneOf T V)
data_and m n = record {
  Content = OneOf m.Content n.Content;
  content = case_content m.content n.content;
  count = n.count + 1;
  content_by_name = variant_content (data_content m.from_tree) n.content_by_name;
  fresh = case-fresh (data_content m.from_tree) (DataReads m.reads) m.content
      (data-agrees m.reads m.from_tree m.content m.reads_agrees) n.content_by_name n.reads n.content n.fresh
      n.agrees;
  reads = λ tagging. CaseReads (DataReads m.reads tagging) (n.reads tagging);
  agrees = case-agrees (data_content m.from_tree) (DataReads m.reads) m.content
      (data-agrees m.reads m.from_tree m.content m.reads_agrees) n.content_by_name n.reads n.content n.fresh
      n.agrees;
}

-- the content that a tree gives for an externally tagged enum, by the meaning n of its variants and their names
abbrev pub enum_content : {V : Type 0} (n : CasesMeaning V) → List Name → Tree → Option n.Content
enum_content n names = content_by_tagging external (n.content_by_name names)

-- the tree means an externally tagged enum: by the meaning n of its variants and their names, it means v, the value of
-- the variant
abbrev pub enum_reads : {V : Type 0} (n : CasesMeaning V) → List Name → Tree → V → Type 0
enum_reads n names t v = n.reads external names t v

-- the meaning of an externally tagged enum, by the meaning n of its variants and their names; `values` returns the
-- value of the variant
abbrev pub enum_meaning : {V W : Type 0} (n : CasesMeaning V) (names : List Name) → are_distinct names ≡ true → (W → V) → Meaning W
enum_meaning n names distinct values =
    meaning_with (λ v. n.content (values v)) (enum_content n names) (λ t v. enum_reads n names t (values v))
    (λ t v. n.agrees external names distinct t (values v))

-- the content that a tree gives for an enum that is tagged by `tag`, by the meaning n of its variants and their names
abbrev pub tagged_content : {V : Type 0} (n : CasesMeaning V) → Name → List Name → Tree → Option n.Content
tagged_content n tag names = content_by_tagging (internal tag) (n.content_by_name names)

-- the tree means an enum that is tagged by `tag`: by the meaning n of its variants and their names, it means v, the
-- value of the variant
abbrev pub tagged_reads : {V : Type 0} (n : CasesMeaning V) → Name → List Name → Tree → V → Type 0
tagged_reads n tag names t v = n.reads (internal tag) names t v

-- the meaning of an enum that is tagged by `tag`, by the meaning n of its variants and their names; `values` returns
-- the value of the variant
abbrev pub tagged_meaning : {V W : Type 0} (n : CasesMeaning V) → Name → (names : List Name)
    → are_distinct names ≡ true → (W → V) → Meaning W
tagged_meaning n tag names distinct values =
    meaning_with (λ v. n.content (values v)) (tagged_content n tag names) (λ t v. tagged_reads n tag names t (values v))
    (λ t v. n.agrees (internal tag) names distinct t (values v))

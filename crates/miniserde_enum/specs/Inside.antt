-- The data of an internally tagged enum: the members of its object that are not of the tag's name.
use Rattle.std.proofs.Common.{◌∙◌}
use Rattle.std.specs.Prelude.{◌≡◌, false, cond, [], ◌∷◌, ◌++◌, Option, Some, bytes_eq}
use Rattle.miniserde_model.specs.Tree.{Tree, members}
use Rattle.miniserde_read.specs.types.Objects.{Name, object_of}
use Rattle.miniserde_record.specs.Fields.{other_members}
use Rattle.miniserde_record.specs.FieldsMeaning.{FieldsMeaning}
use Rattle.miniserde_enum.specs.laws.Inside.{beside-refused, beside-apart, beside-given}

-- the content that `of` returns for an object without its members of the tag's name; any other tree gives nothing
abbrev pub inside_of : {C : Type 0} → Name → (Tree → Option C) → Tree → Option C
inside_of tag of = object_of (λ ms. of (members (other_members tag ms)))

-- the meaning of fields whose object has a tag too, by the fields' meaning n: the members of the
-- tag's name are skipped
abbrev pub beside_tag : {V : Type 0} → Name → FieldsMeaning V → FieldsMeaning V
beside_tag tag n = record {
  Content = n.Content;
  content = n.content;
  State = n.State;
  empty = n.empty;
  count = n.count;
  next_state = λ names s k t. cond (bytes_eq k tag) (Some s) (n.next_state names s k t);
  refuses = λ names s k. cond (bytes_eq k tag) false (n.refuses names s k);
  refuses_agrees = λ names s k h t. beside-refused {refuses = n.refuses names s k} (bytes_eq k tag) (Some s)
      (λ e. n.refuses_agrees names s k e t) h;
  end = n.end;
  from_members = λ names s ms. n.from_members names s (other_members tag ms);
  members_agree = λ names s ms. beside-apart tag (n.next_state names) n.end s ms ∙ n.members_agree names s (other_members tag ms);
  reads = λ before names ms v. n.reads (before ++ tag ∷ []) names ms v;
  reads_agrees = λ before names ms v. beside-given tag before ms (λ z. n.from_members names n.empty z ≡ Some (n.content v))
      (n.reads_agrees (before ++ tag ∷ []) names ms v);
}

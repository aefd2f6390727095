-- A member of another name than the fields': the value that is due joins the map, and the fields stay as they are
-- (`due_rest`). So none of them refuses it (`not_refused`).
use Rattle.std.proofs.Common.{◌≡◌, ℕ, Bool, true, false, List, ◌++◌, refl, sym, ap, ◌∙◌, true≢false}
use Rattle.std.specs.Prelude.{option_map, option_and_then, is_some}
use Rattle.miniserde_model.specs.Tree.{null}
use Rattle.miniserde_read.specs.Due.{ReadsDue}
use Rattle.miniserde_read.specs.Meaning.{Meaning}
use Rattle.miniserde_read.specs.types.Objects.{Name}
use Rattle.miniserde_read.specs.types.Maps.{MapContent, with_entry}
use Rattle.miniserde_record.specs.FieldsMeaning.{FieldsMeaning}
use Rattle.miniserde_record.specs.Marks.{is_among}
use Rattle.miniserde_more.specs.Rest.{rest_member}
use Rattle.miniserde_more.specs.RestMeaning.{IsOpen}
use Rattle.miniserde_more.proofs.RestTaken.{not_named}

-- a name that was not found among the further names and a constant's names is none of them
pub not_own : (fs : List Name) {names ns : List Name} {found : Bool} (k : Name) → names ≡ ns → found ≡ is_among (fs ++ names) k
    → found ≡ false → is_among (fs ++ ns) k ≡ false
not_own fs k s f e = ap (λ ns. is_among (fs ++ ns) k) (sym s) ∙ sym f ∙ e

module _ {W : Type 0} (n : FieldsMeaning W) (open_n : IsOpen n) (fs ns : List Name) (k : Name) (other : is_among (fs ++ ns) k ≡ false) where
  pub not_refused : (s : n.State) {P : Type 0} → n.refuses ns s k ≡ true → P
  not_refused s h =
      absurd (true≢false (ap is_some (sym (open_n ns s k null (not_named fs ns k other)) ∙ n.refuses_agrees ns s k h null)))

  pub due_rest : {V : Type 0} (m : Meaning V) (s : MapContent m.Content × n.State) (c : m.Content) (after : MapContent m.Content)
      {b d : List ℕ} → after ≡ with_entry (λ k. k) s.0 k c → ReadsDue m.from_tree b d c
      → ReadsDue (λ t. option_and_then
      (λ x. option_map {U = MapContent m.Content × n.State} (λ r. (r, x)) (rest_member (fs ++ ns) m.from_tree s.0 k t))
      (n.next_state ns s.1 k t)) b d (after, s.1)
  due_rest m s c after e p = record {
    one = p.one;
    event = p.event;
    behind = p.behind;
    starts = p.starts;
    is_value = p.is_value;
    gives = rw (open_n ns s.1 k p.one (not_named fs ns k other), other, p.gives, e) refl;
  }

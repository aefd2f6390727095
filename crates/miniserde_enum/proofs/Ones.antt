-- The members of an object, read one by one, give the variant that the object is, and with a second member they give
-- none. By cases of the members (none, one, more), and by `object_goes` for the value of the first.
use Rattle.std.proofs.Common.{◌≡◌, ℕ, true, false, List, Option, Some, None, refl, sym, ap, ◌∙◌}
use Rattle.std.specs.Prelude.{option_and_then, option_map}
use Rattle.miniserde_model.specs.Tree.{Tree, members, Members, no_members, member}
use Rattle.miniserde_model.specs.Lexing.{Follows}
use Rattle.miniserde_model.specs.declared.kind.Kind.TheVariants.{Map}
use Rattle.miniserde_read.specs.types.Objects.{Name, after_members}
use Rattle.miniserde_read.specs.Due.{ReadsDue, RejectsDue}
use Rattle.miniserde_read.specs.Rest.{MembersAt}
use Rattle.miniserde_read.specs.Source.{NameFollows}
use Rattle.miniserde_read.proofs.Objects.{ObjectGoes, object_begins, object_goes, object_none}
use Rattle.miniserde_text.proofs.NextChild.{close_no_next}
use Rattle.miniserde_text.specs.Lexer.{text_of}
use Rattle.miniserde_text.specs.declared.json.lex.Text.{Text}
use Rattle.miniserde_enum.specs.Tagging.{content_by_tagging, external}
use Rattle.miniserde_enum.specs.Cases.{with_data}

-- the state after one more member: there is one at most
abbrev pub one_next : {C : Type 0} → (Name → Option Tree → Option C) → Option C → Name → Tree → Option (Option C)
one_next f None k t = option_map Some (f k (Some t))
one_next f (Some c) k t = None

module _ {C : Type 0} (f : Name → Option Tree → Option C) where
  -- what the state gives when the object ends: nothing without a member
  abbrev pub last : Option (Option C) → Option C
  last o = option_and_then (λ o. o) o

  -- what the members give one by one is what the object gives
  pub one_all : (ms : Members) → last (after_members (one_next f) None ms) ≡ content_by_tagging external f (members ms)
  one_all no_members = refl
  one_all (member k t no_members) =
      elim (f k (Some t)) as (λ o. last (option_and_then (λ r. Some r) (option_map Some o)) ≡ o)
      [ None ↦ refl | Some c ↦ refl ]
  one_all (member k t (member j u ms)) =
      elim (f k (Some t)) as (λ o.
      last (option_and_then (λ r. option_and_then (λ q. after_members (one_next f) q ms) (one_next f r j u))
      (option_map Some o)) ≡ None) [ None ↦ refl | Some c ↦ refl ]

  module _ (s x : List ℕ) {c : List ℕ} {o : Option Text} {name : Text} (h : NameFollows o x true s c) (is : o ≡ Some name) where
    -- the object goes on behind its first member
    pub one_goes : {d : List ℕ} {v : C} → ReadsDue (with_data (f (text_of name x))) c d v → ObjectGoes (one_next f) None s false d (Some v)
    one_goes {d} p = object_goes (object_begins (one_next f) None s) x c d h is (record {
      one = p.one;
      event = p.event;
      behind = p.behind;
      starts = p.starts;
      is_value = p.is_value;
      gives = ap (option_map Some) p.gives;
    })

    pub one_rejected : RejectsDue (with_data (f (text_of name x))) c → (ms : Members) (r : List ℕ) → MembersAt ms true s r
        → content_by_tagging external f (members ms) ≡ None
    one_rejected n ms r p = sym (one_all ms) ∙ ap last (object_none (object_begins (one_next f) None s) x c h is
        (λ t e b r k v. ap (option_map Some) (n t e b r k v)) ms r p)

  -- a second member gives nothing
  pub one_full : {z s : List ℕ} {v : C} (b : List ℕ) → ObjectGoes (one_next f) None z false s (Some v)
      → Follows Map false false s b → (ms : Members) (r : List ℕ) → MembersAt ms true z r
      → content_by_tagging external f (members ms) ≡ None
  one_full {s = s} {v} b g h ms r p =
      let a = g.back ms r p in
      let none = elim a.0 as (λ us. MembersAt us false s r → after_members (one_next f) (Some v) us ≡ None) [
        | no_members ↦ λ q. absurd (close_no_next Map false s r b q h)
        | member k t us ↦ λ q. refl
      ] in
      sym (one_all ms) ∙ ap last (a.2 ∙ none a.1)

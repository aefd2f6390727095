-- One more member of a map that is being read, from what the loop keeps (`ObjectNext`): its key and the value that is
-- due.
use Rattle.std.proofs.Common.{◌≡◌, ℕ, true, false, List, Option, Some, None, refl}
use Rattle.std.specs.Prelude.{option_and_then, option_map}
use Rattle.miniserde_model.specs.Tree.{Tree, Members}
use Rattle.miniserde_model.specs.Lexing.{Names}
use Rattle.miniserde_text.specs.Lexer.{text_of}
use Rattle.miniserde_text.specs.declared.json.lex.Text.{Text}
use Rattle.miniserde_keys.specs.Keys.{Key}
use Rattle.miniserde_read.specs.Due.{ReadsDue, RejectsDue}
use Rattle.miniserde_read.specs.Rest.{MembersAt}
use Rattle.miniserde_read.specs.Source.{NameFollows}
use Rattle.miniserde_read.specs.types.Objects.{Name, after_members}
use Rattle.miniserde_read.specs.types.Maps.{MapContent, no_entries, with_entry, map_member}
use Rattle.miniserde_read.proofs.Objects.{ObjectGoes, ObjectNext, object_goes, object_none}

module _ {C : Type 0} (read : Name → Option Key) (code : Key → Key) (of : Tree → Option C) {begin : List ℕ}
    {s : List ℕ} {m : MapContent C} (g : ObjectNext (map_member read code of) no_entries begin false s m) (x c : List ℕ)
    (name : Text) (h : Names s (text_of name x) c) where
  named : NameFollows (Some name) x g.first g.before c
  named = (s, g.follows, h)

  pub entry_goes : (d : List ℕ) (k : Key) (v : C) → read (text_of name x) ≡ Some k → ReadsDue of c d v
      → ObjectGoes (map_member read code of) no_entries begin false d (with_entry code m k v)
  entry_goes d k v e p = object_goes g.goes x c d {name = name} named refl (record {
    one = p.one;
    event = p.event;
    behind = p.behind;
    starts = p.starts;
    is_value = p.is_value;
    gives = rw (e, p.gives) refl;
  })

  pub key_none : read (text_of name x) ≡ None → (ms : Members) (r : List ℕ) → MembersAt ms true begin r
      → after_members (map_member read code of) no_entries ms ≡ None
  key_none n = object_none g.goes x c {name = name} named refl (λ t e b r k v. rw n refl)

  pub entry_none : RejectsDue of c → (ms : Members) (r : List ℕ) → MembersAt ms true begin r
      → after_members (map_member read code of) no_entries ms ≡ None
  entry_none n = object_none g.goes x c {name = name} named refl (λ t e b r k v. rw (n t e b r k v)
      (elim (read (text_of name x)) as (λ q. option_and_then (λ z. option_map (with_entry code m z) None) q ≡ None)
      [ None ↦ refl | Some z ↦ refl ]))

-- One more member of a struct that is being read, from what the loop keeps (`ObjectNext`): the slots were asked by the
-- names ns and the name k, with the text b behind it.
use Rattle.std.proofs.Common.{◌≡◌, ℕ, ◌<◌, Bool, true, false, List, length, Some, None, refl, ap, sym, ◌∙◌, arith}
use Rattle.std.specs.Prelude.{option_and_then}
use Rattle.miniserde_model.specs.Tree.{Members}
use Rattle.miniserde_model.specs.Lexing.{Names, Follows}
use Rattle.miniserde_model.specs.declared.kind.Kind.TheVariants.{Map}
use Rattle.miniserde_text.specs.Lexer.{text_of}
use Rattle.miniserde_text.specs.declared.json.lex.Text.{Text}
use Rattle.miniserde_read.specs.Due.{ReadsDue, RejectsDue}
use Rattle.miniserde_read.specs.Rest.{MembersAt}
use Rattle.miniserde_read.specs.Source.{NameFollows}
use Rattle.miniserde_read.specs.types.Objects.{Name}
use Rattle.miniserde_read.proofs.Due.{due_less}
use Rattle.miniserde_read.proofs.Length.{follows_least, stands_least}
use Rattle.miniserde_read.proofs.Objects.{ObjectGoes, ObjectNext, object_goes, object_none}
use Rattle.miniserde_record.specs.FieldsMeaning.{FieldsMeaning}

module _ {V : Type 0} (mean : FieldsMeaning V) (names : List Name) {begin : List ℕ} {s : List ℕ} {m : mean.State}
    (g : ObjectNext (mean.next_state names) mean.empty begin false s m) (x c : List ℕ) (name : Text)
    (h : Names s (text_of name x) c) (ns : List Name) (k : Name) (b : List ℕ) (by : ns ≡ names) (same : k ≡ text_of name x)
    (at : b ≡ c) where
  named : NameFollows (Some name) x g.first g.before c
  named = (s, g.follows, h)

  pub fields_go : (d : List ℕ) (m' : mean.State) → ReadsDue (mean.next_state ns m k) b d m'
      → ObjectGoes (mean.next_state names) mean.empty begin false d m'
  fields_go d m' p = object_goes g.goes x c d {name = name} named refl (rw (by, same, at) at p)

  -- the same with the closing brace, or what stands before the next member, taken
  pub fields_next : (d e : List ℕ) (close : Bool) (m' : mean.State) → ReadsDue (mean.next_state ns m k) b d m'
      → Follows Map false close d e → ObjectNext (mean.next_state names) mean.empty begin close e m'
  fields_next d e close m' p f = record { first = false; before = d; goes = fields_go d m' p; follows = f }

  pub fields_less : (d e : List ℕ) (close : Bool) (m' : mean.State) → ReadsDue (mean.next_state ns m k) b d m'
      → Follows Map false close d e → length e < length s
  fields_less d e close m' p f =
      let a = stands_least s c h in
      let l = follows_least Map false close d e f in
      omega (arith, a, l, due_less (rw at at p))

  pub fields_none : RejectsDue (mean.next_state ns m k) b → (ms : Members) (r : List ℕ) → MembersAt ms true begin r
      → mean.from_members names mean.empty ms ≡ None
  fields_none n ms r p = sym (mean.members_agree names mean.empty ms)
      ∙ ap (option_and_then mean.end) (object_none g.goes x c {name = name} named refl (rw (by, same, at) at n) ms r p)

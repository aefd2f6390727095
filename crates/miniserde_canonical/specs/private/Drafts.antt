-- How a draft holds a state, and what the tokens of a tree do to a draft. A state (`State`) is the canonical text so far,
-- with the members of the open objects.
use Rattle.std.specs.Prelude.{◌≡◌, ℕ, true, false, List, ◌++◌, length, ⊤}
use Rattle.miniserde_model.specs.private.Reading.{Moment, due, first, after}
use Rattle.miniserde_model.specs.Tokens.{Token}
use Rattle.miniserde_canonical.specs.declared.draft.Draft.{Draft}
use Rattle.miniserde_canonical.specs.declared.draft.InputSpan.{InputSpan}
use Rattle.miniserde_canonical.specs.private.SplicedTexts.{SplicesInOrder, text_begin, text_from}
use Rattle.miniserde_canonical.specs.private.SortMembers.{Chain}
use Rattle.miniserde_canonical.specs.private.States.{State, TokenSteps}

-- The input is `front`, then `run`, which is read but not in the draft's text yet, then `rest`, which is left to read.
-- The draft's `left` counts the bytes of `run` and `rest`. The draft's text followed by `run` is the bytes bs.
pub record Wrote (d : Draft) (rest bs : List ℕ) : Type 0 where
  pub front : List ℕ
  pub run : List ℕ
  pub input : d.input.now ≡ front ++ (run ++ rest)
  pub left : d.left ≡ length (run ++ rest)
  pub text : d.out.bytes.items ++ run ≡ bs

-- If bs are the bytes of the draft's text with its run, the draft holds the state s: its members stand for the entries
-- of s; its text, once the splices are filled, is the text of s; and the two have the same `opened` and the same
-- `distinct`. The flag `first` of s is left out, since a draft has none.
pub record Holding (d : Draft) (bs : List ℕ) (s : State) : Type 0 where
  pub chain : Chain d.members.items s.entries d.groups (text_from text_begin bs d.out.splices.items) s.last
  pub good : SplicesInOrder d.groups.splices.items d.out.splices.items
  pub opened : d.opened.items ≡ s.opened
  pub distinct : d.is_distinct ≡ s.distinct

-- if the input that is left is `rest`, the draft holds the state s
pub record Represents (d : Draft) (rest : List ℕ) (s : State) : Type 0 where
  pub bytes : List ℕ
  pub wrote : Wrote d rest bytes
  pub holding : Holding d bytes s

-- the span takes the bytes `part` of the input: `rest` is left at its start, and rest' after its end
pub record TakesPart (span : InputSpan) (rest part rest' : List ℕ) : Type 0 where
  pub text : rest ≡ part ++ rest'
  pub at : span.at ≡ length rest
  pub end : span.end ≡ length rest'

-- From d to d' the splices, the groups, the members, the open objects and `is_distinct` stay. The bytes of the text and
-- the run may change, and so may `order` and `escaped`, which are room.
pub record ChangesOnlyText (d d' : Draft) : Type 0 where
  pub splices : d'.out.splices.items ≡ d.out.splices.items
  pub groups : d'.groups.bytes.items ≡ d.groups.bytes.items
  pub groups_splices : d'.groups.splices.items ≡ d.groups.splices.items
  pub members : d'.members.items ≡ d.members.items
  pub opened : d'.opened.items ≡ d.opened.items
  pub distinct : d'.is_distinct ≡ d.is_distinct

-- the flag `first` of the state says whether the moment is the one after an opening bracket, unless a value is due
abbrev pub Recalls : Moment → State → Type 0
Recalls due s = ⊤
Recalls first s = s.first ≡ true
Recalls after s = s.first ≡ false

-- a draft at a moment of the reader, with what is left of the input
pub record DraftAt : Type 0 where
  pub moment : Moment
  pub rest : List ℕ
  pub draft : Draft

-- the draft d at the moment m, with `rest` left of the input
abbrev pub draft_at : Moment → List ℕ → Draft → DraftAt
draft_at m rest d = record { moment = m; rest = rest; draft = d }

-- From `old` to `new` the draft takes the tokens ks: if the old draft holds s, and the flag `first` of s fits
-- the old moment, then the new draft holds a state that is s after ks, and whose flag fits the new moment.
abbrev pub DraftTakes : DraftAt → List Token → DraftAt → Type 0
DraftTakes old ks new = (s : State) → Represents old.draft old.rest s → Recalls old.moment s
    → (s' : State) × TokenSteps ks s s' × Represents new.draft new.rest s' × Recalls new.moment s'

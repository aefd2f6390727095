-- Rows that are visited one at a time: which rows a visitor took, and what it said of each.
use Rattle.std.specs.Prelude.{◌≡◌, ◌⊎◌, ℕ, Bool, true, false, List, [], ◌∷◌, ◌++◌, Option, Some, None, Result, Ok, Err, String, ⊤}
use Rattle.std.specs.List.{FoldsTo}
use Rattle.std.specs.Global.{Global}
use Rattle.sqlite.specs.declared.types.Value.{Value}
use Rattle.sqlite.specs.Order.{Row, column}
use Rattle.sqlite.specs.Effect.{Database}
use Rattle.rows.specs.Entries.{texts_of, words_of, AreEntries}
use Rattle.sqlite.specs.declared.error.Error as sqlite
use Rattle.rows.specs.declared.error.Error.{Error}
use Rattle.rows.specs.declared.error.Error.TheVariants.{Database as Failed}

-- a key and a body
abbrev pub Entry : Type 0
Entry = List ℕ × List ℕ

-- what a visit does: the visitor before it, the key, the body, what it returns, and the visitor after it
abbrev pub VisitStep : Type 0 → Type 1
VisitStep V = V → List ℕ → List ℕ → Result Bool Error → V → Type 0

-- the entries are the first of the rows of the table, in the byte order of the keys
abbrev pub BeginsEntries : Database → List Entry → Type 0
BeginsEntries db front = (rest : List Entry) × AreEntries db (front ++ rest)

module _ {V : Type 0} (takes : VisitStep V) where
  -- the visitor took these entries one after another, and said to go on at each
  abbrev pub GoesOn : V → List Entry → V → Type 0
  GoesOn old entries new = FoldsTo (λ v e w. takes v e.0 e.1 (Ok true) w) old entries new

  -- the visitor took all rows, and said to go on at each
  abbrev pub TakesAll : Database → V → V → Type 0
  TakesAll db old new = (entries : List Entry) × AreEntries db entries × GoesOn old entries new

  -- the visitor took the first rows, said to go on at each but the last, and returned this at the last
  abbrev pub StopsAt : Database → V → V → Result Bool Error → Type 0
  StopsAt db old new result =
      (front : List Entry) × (last : Entry) × (v : V) × BeginsEntries db (front ++ last ∷ []) × GoesOn old front v
      × takes v last.0 last.1 result new

  -- the visitor took the first rows, and said to go on at each
  abbrev pub TakesFirst : Database → V → V → Type 0
  TakesFirst db old new = (front : List Entry) × BeginsEntries db front × GoesOn old front new

  -- what the visitor took, by what the call returns: all rows, the first up to one at which it stopped or failed, or, at another
  -- error, which is a `Database`, the first or none
  abbrev pub Visited : Database → V → V → Result Bool Error → Type 0
  Visited db old new (Ok true) = TakesAll db old new
  Visited db old new (Ok false) = StopsAt db old new (Ok false)
  Visited db old new (Err e) =
      StopsAt db old new (Err e) ⊎ ((cause : sqlite.Error) × (e ≡ Failed cause) × ((new ≡ old) ⊎ TakesFirst db old new))

-- the row shows this key and this body, and with no row there is none
abbrev pub ShowsTexts : Option Row → Option (String Global × String Global) → Type 0
ShowsTexts (Some given) (Some texts) = ◌≡◌ {A = Value × Value} (column given 0, column given 1) (words_of (texts_of texts))
ShowsTexts (Some given) None = ⊥
ShowsTexts None (Some texts) = ⊥
ShowsTexts None None = ⊤

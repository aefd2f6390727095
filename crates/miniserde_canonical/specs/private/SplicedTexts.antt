-- Texts with splices: bytes, and points at which the texts of groups belong.
use Rattle.std.specs.Prelude.{◌≡◌, ◌≤◌, ◌-◌, ◌+◌, ℕ, suc, List, [], ◌∷◌, ◌++◌, length, take, drop, ⊤}
use Rattle.miniserde_canonical.specs.declared.spread.Point.{Point}
use Rattle.miniserde_canonical.specs.declared.spread.Span.{Span}
use Rattle.miniserde_canonical.specs.declared.spread.Splice.{Splice}
use Rattle.miniserde_canonical.specs.declared.spread.SplicedText.{SplicedText}

-- the part of the list from the index a up to the index b
abbrev pub part_between : {X : Type 0} → ℕ → ℕ → List X → List X
part_between a b xs = take (b - a) (drop a xs)

-- the span lies within the bytes bs and the splices hs
abbrev pub Within : Span → List ℕ → List Splice → Type 0
Within p bs hs = (p.from.bytes ≤ p.to.bytes) × (p.to.bytes ≤ length bs) × (p.from.splices ≤ p.to.splices) × (p.to.splices ≤ length hs)

-- the bytes of the span
abbrev pub bytes_in : Span → List ℕ → List ℕ
bytes_in p bs = part_between p.from.bytes p.to.bytes bs

-- the splices of the span
abbrev pub splices_in : Span → List Splice → List Splice
splices_in p hs = part_between p.from.splices p.to.splices hs

-- the splice h after its text moved from the index `from` to the index `at`
abbrev pub shifted_splice : ℕ → ℕ → Splice → Splice
shifted_splice from at h = record { at = at + (h.at - from); group = h.group }

-- the bytes bs, with indices from `at` on, are the text x once each of the splices hs is filled
-- with its group; the groups have the bytes ms and the splices gs
pub data Holds : List ℕ → List Splice → ℕ → List ℕ → List Splice → List ℕ → Type 0 where
  none : {ms : List ℕ} {gs : List Splice} {at : ℕ} → Holds ms gs at [] [] []
  byte : {ms : List ℕ} {gs : List Splice} {at : ℕ} {bs : List ℕ} {hs : List Splice} {x : List ℕ} (c : ℕ)
      → Holds ms gs (suc at) bs hs x → Holds ms gs at (c ∷ bs) hs (c ∷ x)
  splice : {ms : List ℕ} {gs : List Splice} {at : ℕ} {bs : List ℕ} {hs : List Splice} {x y : List ℕ} (h : Splice)
      → h.at ≡ at → Within h.group ms gs
      → Holds ms gs h.group.from.bytes (bytes_in h.group ms) (splices_in h.group gs) y → Holds ms gs at bs hs x
      → Holds ms gs at bs (h ∷ hs) (y ++ x)

-- `text` is the text x once each of its splices is filled with its group
abbrev pub FilledText : SplicedText → SplicedText → List ℕ → Type 0
FilledText groups text x = Holds groups.bytes.items groups.splices.items 0 text.bytes.items text.splices.items x

-- the point at which a text begins
abbrev pub text_begin : Point
text_begin = record { bytes = 0; splices = 0 }

-- a part of a text with splices, which begins there at the point `from`
pub record TextFrom : Type 0 where
  pub from : Point
  pub bytes : List ℕ
  pub splices : List Splice

-- the part with these bytes and splices, from that point on
abbrev pub text_from : Point → List ℕ → List Splice → TextFrom
text_from from bytes splices = record { from = from; bytes = bytes; splices = splices }

-- `part` is the text x once each of its splices is filled with its group
abbrev pub FilledPart : SplicedText → TextFrom → List ℕ → Type 0
FilledPart groups part x = Holds groups.bytes.items groups.splices.items part.from.bytes part.bytes part.splices x

-- ---- groups in order

-- of the splices, whose indices begin at n, each is for a group whose splices all stand before it
abbrev pub Ordered : ℕ → List Splice → Type 0
Ordered n [] = ⊤
Ordered n (h ∷ hs) = (h.group.to.splices ≤ n) × Ordered (suc n) hs

-- each of the splices is for a group whose splices all stand before the index n
abbrev pub AllBefore : ℕ → List Splice → Type 0
AllBefore n [] = ⊤
AllBefore n (h ∷ hs) = (h.group.to.splices ≤ n) × AllBefore n hs

-- the splices gs of the groups are each for earlier groups, and the splices hs of the text for groups that exist
abbrev pub SplicesInOrder : List Splice → List Splice → Type 0
SplicesInOrder gs hs = Ordered 0 gs × AllBefore (length gs) hs

-- The spans of groups that wait to be written; the last of them is written first. A span holds the
-- text that its bytes are once each of its splices is filled with its group (`Holds`).
use Rattle.std.specs.Prelude.{◌≡◌, ◌-◌, ◌+◌, ◌^◌, ℕ, List, [], ◌∷◌, ◌++◌}
use Rattle.miniserde_canonical.specs.declared.spread.Span.{Span}
use Rattle.miniserde_canonical.specs.declared.spread.SplicedText.{SplicedText}
use Rattle.miniserde_canonical.specs.private.SplicedTexts.{Within, bytes_in, splices_in, text_from, FilledPart}

-- the span p of the groups holds the text x
abbrev pub SpanHolds : SplicedText → Span → List ℕ → Type 0
SpanHolds groups p x = Within p groups.bytes.items groups.splices.items
    × FilledPart groups (text_from p.from (bytes_in p groups.bytes.items) (splices_in p groups.splices.items)) x

-- the spans of the groups hold the text x if they are written from the last one to the first
abbrev pub SpansHold : SplicedText → List Span → List ℕ → Type 0
SpansHold groups [] x = x ≡ []
SpansHold groups (p ∷ ps) x = (y z : List ℕ) × SpansHold groups ps y × SpanHolds groups p z × (x ≡ y ++ z)

-- a bound on the calls of `put_span` that write the span: each splice counts for more than all
-- splices before it
abbrev pub span_measure : Span → ℕ
span_measure p = 1 + (2 ^ (1 + p.to.splices) - 2 ^ (1 + p.from.splices))

-- a bound on the calls of `put_span` that write the spans
abbrev pub spans_measure : List Span → ℕ
spans_measure [] = 0
spans_measure (p ∷ ps) = span_measure p + spans_measure ps

-- The bytes stay as they were before the loop. The first `splice-index` splices are appended, each shifted to the
-- place of its text.
use Rattle.std.proofs.Common.{◌≡◌, ◌++◌, map, take}
use Rattle.miniserde_canonical.specs.private.SplicedTexts.{shifted_splice}
use Rattle.miniserde_canonical.proofs.spread.SplicedText.append.Given as goal

abbrev pub invariant-loop-splice : goal.invariant-loop-splice
invariant-loop-splice l = record {
  bytes : l.self.bytes.items ≡ l.initial.self.bytes.items;
  splices : l.self.splices.items ≡ l.fn.self.splices.items ++ map (shifted_splice l.span.from.bytes l.at) (take l.splice-index l.splices);
}

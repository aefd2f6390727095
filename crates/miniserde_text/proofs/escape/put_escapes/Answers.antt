-- `put_escapes` appends the escaped text, and the room that its contract demands is enough. The loop keeps that the
-- text before `start` is written, and each turn adds a run of plain bytes and an escape.
use Rattle.std.proofs.Common.{◌≡◌, ℕ, ◌+◌, ◌-◌, ◌<◌, ◌≤◌, ◌++◌, ◌∙◌, length, List, take, drop, get_or, false, arith}
use Rattle.std.proofs.Common.{ap, sym, append-nil, append_assoc, length-append, length-drop, refl, string_bytes}
use Rattle.std.proofs.lemmas.Str.{IsCharBoundary-after_ascii, IsCharBoundary-end, IsCharBoundary-start}
use Rattle.std.proofs.lemmas.List.{length-take}
use Rattle.miniserde_text.specs.private.Escape.{escape, escapes}
use Rattle.miniserde_text.proofs.EscapeRule.{
  escapes-nil,
  escapes_run,
  escapes_more,
  length_escapes_le,
  length_escapes_more,
  is_special_ascii,
}
use Rattle.miniserde_text.proofs.escape.put_escapes.Goals as goal

pub loop-start-init : goal.loop-start-init
loop-start-init c = record {
  within = omega arith;
  cut = IsCharBoundary-start _ c.utf8.value;
  bytes = rw escapes-nil (sym (append-nil _));
  len = rw escapes-nil (omega arith);
  capacity = omega arith;
}

run_len : (v : List ℕ) (i j : ℕ) → i ≤ j → j ≤ length v → escapes (take j v) ≡ escapes (take i v)
    ++ take (j - i) (drop i v) → length (escapes (take j v)) ≡ length (escapes (take i v)) + (j - i)
run_len v i j l h r = omega (
  arith,
  ap length r,
  length-append (escapes (take i v)) (take (j - i) (drop i v)),
  length-take (j - i) (drop i v),
  length-drop i v,
)

-- b appended to old and a is c appended to old, if c is a and b
pushed : {now next c : List ℕ} (old a b : List ℕ) → next ≡ now ++ b → now ≡ old ++ a → c ≡ a ++ b → next ≡ old ++ c
pushed old a b n e r = n ∙ ap (λ x. x ++ b) e ∙ append_assoc old a b ∙ ap (λ x. old ++ x) (sym r)

pub put_run-requires-clause-room : goal.put_run-requires-clause-room
put_run-requires-clause-room c =
    let v = c.args.value.now in
    let at = c.run_end-at.result in
    let s = c.run_end-at.ensures in
    let e : c.as_bytes-text.result.now ≡ v = c.as_bytes-text.ensures.value in
    let run = rw e at (escapes_run c.as_bytes-text.result.now c.loop-start.start at s.low s.high s.plain) in
    let len = run_len v c.loop-start.start at s.low (rw e at s.high) run in
    omega (arith, len, length_escapes_le v at, c.loop-start.invariant.len, c.loop-start.invariant.capacity, c.requires)

pub put_escape-requires-clause-room : goal.put_escape-requires-clause-room
put_escape-requires-clause-room c =
    let v = c.args.value.now in
    let at = c.run_end-at.result in
    let e : c.as_bytes-text.result.now ≡ v = c.as_bytes-text.ensures.value in
    let s = c.run_end-at.ensures in
    let inv = c.loop-start.invariant in
    let run = rw e at (escapes_run c.as_bytes-text.result.now c.loop-start.start at s.low s.high s.plain) in
    let put = c.put_run.ensures in
    let len = run_len v c.loop-start.start at s.low (rw e at s.high) run in
    let here : at < length v = rw e at c.if-at-text.true in
    let more = length_escapes_more v at here in
    let le = length_escapes_le v (at + 1) in
    let item : length (escape (get_or c.as_bytes-text.result.now at 0)) ≡ length (escape (get_or v at 0)) = rw e refl in
    omega (arith, len, more, le, item, c.requires, inv.len, inv.capacity, put.len, put.capacity)

pub loop-start-preserved-then-at-text : goal.loop-start-preserved-then-at-text
loop-start-preserved-then-at-text c =
    let v = c.args.value.now in
    let at = c.run_end-at.result in
    let e : c.as_bytes-text.result.now ≡ v = c.as_bytes-text.ensures.value in
    let s = c.run_end-at.ensures in
    let inv = c.loop-start.invariant in
    let run = rw e at (escapes_run c.as_bytes-text.result.now c.loop-start.start at s.low s.high s.plain) in
    let put = c.put_run.ensures in
    let here : at < length v = rw e at c.if-at-text.true in
    let low : get_or v at 0 < 128 = is_special_ascii _ (rw e at (s.found c.if-at-text.true)) in
    let len = run_len v c.loop-start.start at s.low (rw e at s.high) run in
    let text = pushed (string_bytes c.args.out.now) (escapes (take c.loop-start.start v)) _ put.bytes inv.bytes run in
    let byte = rw e at c.put_escape.ensures in
    record {
      within = omega arith;
      cut = IsCharBoundary-after_ascii v at c.utf8.value here low;
      bytes = byte.bytes ∙ rw (text, escapes_more v at here)
          (append_assoc (string_bytes c.args.out.now) (escapes (take at v)) (escape (get_or v at 0)));
      len = omega (arith, len, length_escapes_more v at here, inv.len, put.len, byte.len);
      capacity = omega (arith, inv.capacity, put.capacity, byte.capacity);
    }

pub loop-start-preserved : goal.loop-start-preserved
loop-start-preserved c =
    let v = c.args.value.now in
    let at = c.run_end-at.result in
    let e : c.as_bytes-text.result.now ≡ v = c.as_bytes-text.ensures.value in
    let s = c.run_end-at.ensures in
    let inv = c.loop-start.invariant in
    let run = rw e at (escapes_run c.as_bytes-text.result.now c.loop-start.start at s.low s.high s.plain) in
    let put = c.put_run.ensures in
    let end : at ≡ length v = omega (arith, rw e at c.if-at-text.false, rw e at s.high) in
    let len = run_len v c.loop-start.start at s.low (rw e at s.high) run in
    record {
      within = omega arith;
      cut = rw end (IsCharBoundary-end v);
      bytes = pushed (string_bytes c.args.out.now) (escapes (take c.loop-start.start v)) _ put.bytes inv.bytes run;
      len = omega (arith, len, inv.len, put.len);
      capacity = omega (arith, inv.capacity, put.capacity);
    }

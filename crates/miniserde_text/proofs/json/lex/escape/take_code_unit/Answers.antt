-- Fewer than four bytes are no code unit (`few_bytes`). The sum tells whether four bytes are digits (`unit_of`,
-- `no_unit`).
use Rattle.std.proofs.Common.{◌≡◌, drop, length-drop, sym, arith}
use Rattle.miniserde_text.proofs.Escapes.{few_bytes, unit_of, no_unit}
use Rattle.miniserde_text.proofs.json.lex.escape.take_code_unit.Goals as goal

pub returns-then-bytes-at-lt4-clause-value : goal.returns-then-bytes-at-lt4-clause-value
returns-then-bytes-at-lt4-clause-value c =
    sym (few_bytes (drop c.args.at c.args.bytes.now) (omega (arith, length-drop c.args.at c.args.bytes.now)))

pub returns-then-code-lt65536-clause-value : goal.returns-then-code-lt65536-clause-value
returns-then-code-lt65536-clause-value c =
    let s = drop c.args.at c.args.bytes.now in
    let rest : drop c.index_after.result c.args.bytes.now ≡ drop 4 s = grind arith in
    unit_of s c.hex-a.result c.hex-b.result c.hex-c.result c.hex-d.result (grind arith) (grind arith) (grind arith) (grind arith)
    _ rest (omega arith)

pub returns-else-code-lt65536-clause-value : goal.returns-else-code-lt65536-clause-value
returns-else-code-lt65536-clause-value c =
    let s = drop c.args.at c.args.bytes.now in
    no_unit s c.hex-a.result c.hex-b.result c.hex-c.result c.hex-d.result (grind arith) (grind arith) (grind arith) (grind arith)
    (omega arith)

-- The index that `special_in_lanes` returns is the end of the run of unescaped bytes (`unescaped_from`), and it is a
-- character boundary (`special_boundary`).
use Rattle.std.proofs.Common.{◌≡◌, ◌+◌, drop, arith}
use Rattle.std.specs.List.{position_or_len}
use Rattle.miniserde_model.specs.Bytes.{is_special}
use Rattle.miniserde_text.proofs.Indices.{unescaped_from, special_boundary}
use Rattle.miniserde_text.proofs.json.lex.string.after_unescaped_in_lanes.Goals as goal

pub returns-clause-value : goal.returns-clause-value
returns-clause-value c =
    let end : c.special_in_lanes.result ≡ c.args.at + position_or_len is_special (drop c.args.at c.args.text.now) =
    grind (arith, c.special_in_lanes.ensures, c.as_bytes.ensures.value) in
    unescaped_from c.args.text.now c.args.at c.special_in_lanes.result end

pub returns-clause-boundary : goal.returns-clause-boundary
returns-clause-boundary c =
    let end : c.special_in_lanes.result ≡ c.args.at + position_or_len is_special (drop c.args.at c.args.text.now) =
    grind (arith, c.special_in_lanes.ensures, c.as_bytes.ensures.value) in
    special_boundary c.args.text.now c.args.at c.special_in_lanes.result c.requires end

-- The number so far, continued with the digits that are left, gives the value of all digits. It fits in 64 bits, and
-- the bytes that are left are digits.
use Rattle.std.proofs.Common.{◌≡◌, ◌^◌, ◌<◌, drop}
use Rattle.std.specs.Str.Parse.{digits_value, digits_value_after}
use Rattle.std.specs.List.{AllByRecursion}
use Rattle.miniserde_model.specs.Number.{IsDigit}
use Rattle.miniserde_text.proofs.json.lex.number.integer.Given as goal

abbrev pub invariant-loop-byte : goal.invariant-loop-byte
invariant-loop-byte l = record {
  value : digits_value_after 10 l.value (drop l.byte-index l.digits) ≡ digits_value 10 l.digits;
  fits : l.value < 2 ^ 64;
  digits : AllByRecursion IsDigit (drop l.byte-index l.digits);
}

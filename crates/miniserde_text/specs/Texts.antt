-- What calls do that append to a text, or make room in it.
use Rattle.std.specs.Prelude.{◌≡◌, ◌≤◌, ℕ, ◌+◌, ◌<◌, List, ◌++◌, length, Result, OnOk, OnErr, String, string_bytes}
use Rattle.std.specs.Prelude.{string_len, string_capacity}
use Rattle.std.specs.declared.alloc.Global.{Global}

-- A call that changed a text from `old` to `new` and returned `answer` appended the bytes bs, or
-- failed because `old` had no room for them. If it failed, the text and its capacity are unchanged.
-- The capacity does not shrink.
pub record Extends {E : Type 0} (old : String Global) (bs : List ℕ) (answer : Result (Unit {0}) E) (new : String Global) : Type 0 where
  pub ok : OnOk answer (string_bytes new ≡ string_bytes old ++ bs)
  pub room : OnErr answer (string_capacity old < string_len old + length bs)
  pub err : OnErr answer (string_bytes new ≡ string_bytes old)
  pub unchanged : OnErr answer (string_capacity new ≡ string_capacity old)
  pub capacity : string_capacity old ≤ string_capacity new

-- A call that changed a text from `old` to `new` and returned `answer` made room for n more bytes,
-- or failed because `old` had no such room. The bytes of the text are unchanged, and if the call
-- failed, so is the capacity. The capacity does not shrink.
pub record MakesRoom {E : Type 0} (old : String Global) (n : ℕ) (answer : Result (Unit {0}) E) (new : String Global) : Type 0 where
  pub ok : OnOk answer (string_len new + n ≤ string_capacity new)
  pub room : OnErr answer (string_capacity old < string_len old + n)
  pub bytes : string_bytes new ≡ string_bytes old
  pub len : string_len new ≡ string_len old
  pub unchanged : OnErr answer (string_capacity new ≡ string_capacity old)
  pub capacity : string_capacity old ≤ string_capacity new

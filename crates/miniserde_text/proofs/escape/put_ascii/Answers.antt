-- ASCII bytes are UTF-8, which `from_utf8_unchecked` requires.
use Rattle.std.proofs.lemmas.Str.{IsUtf8-from_ascii}
use Rattle.miniserde_text.proofs.escape.put_ascii.Goals as goal

pub from_utf8_unchecked-requires : goal.from_utf8_unchecked-requires
from_utf8_unchecked-requires c = IsUtf8-from_ascii _ c.requires.ascii

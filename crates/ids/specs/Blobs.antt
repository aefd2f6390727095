-- The texts of bytes: base64 (RFC 4648, section 4).
use Rattle.std.specs.Prelude.{ℕ, List, Option}
use Rattle.std.specs.Result.{result_ok}
use Rattle.base64.specs.Engines.{standard}
use Rattle.base64.specs.GeneralPurpose.{decode_of, encode_of}

-- the text of bytes
abbrev pub blob_text : List ℕ → List ℕ
blob_text = encode_of standard

-- the bytes that a text is decoded as, if any
abbrev pub blob_of : List ℕ → Option (List ℕ)
blob_of s = result_ok (decode_of standard s)

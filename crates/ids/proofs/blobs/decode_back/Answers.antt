-- The bytes are those of a slice, so each is below 256, as base64's lemma asks.
use Rattle.std.proofs.Common.{refl, ap, rules}
use Rattle.std.specs.Result.{result_ok}
use Rattle.base64.specs.Engines.{standard}
use Rattle.base64.proofs.EngineFacts.{decode_of-encode_of}
use Rattle.ids.proofs.blobs.decode_back.Goals as goal

pub returns : goal.returns
returns c = ap result_ok (decode_of-encode_of standard c.args.bytes.now refl (search rules))

-- The text is the canonical one of the value that was read.
use Rattle.std.proofs.Common.{◌≡◌, string_bytes}
use Rattle.rows.specs.Values.{canonical_text}
use Rattle.store.specs.Answered.{codec, IsTextOf}
use Rattle.store.proofs.Steps.{result_by}
use Rattle.store.proofs.entries.text_of.Goals as goal

pub returns-clause-ok : goal.returns-clause-ok
returns-clause-ok g c =
    let read = c.in_ok-value.ensures.ok in
    let value = c.in_ok-value.value in
    result_by c.canonical_of.result (λ text. string_bytes text ≡ canonical_text (g.V.Serialize.tree value))
    (λ text. IsTextOf (codec g.V.FromJson.means g.V.Serialize.tree) c.args.body.now (string_bytes text)) c.canonical_of.ensures.ok
    (λ text is. (read.0, value, read.1, read.2, is))

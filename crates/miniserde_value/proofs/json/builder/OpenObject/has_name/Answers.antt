-- The map finds an entry of a name exactly if the members have a tree of it (`found_name`).
use Rattle.std.proofs.Common.{ap, is_some, string_bytes, ◌∙◌}
use Rattle.miniserde_model.specs.Normal.{last_of}
use Rattle.miniserde_ser.specs.Trees.{members_of}
use Rattle.miniserde_value.specs.Values.{content_of}
use Rattle.miniserde_value.proofs.Ordered.{found_name}
use Rattle.miniserde_value.proofs.json.builder.OpenObject.has_name.Goals as goal

pub returns : goal.returns
returns c =
    c.contains_key.ensures ∙ found_name content_of c.args.name.now c.inner.result.now.entries
    ∙ ap (λ m. is_some (last_of c.args.name.now (members_of string_bytes content_of m.entries))) c.inner.ensures

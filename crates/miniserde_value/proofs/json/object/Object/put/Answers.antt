-- The name is a copy of the text.
use Rattle.std.proofs.Common.{List, ℕ, ap, ◌∙◌}
use Rattle.miniserde_model.specs.Normal.{put}
use Rattle.miniserde_value.specs.Values.{content_of, object_members}
use Rattle.miniserde_value.proofs.json.object.Object.put.Goals as goal

pub returns-clause-ok : goal.returns-clause-ok
returns-clause-ok c =
    c.in_ok-insert.ensures.ok
    ∙ ap (λ (n : List ℕ). put n (content_of c.args.value) (object_members c.args.self.now)) c.in_ok-name.ensures.ok

-- The text spells one tree, which is the normal form of the tree of the value.
use Rattle.std.proofs.Common.{ap, ◌∙◌}
use Rattle.miniserde.specs.Normal.{norm}
use Rattle.rows.proofs.values.value_of.Goals as goal

pub returns-clause-read : goal.returns-clause-read
returns-clause-read g c =
    let r = c.in_ok-value.ensures.ok in
    record {
      meant = r;
      same = λ v p j.
          let t = g.V.Serialize.tree v in
          let one = c.in_ok-value.ensures.one r.0 (norm t) r.1 j in
          c.canonical_text_determines_content.ensures.itself v c.in_ok-value.value r.0 p
          (ap norm one ∙ c.norm_is_normal.ensures.idempotent t) r.2;
    }

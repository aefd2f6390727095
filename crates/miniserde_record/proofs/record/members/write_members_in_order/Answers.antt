-- The members have trees in normal form, and the names rise, so the object is in normal form (`normal_in_order`).
use Rattle.std.proofs.Common.{map, arith}
use Rattle.std.proofs.lemmas.Grind.{common_steps}
use Rattle.miniserde_record.proofs.InOrder.{normal_in_order}
use Rattle.miniserde_record.proofs.record.members.write_members_in_order.Goals as goal

pub returns : goal.returns
returns g c =
    let object = normal_in_order (map (λ n. n.now) c.args.names.now) (g.M.Members.trees c.args.values.now) c.requires.in_order in
    grind (arith, common_steps, object)

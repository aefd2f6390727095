-- `insert` puts the entry at the code of its key (`map_content-put`): keys are equal exactly if their codes are.
use Rattle.miniserde_read.proofs.Inserts.{map_content-put}
use Rattle.miniserde_read.proofs.from_json.maps.HashMapTable.put.Goals as goal

pub returns-clause-put : goal.returns-clause-put
returns-clause-put g c = map_content-put g.K.MapKey.code g.K.MapKey.content (λ v. v) g.K.PartialEq.eq
    g.met.K.MapKey.alike c.args.self.now.entries c.insert.new.self.entries c.args.key c.args.value
    c.in_ok-insert.field-0 c.in_ok-insert.ensures.entries c.in_ok-insert.ensures.old c.insert.ensures.unique

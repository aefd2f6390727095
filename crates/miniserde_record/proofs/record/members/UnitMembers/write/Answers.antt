-- No trees make no members (`with_names_none`), and no members have no text (`no_text`).
use Rattle.std.proofs.Common.{map, refl, sym, append-nil}
use Rattle.miniserde_record.proofs.Names.{with_names_none, no_text}
use Rattle.miniserde_record.proofs.record.members.UnitMembers.write.Goals as goal

pub returns-clause-ok : goal.returns-clause-ok
returns-clause-ok c = rw (with_names_none (map (λ n. n.now) c.args._names.now), no_text c.args._w.now.first) (sym (append-nil _))

pub returns-clause-all_in_range : goal.returns-clause-all_in_range
returns-clause-all_in_range c = rw (with_names_none (map (λ n. n.now) c.args._names.now)) tt

pub returns-clause-normal : goal.returns-clause-normal
returns-clause-normal c = rw (with_names_none (map (λ n. n.now) c.args._names.now)) (λ h. (h, tt))

pub returns-clause-first : goal.returns-clause-first
returns-clause-first c = rw (with_names_none (map (λ n. n.now) c.args._names.now)) refl

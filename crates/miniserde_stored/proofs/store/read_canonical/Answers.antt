-- The text has a tree that means the value. The canonical text spells its normal form, which means the value too,
-- since the type is stable. A tree with that normal form means a value of the same content, or none.
use Rattle.miniserde_model.specs.Normal.{norm}
use Rattle.miniserde_stored.proofs.store.read_canonical.Goals as goal

pub returns-clause-ok : goal.returns-clause-ok
returns-clause-ok g c = let r = c.in_ok-value.ensures.ok in (r.0, r.1, r.2, c.in_ok-text.ensures.text r.0 r.1)

pub returns-clause-canonical : goal.returns-clause-canonical
returns-clause-canonical g c =
    let r = c.in_ok-value.ensures.ok in
    (norm r.0, c.in_ok-text.ensures.spells r.0 r.1, c.means_in_normal_form.ensures.means r.0 c.in_ok-value.value r.2)

pub returns-clause-one : goal.returns-clause-one
returns-clause-one g c = λ b u w j e h.
    let r = c.in_ok-value.ensures.ok in
    let same = (c.in_ok-text.ensures.tells r.0 r.1 u (c.json_in_range.ensures b u j)).0 e in
    c.means_in_normal_form.ensures.one u r.0 w c.in_ok-value.value same h r.2

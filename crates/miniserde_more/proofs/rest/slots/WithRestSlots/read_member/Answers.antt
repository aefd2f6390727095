-- A member of a name that is not taken leaves the fields as they are (`open`), so none of them refuses it. Its value
-- joins the map (`due_rest`).
use Rattle.std.proofs.Common.{rules, ◌≡◌, ◌++◌, false, string_bytes}
use Rattle.miniserde_record.specs.Marks.{is_among}
use Rattle.miniserde_more.proofs.RestKept.{kept-named}
use Rattle.miniserde_more.proofs.RestDues.{not_own, not_refused, due_rest}
use Rattle.miniserde_more.proofs.rest.slots.WithRestSlots.read_member.Goals as goal

pub returns-in_err-value-clause-refuses : goal.returns-in_err-value-clause-refuses
returns-in_err-value-clause-refuses g c = λ h.
    not_refused g.F.Slots.meaning c.open.ensures g.A.TakenNames.further g.S.Record.names c.args.name.now
    (not_own g.A.TakenNames.further c.args.name.now c.names.ensures c.is_taken.ensures c.if-is_taken.false) _ h

pub returns-in_err-key-clause-refuses : goal.returns-in_err-key-clause-refuses
returns-in_err-key-clause-refuses g c = λ h.
    not_refused g.F.Slots.meaning c.open.ensures g.A.TakenNames.further g.S.Record.names c.args.name.now
    (not_own g.A.TakenNames.further c.args.name.now c.names.ensures c.is_taken.ensures c.if-is_taken.false) _ h

pub returns-in_err-add-clause-refuses : goal.returns-in_err-add-clause-refuses
returns-in_err-add-clause-refuses g c = λ h.
    not_refused g.F.Slots.meaning c.open.ensures g.A.TakenNames.further g.S.Record.names c.args.name.now
    (not_own g.A.TakenNames.further c.args.name.now c.names.ensures c.is_taken.ensures c.if-is_taken.false) _ h

pub returns-clause-ok : goal.returns-clause-ok
returns-clause-ok g c =
    let fs = g.A.TakenNames.further in
    let ns = g.S.Record.names in
    let k = c.args.name.now in
    let m = g.V.FromJson.means in
    let named : string_bytes c.in_ok-key.key ≡ k = search rules in
    let other : is_among (fs ++ ns) k ≡ false = not_own fs c.args.name.now c.names.ensures c.is_taken.ensures c.if-is_taken.false in
    due_rest g.F.Slots.meaning c.open.ensures fs ns k other m (_, _) _ _
    (kept-named string_bytes (fs ++ ns) m.content _ _ c.in_ok-key.key c.in_ok-value.value k named other c.in_ok-add.ensures.added)
    c.in_ok-value.ensures.ok

pub returns-clause-refuses : goal.returns-clause-refuses
returns-clause-refuses g c = λ h.
    not_refused g.F.Slots.meaning c.open.ensures g.A.TakenNames.further g.S.Record.names c.args.name.now
    (not_own g.A.TakenNames.further c.args.name.now c.names.ensures c.is_taken.ensures c.if-is_taken.false) _ h

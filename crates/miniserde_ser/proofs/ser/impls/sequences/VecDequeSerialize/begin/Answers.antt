-- The items are those of `front` and then those of `back`. Where `back` has some, so has `front`, and a comma stands between
-- the two (`compact_parts`).
use Rattle.std.proofs.Common.{◌≡◌, ◌<◌, ◌∷◌, [], arith, ap, sym, subst, ◌∙◌, length}
use Rattle.std.proofs.lemmas.Bool.Decides.{nat_tests}
use Rattle.std.proofs.lemmas.Result.{on_ok_weaker}
use Rattle.miniserde_model.specs.InRange.{AllInRange}
use Rattle.miniserde_model.specs.Normal.{norm}
use Rattle.miniserde_model.specs.Tree.{list}
use Rattle.miniserde_ser.specs.Trees.{trees_of}
use Rattle.miniserde_ser.specs.Writer.{with_first_flag, after_append}
use Rattle.miniserde_ser.proofs.Items.{compact_parts, AllInRange-append, appends_text}
use Rattle.miniserde_ser.proofs.NormalForms.{normal_list-append}
use Rattle.miniserde_ser.proofs.ser.impls.sequences.VecDequeSerialize.begin.Goals as goal

pub returns-clause-ok : goal.returns-clause-ok
returns-clause-ok g c =
    let front = c.as_slices.result.0.now in
    let back = c.as_slices.result.1.now in
    let later : 0 < length back = grind (arith, nat_tests, c.is_empty.ensures, c.if-is_empty.false) in
    let first : 0 < length front = c.as_slices.ensures.first_filled.1 (omega (arith, later, c.as_slices.ensures.len)) in
    appends_text c.append_mark-3.ensures
    (rw (
      c.in_ok-write_each-2.ensures.ok,
      c.in_ok-append_mark.ensures.ok,
      c.in_ok-write_each.ensures.ok,
      c.in_ok-punctuate.ensures.ok,
      sym c.as_slices.ensures.items,
    )
    (compact_parts g.T.Serialize.tree front back c.args.w.now.text first later))

pub returns-clause-in_range : goal.returns-clause-in_range
returns-clause-in_range g c =
    let f = g.T.Serialize.tree in
    let both = AllInRange-append f _ _ c.in_ok-write_each.ensures.in_range c.in_ok-write_each-2.ensures.in_range in
    on_ok_weaker c.append_mark-3.result (λ _. subst (λ xs. AllInRange (trees_of f xs)) c.as_slices.ensures.items both)
    c.append_mark-3.ensures.ok

pub returns-clause-normal : goal.returns-clause-normal
returns-clause-normal g c =
    let f = g.T.Serialize.tree in
    on_ok_weaker c.append_mark-3.result
    (λ (e : c.append_mark-3.new.self ≡ with_first_flag (after_append c.write_each-2.new.w (93 ∷ []) c.append_mark-3.new.self.capacity)
    c.write_each-2.new.w.first) n.
    let back = c.in_ok-write_each-2.ensures.normal (sym (ap (λ s. s.normal) e) ∙ n) in
    let front = c.in_ok-write_each.ensures.normal (sym (ap (λ s. s.normal) c.in_ok-append_mark.ensures.ok) ∙ back.0) in (
      sym (ap (λ s. s.normal) c.in_ok-punctuate.ensures.ok) ∙ front.0,
      subst (λ xs. norm (list (trees_of f xs)) ≡ list (trees_of f xs)) c.as_slices.ensures.items (normal_list-append f _ _ front.1 back.1),
    ))
    c.append_mark-3.ensures.ok

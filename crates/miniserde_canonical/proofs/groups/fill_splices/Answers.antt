-- The text up to each splice, and its group.
use Rattle.std.proofs.Common.{rules, ◌≡◌, refl, length, sym, ◌∙◌}
use Rattle.std.proofs.lemmas.List.{drop_all}
use Rattle.miniserde_canonical.proofs.FillSplices.{appends_part, fill_begins, fill_goes, fill_ends, fill_without_splices}
use Rattle.miniserde_canonical.proofs.groups.fill_splices.Goals as goal

pub returns-then-is_empty : goal.returns-then-is_empty
returns-then-is_empty c =
    fill_without_splices c.args.groups.now c.args.text c.as_slice-splices.ensures.value
    (sym c.is_empty.ensures ∙ c.if-is_empty.true)

pub loop-splice-init : goal.loop-splice-init
loop-splice-init c =
    fill_begins c.args.groups.now c.args.text c.new-out.ensures.items c.as_slice-splices.ensures.value

pub loop-splice-preserved : goal.loop-splice-preserved
loop-splice-preserved c =
    fill_goes c.args.groups.now c.args.text _
    (record { below = c.loop-splice-test.true; otherwise = _; is = refl })
    (appends_part c.loop-splice.at _ c.as_slice.ensures.value c.part.ensures c.in_ok-extend_from_slice.ensures.items)
    c.in_ok-put_group.ensures c.loop-splice.invariant

pub returns : goal.returns
returns c =
    let end : c.len.result ≡ length c.args.text.bytes.items = search rules in
    fill_ends c.args.groups.now c.args.text
    (drop_all c.loop-splice.splice-index c.as_slice-splices.result.now c.loop-splice-test.false) end
    (appends_part c.loop-splice.at c.len.result c.as_slice-2.ensures.value c.part-2.ensures
    c.in_ok-extend_from_slice-2.ensures.items) c.loop-splice.invariant

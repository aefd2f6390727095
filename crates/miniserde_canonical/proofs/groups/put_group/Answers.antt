-- What is written, and what waits, are the text of the group.
use Rattle.std.proofs.Common.{◌++◌, ◌∙◌, refl, ap, option_to_list}
use Rattle.miniserde_canonical.proofs.FillSplices.{Progress, Pops, group_begins, group_goes, group_less}
use Rattle.miniserde_canonical.proofs.groups.put_group.Goals as goal

pub loop-span-init : goal.loop-span-init
loop-span-init c = group_begins c.args.groups.now c.args.group _ c.clear.ensures.items c.in_ok-push.ensures.items

pub loop-span-preserved : goal.loop-span-preserved
loop-span-preserved c =
    let old : Progress = record { out = c.loop-span.out.items; later = c.loop-span.later.items } in
    let popped : Pops c.in-Some.span old (record { out = old.out; later = c.pop.new.self.items }) = record {
      later = c.pop.ensures.items ∙ ap (λ z. c.pop.new.self.items ++ option_to_list z) c.in-Some.is;
      out = refl;
    } in
    group_goes c.args.groups.now c.args.group _
    (record { out = c.put_span.new.out.items; later = c.put_span.new.later.items })
    popped c.loop-span.invariant c.in_ok-put_span.ensures.ok

pub loop-span-smaller : goal.loop-span-smaller
loop-span-smaller c =
    group_less c.in-Some.span _ _ _
    (c.pop.ensures.items ∙ ap (λ z. c.pop.new.self.items ++ option_to_list z) c.in-Some.is)
    (c.in_ok-put_span.ensures.less c.requires)

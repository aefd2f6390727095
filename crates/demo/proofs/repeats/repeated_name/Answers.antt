-- The number is the value of the name, so the place has it when the name comes again.
use Rattle.std.proofs.Common.{Some, None, refl, ap, ◌∙◌}
use Rattle.std.specs.Prelude.{ℤ, pos, option_map}
use Rattle.miniserde.specs.Container.{is_complete}
use Rattle.demo.proofs.OneEvent.{one_event, fits}
use Rattle.demo.proofs.repeats.repeated_name.Goals as goal

pub returns : goal.returns
returns c =
    let p = c.in_ok-place.ensures.fresh in
    let opened = c.in_ok-map.ensures.further.opens p.fresh p.unrefused in
    let fresh = c.in_ok-key.ensures.further.begins _ opened tt in
    let number = c.in_ok-nonnegative.ensures.further in
    let taken = number.takes fresh.unrefused (ap is_complete fresh.fresh) in
    let one = one_event _ _ _ _ (refl, refl) fresh taken in
    let had = number.closes one.0 one.1 ∙ one.2 in
    let n = c.from.result in
    let given = ap (option_map (λ (z : ℤ). (Some z, (None, tt)))) (fits n c.args.code c.from.ensures c.ranges.code.fits) in
    (c.key-2.ensures.further.refuses (Some (pos n), (None, tt)) (had ∙ given) tt refl).1 refl c.in_ok-nonnegative.ensures.takes.records

-- The tree of a valid value is of a kind of the variants (`tree_of_kind`), and `null` is not.
use Rattle.std.proofs.Common.{sym, ap, ◌∙◌, true≢false}
use Rattle.miniserde_more.specs.Kinds.{tree_kind}
use Rattle.miniserde_more.proofs.UntaggedLaws.{tree_of_kind}
use Rattle.miniserde_more.proofs.untagged.round_trips.untagged_never_null.Goals as goal

pub returns : goal.returns
returns g c = λ v r e.
    let f = g.C.RoundTripUntagged in
    let m = f.meaning in
    let s = g.E.UntaggedEnum in
    true≢false (sym (tree_of_kind f.valid f.tree m.reads m.from_tree m.content m.reads_agrees
    (c.round_trips.ensures.round_trips c.requires.disjoint) f.kinds c.round_trips.ensures.only (s.values v) r)
    ∙ ap (λ t. f.kinds (tree_kind t)) e ∙ c.requires.no_null)

-- The flush writes the run before the whitespace, and the next run begins after it (`rewound`).
use Rattle.std.proofs.Common.{refl}
use Rattle.miniserde_canonical.proofs.InputRuns.{rewound}
use Rattle.miniserde_canonical.proofs.draft.Draft.skip.Goals as goal

pub returns-in_ok-flush-clause-wrote : goal.returns-in_ok-flush-clause-wrote
returns-in_ok-flush-clause-wrote c = λ bs t.
    let b = c.skip.ensures.space in
    let q = c.in_ok-flush.ensures.wrote _ bs t c.left-at.ensures in
    rewound b.space q.0 b.text (record { input = refl; left = c.left-end.ensures; text_is = q.1 })

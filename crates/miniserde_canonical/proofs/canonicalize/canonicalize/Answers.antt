-- The draft holds the canonical text, with the groups in its splices (`held`). It is the compact text of a tree, so it
-- is UTF-8.
use Rattle.std.proofs.Common.{rules, IsUtf8, [], sym, subst, ◌∙◌}
use Rattle.std.proofs.lemmas.Result.{err_from_is_err_and}
use Rattle.miniserde_model.specs.Tree.{Tree}
use Rattle.miniserde_model.specs.Compact.{compact}
use Rattle.miniserde_model.specs.Normal.{norm}
use Rattle.miniserde_model.proofs.Accepted.{json_tree}
use Rattle.miniserde_model.proofs.Normal.{norm_tree}
use Rattle.miniserde_model.proofs.Utf8.{json_utf8}
use Rattle.miniserde_model.proofs.Written.{written}
use Rattle.miniserde_model.specs.Tokens.{tokens}
use Rattle.miniserde_canonical.specs.declared.draft.Draft.{Draft}
use Rattle.miniserde_canonical.specs.private.States.{State, TokenSteps, initial_state}
use Rattle.miniserde_canonical.specs.private.Drafts.{Holding}
use Rattle.miniserde_canonical.specs.private.SplicedTexts.{FilledText}
use Rattle.miniserde_canonical.proofs.TreeRuns.{steps_make}
use Rattle.miniserde_canonical.proofs.DraftSteps.{holds_whole}
use Rattle.miniserde_canonical.proofs.canonicalize.canonicalize.Goals as goal

held : (d : Draft) (t : Tree) (s : State) → TokenSteps (tokens t []) initial_state s → Holding d d.out.bytes.items s
    → FilledText d.groups d.out (compact (norm t))
held d t s r h =
    let m = steps_make t s r in
    subst (FilledText d.groups d.out) m.0 (holds_whole d s h m.1)

pub returns-in_err-draft-clause-invalid : goal.returns-in_err-draft-clause-invalid
returns-in_err-draft-clause-invalid c = λ e.
    let w = err_from_is_err_and c.from_residual.result c.from_residual.ensures.1 in
    c.in_err-draft.ensures.invalid (cc (w.1, w.2, e))

pub from_utf8_unchecked-text-requires : goal.from_utf8_unchecked-text-requires
from_utf8_unchecked-text-requires c =
    let r = c.in_ok-draft.ensures.ok in
    let n = norm r.0 in
    subst IsUtf8 (sym (c.in_ok-bytes.ensures _ (held c.in_ok-draft.draft r.0 r.1 r.3 r.4)))
    (json_utf8 (compact n) n (written n (norm_tree r.0 (json_tree c.args.j.now r.0 r.2))))

pub returns-clause-ok : goal.returns-clause-ok
returns-clause-ok c =
    let r = c.in_ok-draft.ensures.ok in
    let bytes = c.in_ok-bytes.ensures _ (held c.in_ok-draft.draft r.0 r.1 r.3 r.4) in
    (r.0, r.2, search (rules, bytes), r.4.distinct ∙ (steps_make r.0 r.1 r.3).2)

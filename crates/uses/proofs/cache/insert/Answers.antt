-- The answer stands at the bytes of the canonical text, and all that stands elsewhere is what stood there.
use Rattle.std.proofs.Common.{◌≡◌, cond, Some, refl, sym, ap, subst, ◌∙◌, string_bytes}
use Rattle.std.specs.BTreeMap.{get_by_text}
use Rattle.std.specs.Prelude.{bytes_eq}
use Rattle.std.proofs.lemmas.Bool.{false_from_ne_true}
use Rattle.std.proofs.lemmas.Map.Text.{btree_map_updates_text}
use Rattle.std.proofs.lemmas.Result.{err_from_is_err_and}
use Rattle.std.proofs.lemmas.Slice.Eq.{bytes_eq-Decides}
use Rattle.uses.proofs.cache.insert.Goals as goal

pub returns-clause-ok : goal.returns-clause-ok
returns-clause-ok c =
    let r = c.in_ok-canonical.ensures.ok in
    let k = string_bytes c.in_ok-canonical.field-0 in
    let answers = c.insert.new.self in
    let old = get_by_text c.args.answers.now in
    let at = btree_map_updates_text k c.args.answers.now answers _ c.in_ok-insert.ensures.updates in
    let here = at k ∙ ap (λ b. cond b (Some c.args.answer) (old k)) ((bytes_eq-Decides k k).1 refl) in (
      r.0,
      r.1,
      subst (λ b. get_by_text answers b ≡ Some c.args.answer) r.2 here,
      λ other d. at other ∙ ap (λ b. cond b (Some c.args.answer) (old other))
          (false_from_ne_true (bytes_eq k other) (λ h. d (sym ((bytes_eq-Decides k other).0 h) ∙ r.2))),
    )

pub returns-in_err-canonical-clause-invalid : goal.returns-in_err-canonical-clause-invalid
returns-in_err-canonical-clause-invalid c = λ e.
    let w = err_from_is_err_and c.from_residual.result c.from_residual.ensures.1 in
    c.in_err-canonical.ensures.invalid (cc (w.1, w.2, e))

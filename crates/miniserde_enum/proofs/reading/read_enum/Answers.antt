-- The one member's name chooses the variant, and its value is the data; a string is a variant without data. By cases
-- of the token; an object with no member, one or a second is a lemma of `Ones.antt`.
use Rattle.std.proofs.Common.{map, false, None, Some, sym, ap, subst, ◌∙◌, refl}
use Rattle.std.specs.Prelude.{option_map}
use Rattle.miniserde_model.specs.Tree.{str}
use Rattle.miniserde_model.specs.Lexing.{Follows}
use Rattle.miniserde_model.specs.declared.kind.Kind.TheVariants.{Map}
use Rattle.miniserde_text.specs.Lexer.{event_of_token, text_of, is_close}
use Rattle.miniserde_read.proofs.Objects.{object_begins, no_object_follows, object_ends, object_ended, object_gives, object_rejects}
use Rattle.miniserde_read.proofs.Steps.{members_follow}
use Rattle.miniserde_read.proofs.Calls.{reads_failed, reads_none, reads_value}
use Rattle.miniserde_enum.proofs.Ones.{one_next, one_all, one_goes, one_rejected, one_full, last}
use Rattle.miniserde_enum.proofs.reading.read_enum.Goals as goal

pub returns-in_default-2-clause-reads : goal.returns-in_default-2-clause-reads
returns-in_default-2-clause-reads g c = reads_none _ (λ e.
    let f = g.C.Cases.meaning.content_by_name g.E.DataEnum.names in
    object_rejects _ _ _ c.in-MapStart.is (λ ms r p. sym (one_all f ms) ∙ ap (last f)
    (object_ended (object_begins (one_next f) _ _) _ _ c.in_ok-name-in-MapStart.ensures.ok c.in_default-2.is ms r p)))

pub returns-in_err-value-in-MapStart-clause-reads : goal.returns-in_err-value-in-MapStart-clause-reads
returns-in_err-value-in-MapStart-clause-reads g c = reads_failed _ c.from_residual-in_err-value-in-MapStart.ensures.1 (λ e.
    object_rejects _ _ _ c.in-MapStart.is (one_rejected (g.C.Cases.meaning.content_by_name g.E.DataEnum.names) _ _
    c.in_ok-name-in-MapStart.ensures.ok c.in-Some-2.is (rw c.names-in-MapStart.ensures
    at (c.in_err-value-in-MapStart.ensures.invalid e))))

pub returns-in_err-after-in-MapStart-clause-reads : goal.returns-in_err-after-in-MapStart-clause-reads
returns-in_err-after-in-MapStart-clause-reads g c = reads_failed _ c.from_residual-in_err-after-in-MapStart.ensures.1 (λ e.
    object_rejects _ _ _ c.in-MapStart.is (λ ms r p. absurd (no_object_follows
    (one_goes (g.C.Cases.meaning.content_by_name g.E.DataEnum.names) _ _ c.in_ok-name-in-MapStart.ensures.ok c.in-Some-2.is
    (rw c.names-in-MapStart.ensures at c.in_ok-value-in-MapStart.ensures.ok))
    (λ us i j. let m = members_follow us false _ i j in
    c.in_err-after-in-MapStart.ensures.invalid e c.in_ok-value-in-MapStart.ensures.going m.0 m.1 m.2) ms r p)))

pub returns-in-Some-clause-reads : goal.returns-in-Some-clause-reads
returns-in-Some-clause-reads g c =
    let by = g.C.Cases.meaning.content_by_name in
    let content = g.C.Cases.meaning.content in
    let n = text_of c.in-Str.text c.args.source.now.scratch in
    reads_value _ c.requires.going (
      str n,
      (ap (λ z. event_of_token z c.args.source.now.scratch) c.in-Str.is, refl),
      ap (λ z. by z n None) (sym c.names.ensures) ∙ ap (λ z. by (map (λ y. y.now) c.names.result.now) z None)
          (sym c.text.ensures) ∙ sym c.unit_variant.ensures ∙ ap (option_map content) c.in-Some.is
          ∙ ap (λ z. Some (content z)) (sym c.build.ensures),
    )

pub returns-in-Close-clause-reads : goal.returns-in-Close-clause-reads
returns-in-Close-clause-reads g c =
    let f = g.C.Cases.meaning.content_by_name g.E.DataEnum.names in
    let j = subst (λ z. Follows Map false (is_close z) c.read_named.new.source.rest c.after.new.self.rest) c.in-Close.is
    c.in_ok-after-in-MapStart.ensures.ok in
    let o = object_ends (one_goes f _ _ c.in_ok-name-in-MapStart.ensures.ok c.in-Some-2.is
    (rw c.names-in-MapStart.ensures at c.in_ok-value-in-MapStart.ensures.ok)) c.member.new.self.scratch _ j refl in
    reads_value _ c.in_ok-after-in-MapStart.ensures.first_error.kept (object_gives _ _ _ c.in-MapStart.is (
      o.0,
      o.1,
      sym (one_all f o.0) ∙ ap (last f) o.2
          ∙ ap (λ z. Some (g.C.Cases.meaning.content z)) (sym c.build-built.ensures),
    ))

pub returns-in-Next-clause-reads : goal.returns-in-Next-clause-reads
returns-in-Next-clause-reads g c = reads_none _ (λ e.
    let f = g.C.Cases.meaning.content_by_name g.E.DataEnum.names in
    object_rejects _ _ _ c.in-MapStart.is (one_full f _ (one_goes f _ _ c.in_ok-name-in-MapStart.ensures.ok c.in-Some-2.is
    (rw c.names-in-MapStart.ensures at c.in_ok-value-in-MapStart.ensures.ok))
    (subst (λ z. Follows Map false (is_close z) c.read_named.new.source.rest c.after.new.self.rest) c.in-Next.is
    c.in_ok-after-in-MapStart.ensures.ok)))

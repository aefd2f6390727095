-- `take_child_or_end` reads the token of an end, an element or a name, and the draft takes the same token. By cases
-- of the lexer's result and of the kind, for the clause `reads` each with a `reads_` lemma of `WholeTexts.antt` for the
-- text and a `takes_` lemma of `ReaderDrafts.antt` for the draft, for `invalid` with an `_ends` lemma of `Consumes.antt`.
use Rattle.std.proofs.Common.{◌≡◌, ℕ, List, true, false, ◌∷◌, [], ◌++◌, sym, ap, subst, ◌∙◌, arith}
use Rattle.std.proofs.lemmas.Result.{err_from_is_err_and}
use Rattle.std.specs.String.{string_bytes}
use Rattle.miniserde_model.specs.Lexing.{Follows, closing}
use Rattle.miniserde_model.specs.private.Reading.{after}
use Rattle.miniserde_text.specs.Lexer.{text_of, is_close}
use Rattle.miniserde_model.specs.Tokens.{name, element, comma_before}
use Rattle.miniserde_text.specs.private.Moments.{first_or_after}
use Rattle.miniserde_canonical.specs.private.States.{State, TokenStep}
use Rattle.miniserde_canonical.specs.private.Drafts.{Wrote, Holding, Represents, draft_at, DraftTakes}
use Rattle.miniserde_canonical.specs.private.EventTokens.{end_token}
use Rattle.miniserde_text.proofs.Consumes.{after_ends, name_ends}
use Rattle.miniserde_canonical.proofs.WholeTexts.{reads_finish, reads_element, reads_key}
use Rattle.miniserde_canonical.proofs.Plains.{name_plain, name_spelled, at_once}
use Rattle.miniserde_canonical.proofs.ReaderDrafts.{takes_array_end, takes_object_end, takes_element, takes_name, stands_less}
use Rattle.miniserde_canonical.proofs.ReaderDrafts.{follows_less, blank_less, follows_behind, follows_at, names_behind}
use Rattle.miniserde_canonical.proofs.ReaderDrafts.{names_at, closing_at, comma_at}
use Rattle.miniserde_canonical.proofs.read.Reader.take_child_or_end.Goals as goal

pub returns-in_err-after-clause-invalid : goal.returns-in_err-after-clause-invalid
returns-in_err-after-clause-invalid c = λ e.
    let w = err_from_is_err_and c.from_residual-in_err-after.result c.from_residual-in_err-after.ensures.1 in
    after_ends _ c.args.kind c.args.first c.requires.inside
    (λ a r p. c.in_err-after.ensures.invalid (cc (w.1, w.2, e))
    (c.in_ok-before.ensures.going ∙ c.requires.going) a r
    (follows_at c.args.kind c.args.first a r c.in_ok-before.ensures.blank p))

pub returns-in_err-text-in-Map-kind-clause-invalid : goal.returns-in_err-text-in-Map-kind-clause-invalid
returns-in_err-text-in-Map-kind-clause-invalid c = λ e.
    let w = err_from_is_err_and c.from_residual-in_err-text-in-Map-kind.result c.from_residual-in_err-text-in-Map-kind.ensures.1 in
    let k = c.args.kind in
    let p : Follows k c.args.first false c.skip.new.lexer.rest c.after.new.self.rest =
    subst (λ z. Follows k c.args.first (is_close z) c.skip.new.lexer.rest c.after.new.self.rest) c.in-Next.is
    c.in_ok-after.ensures.ok in
    name_ends _ _ k c.args.first c.requires.inside c.in-Map-kind.is
    (follows_behind k c.args.first false _ c.in_ok-before.ensures.blank p)
    (λ n x q. c.in_err-text-in-Map-kind.ensures.invalid (cc (w.1, w.2, e))
    (c.in_ok-at-in-Map-kind.ensures.going ∙ c.in_ok-after.ensures.first_error.kept) n x
    (names_at n x c.in_ok-at-in-Map-kind.ensures.blank q))

pub add_member-requires : goal.add_member-requires
add_member-requires c = name_plain c.in_ok-text-in-Map-kind.text (string_bytes c.name.new.scratch) _ _
    c.in_ok-text-in-Map-kind.ensures.ok c.in_ok-text-in-Map-kind.ensures.text

pub returns-in-Seq-clause-reads : goal.returns-in-Seq-clause-reads
returns-in-Seq-clause-reads c =
    let k = c.args.kind in
    let old = c.args.self.now.lexer.rest in
    let mid = c.skip.new.lexer.rest in
    let new = c.after.new.self.rest in
    let d = c.args.self.now.draft in
    let d1 = c.skip.new.self in
    let b = c.in_ok-before.ensures.blank in
    let p : Follows k c.args.first true mid new =
    subst (λ z. Follows k c.args.first (is_close z) mid new) c.in-Close.is c.in_ok-after.ensures.ok in (
      end_token k ∷ [],
      reads_finish k c.args.first c.requires.inside (follows_behind k c.args.first true new b p) c.pop.ensures,
      subst (λ z. DraftTakes (draft_at (first_or_after c.args.first) old d) (end_token z ∷ []) (draft_at after new d1))
          (sym c.in-Seq.is)
          (takes_array_end {d = d} {d' = d1} (first_or_after c.args.first)
          (record { wrote = c.in_ok-before.ensures.wrote; only_text = c.in_ok-before.ensures.only_text })
          (closing_at k c.args.first mid new b.stops p ∙ ap (λ z. closing z ∷ new) c.in-Seq.is)),
    )

pub returns-in_ok-close-in-Map-clause-reads : goal.returns-in_ok-close-in-Map-clause-reads
returns-in_ok-close-in-Map-clause-reads c =
    let k = c.args.kind in
    let old = c.args.self.now.lexer.rest in
    let mid = c.skip.new.lexer.rest in
    let new = c.after.new.self.rest in
    let d = c.args.self.now.draft in
    let d1 = c.skip.new.self in
    let b = c.in_ok-before.ensures.blank in
    let p : Follows k c.args.first true mid new =
    subst (λ z. Follows k c.args.first (is_close z) mid new) c.in-Close.is c.in_ok-after.ensures.ok in (
      end_token k ∷ [],
      reads_finish k c.args.first c.requires.inside (follows_behind k c.args.first true new b p) c.pop.ensures,
      subst (λ z. DraftTakes (draft_at (first_or_after c.args.first) old d) (end_token z ∷ []) (draft_at after new c.close.new.self))
          (sym c.in-Map.is)
          (takes_object_end {d = d} {d1 = d1} (first_or_after c.args.first) c.close.new.self
          (record { wrote = c.in_ok-before.ensures.wrote; only_text = c.in_ok-before.ensures.only_text })
          (closing_at k c.args.first mid new b.stops p ∙ ap (λ z. closing z ∷ new) c.in-Map.is)
          (λ s r. c.in_ok-close-in-Map.ensures mid s r c.in_ok-before.ensures.at)),
    )

pub returns-in-Seq-kind-clause-reads : goal.returns-in-Seq-kind-clause-reads
returns-in-Seq-kind-clause-reads c =
    let k = c.args.kind in
    let old = c.args.self.now.lexer.rest in
    let mid = c.skip.new.lexer.rest in
    let new = c.after.new.self.rest in
    let d = c.args.self.now.draft in
    let d1 = c.skip.new.self in
    let b = c.in_ok-before.ensures.blank in
    let p : Follows k c.args.first false mid new =
    subst (λ z. Follows k c.args.first (is_close z) mid new) c.in-Next.is c.in_ok-after.ensures.ok in (
      element ∷ [],
      reads_element k c.args.first c.requires.inside c.in-Seq-kind.is (follows_behind k c.args.first false new b p),
      takes_element {d = d} {d' = d1} c.args.first new
          (record { wrote = c.in_ok-before.ensures.wrote; only_text = c.in_ok-before.ensures.only_text })
          (comma_at k c.args.first mid new b.stops p),
    )

pub returns-in_ok-add_member-in-Map-kind-clause-reads : goal.returns-in_ok-add_member-in-Map-kind-clause-reads
returns-in_ok-add_member-in-Map-kind-clause-reads c =
    let k = c.args.kind in
    let text = c.in_ok-text-in-Map-kind.text in
    let x = string_bytes c.name.new.scratch in
    let n = text_of text x in
    let old = c.args.self.now.lexer.rest in
    let mid = c.skip.new.lexer.rest in
    let behind = c.after.new.self.rest in
    let at = c.skip-in-Map-kind.new.lexer.rest in
    let new = c.name.new.self.rest in
    let d = c.args.self.now.draft in
    let d1 = c.skip.new.self in
    let d2 = c.skip-in-Map-kind.new.self in
    let b = c.in_ok-before.ensures.blank in
    let b2 = c.in_ok-at-in-Map-kind.ensures.blank in
    let q = c.in_ok-text-in-Map-kind.ensures.ok in
    let p : Follows k c.args.first false mid behind =
    subst (λ z. Follows k c.args.first (is_close z) mid behind) c.in-Next.is c.in_ok-after.ensures.ok in
    let takes = subst (λ z. (before : List ℕ) (s s' : State) → Wrote d2 at (before ++ comma_before s.first)
    → Holding d2 before s → s.first ≡ c.args.first → TokenStep (name (text_of text z)) s s'
    → Represents c.add_member.new.self new s') c.as_str.ensures.value
    (λ before s s' t h f a. c.in_ok-add_member-in-Map-kind.ensures at q.part new before s s' t h
    (record { text = at_once at new q b2.stops; at = c.in_ok-at-in-Map-kind.ensures.at; end = c.left-end.ensures })
    (name_spelled text x at new q c.in_ok-text-in-Map-kind.ensures.text) f a) in (
      name n ∷ [],
      reads_key k c.args.first c.requires.inside c.in-Map-kind.is
          (follows_behind k c.args.first false behind b p) (names_behind n new b2 q),
      takes_name {d = d} {d1 = d1} {d2 = d2} c.args.first n behind
          (record { wrote = c.in_ok-before.ensures.wrote; only_text = c.in_ok-before.ensures.only_text })
          (comma_at k c.args.first mid behind b.stops p)
          (record { wrote = c.in_ok-at-in-Map-kind.ensures.wrote; only_text = c.in_ok-at-in-Map-kind.ensures.only_text })
          takes,
    )

pub returns-in_ok-add_member-in-Map-kind-clause-less : goal.returns-in_ok-add_member-in-Map-kind-clause-less
returns-in_ok-add_member-in-Map-kind-clause-less c =
    let a = blank_less _ _ c.in_ok-before.ensures.blank in
    let p = follows_less c.args.kind c.args.first (is_close c.in_ok-after.field-0) _ _ c.in_ok-after.ensures.ok in
    let b = blank_less _ _ c.in_ok-at-in-Map-kind.ensures.blank in
    let q = stands_less _ _ c.in_ok-text-in-Map-kind.ensures.ok in
    (omega (arith, a, p, b, q), λ e. absurd (cc))

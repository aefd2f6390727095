-- `read_tagged` returns the variant that the tag names, with its data from the other members. The tag and the data
-- are read from one text, and so from one tree (`tag_read`, `tag_none`).
use Rattle.std.proofs.Common.{Some, sym, ap, ◌∙◌}
use Rattle.std.specs.Prelude.{option_map}
use Rattle.miniserde_enum.specs.Inside.{inside_of}
use Rattle.miniserde_enum.specs.Cases.{with_data}
use Rattle.miniserde_read.proofs.Calls.{reads_failed, reads_none, reads_value}
use Rattle.miniserde_enum.proofs.TagNames.{tag_read, tag_none}
use Rattle.miniserde_enum.proofs.internal.read_tagged.Goals as goal

pub returns-in_err-tag-clause-reads : goal.returns-in_err-tag-clause-reads
returns-in_err-tag-clause-reads g c = reads_failed _ c.from_residual.ensures.1 (λ e.
    tag_none g.C.InsideCases.meaning g.E.DataEnum.names g.E.HasTag.tag _ _ c.in-MapStart.is
    c.fork-ahead.ensures.rest (c.in_err-tag.ensures.reads.invalid e))

pub returns-in_default-name_among-clause-reads : goal.returns-in_default-name_among-clause-reads
returns-in_default-name_among-clause-reads g c = reads_none _ (λ e.
    tag_read g.C.InsideCases.meaning g.E.DataEnum.names g.E.HasTag.tag _ _ c.in-MapStart.is
    c.fork-ahead.ensures.rest (ap (option_map (λ n. n.now)) c.in_default-name_among.is) c.in_ok-tag.ensures.reads.ok)

pub returns-in_err-value-clause-reads : goal.returns-in_err-value-clause-reads
returns-in_err-value-clause-reads g c = reads_failed _ c.from_residual-in_err-value.ensures.1 (λ e t r p.
    let m = g.C.InsideCases.meaning in
    let tag = g.E.HasTag.tag in
    tag_read m g.E.DataEnum.names tag _ _ c.in-MapStart.is c.fork-ahead.ensures.rest
    (ap (option_map (λ n. n.now)) c.in-Some.is) c.in_ok-tag.ensures.reads.ok t r p
    ∙ ap (λ z. inside_of tag (with_data (m.content_by_name z c.in-Some.name.now)) t) (sym c.names.ensures)
    ∙ c.in_err-value.ensures.invalid e t r p)

pub returns-clause-reads : goal.returns-clause-reads
returns-clause-reads g c =
    let m = g.C.InsideCases.meaning in
    let tag = g.E.HasTag.tag in
    let b = c.in_ok-value.ensures.ok in
    reads_value _ c.in_ok-value.ensures.going (
      b.0,
      b.1,
      tag_read m g.E.DataEnum.names tag _ _ c.in-MapStart.is c.fork-ahead.ensures.rest
          (ap (option_map (λ n. n.now)) c.in-Some.is) c.in_ok-tag.ensures.reads.ok b.0 _ b.1
          ∙ ap (λ z. inside_of tag (with_data (m.content_by_name z c.in-Some.name.now)) b.0) (sym c.names.ensures)
          ∙ b.2
          ∙ ap (λ z. Some (m.content z)) (sym c.build.ensures),
    )

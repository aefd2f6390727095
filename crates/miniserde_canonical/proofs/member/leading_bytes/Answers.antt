-- Two exits: eight bytes or more are read as a big-endian number (`first_eight`); of a shorter name, each missing
-- byte is 0.
use Rattle.std.proofs.Common.{rules, ap, ◌∙◌}
use Rattle.miniserde_canonical.specs.private.MemberNames.{leading_number}
use Rattle.miniserde_canonical.proofs.FirstEight.{first_eight}
use Rattle.miniserde_canonical.proofs.member.leading_bytes.Goals as goal

pub returns-then-b-ge8 : goal.returns-then-b-ge8
returns-then-b-ge8 c = record {
  value = c.from_be_bytes.ensures ∙ first_eight c.as_bytes-b.result.now ∙ ap (leading_number 8) c.as_bytes-b.ensures.value;
  small = λ i. search rules;
}

pub returns : goal.returns
returns c = record {
  value = rw (
    c.from_be_bytes-2.ensures,
    c.byte.ensures,
    c.byte-2.ensures,
    c.byte-3.ensures,
    c.byte-4.ensures,
    c.byte-5.ensures,
    c.byte-6.ensures,
    c.byte-7.ensures,
    c.byte-8.ensures,
  )
      (first_eight c.as_bytes-b.result.now ∙ ap (leading_number 8) c.as_bytes-b.ensures.value);
  small = λ i. search rules;
}

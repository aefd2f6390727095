-- A name is taken if it is an alias (`front`), and else exactly if it is one of the other names (`behind_only`).
use Rattle.std.proofs.Common.{sym, ap, ◌∙◌}
use Rattle.miniserde_record.specs.Marks.{is_among}
use Rattle.miniserde_more.specs.Rest.{alias_names}
use Rattle.miniserde_more.proofs.RestTaken.{front, behind_only}
use Rattle.miniserde_more.proofs.rest.taken.AliasesOfTakenNames.takes.Goals as goal

pub returns-then-is_alias : goal.returns-then-is_alias
returns-then-is_alias g c = sym (front (alias_names g.S.HasAliases.aliases) g.A.TakenNames.further c.args.name.now
    (ap (λ ps. is_among (alias_names ps) c.args.name.now) (sym c.aliases.ensures) ∙ sym c.is_alias.ensures ∙ c.if-is_alias.true))

pub returns : goal.returns
returns g c = c.takes.ensures ∙ sym (behind_only (alias_names g.S.HasAliases.aliases) g.A.TakenNames.further c.args.name.now
    (ap (λ ps. is_among (alias_names ps) c.args.name.now) (sym c.aliases.ensures) ∙ sym c.is_alias.ensures ∙ c.if-is_alias.false))

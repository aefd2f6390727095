-- The answer spells the normal form of the text's members with the port behind them, which mean the settings at that port
-- (`with_port`); settings are stable, so the normal form means them too. A text that means settings spells an object, so
-- it is refused only if it means none.
use Rattle.std.proofs.Common.{◌≡◌, ◌<◌, sym, ap, subst, ◌∙◌, refl, codes, arith}
use Rattle.miniserde.specs.Tree.{members, nonneg}
use Rattle.miniserde.specs.Compact.{compact}
use Rattle.miniserde.specs.Normal.{norm_members}
use Rattle.settings.specs.contracts.parts.HostFromJson.TheImpl as host
use Rattle.settings.specs.contracts.parts.TlsFromJson.TheImpl as tls
use Rattle.settings.specs.contracts.types.SettingsFromJson.TheImpl as settings
use Rattle.settings_app.specs.Changes.{at_port, with_member_behind}
use Rattle.settings_app.proofs.Members.{only_change}
use Rattle.settings_app.proofs.Meanings.{with_port}
use Rattle.settings_app.proofs.loading.at_another_port.Goals as goal

pub returns-clause-ok : goal.returns-clause-ok
returns-clause-ok c =
    let port = codes "port" in
    let u = nonneg c.args.port in
    let l = c.in_ok-load.ensures.ok in
    let s = c.in_ok-load.field-0 in
    let w = c.in_ok-changed.ensures.ok in
    let t = members (with_member_behind port u w.0) in
    let same = c.text_has_one_tree.ensures c.args.text.now l.0 (members w.0) l.1 w.1 in
    let means = subst (λ t. settings.ghosts.means.reads t s) same l.2 in
    let small : c.args.port < 65536 = (let fits = c.ranges.port in omega arith) in
    let there = (c.settings_meant.ensures t (at_port c.args.port s)).1
    (with_port host.ghosts.means.from_tree tls.ghosts.means.from_tree c.args.port s w.0 small
    ((c.settings_meant.ensures (members w.0) s).0 means)) in (
      w.0,
      s,
      norm_members (with_member_behind port u w.0),
      w.1,
      means,
      w.2,
      c.means_in_normal_form.ensures.means t (at_port c.args.port s) there,
      only_change c.norm_of_members.ensures.last port u w.0 refl,
      w.3 ∙ ap compact (sym (c.norm_is_normal.ensures.idempotent t)),
    )

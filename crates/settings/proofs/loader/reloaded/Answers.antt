-- Settings that are saved and loaded are the same in each field, and they fail to load only if allocation fails. The
-- text has one tree (`text_has_one_tree`), and all settings that this tree means have one content; `same` compares
-- that content field by field.
use Rattle.std.proofs.Common.{◌≡◌, ℕ, ℤ, Bool, List, sym, ap, subst, string_bytes, pos}
use Rattle.std.specs.Prelude.{unsigned_abs}
use Rattle.miniserde.specs.Maps.{entry_at}
use Rattle.std.proofs.lemmas.Result.{IfOk-weaker}
use Rattle.miniserde.specs.Value.{IsJson}
use Rattle.settings.specs.Meaning.{AreSame}
use Rattle.settings.specs.declared.types.Settings.{Settings}
use Rattle.settings.specs.contracts.parts.HostPlaceVisitor.TheImpl as host
use Rattle.settings.specs.contracts.parts.TlsPlaceVisitor.TheImpl as tls
use Rattle.settings.specs.contracts.types.SettingsPlaceVisitor.TheImpl as settings
use Rattle.settings.specs.contracts.types.SettingsSerialize.TheImpl as written
use Rattle.miniserde.specs.Said.{maps, option_maps}
use Rattle.settings.proofs.loader.reloaded.Goals as goal

same : (v w : Settings) → settings.ghosts.meaning.content v ≡ settings.ghosts.meaning.content w → AreSame v w
same v w e =
    let C : Type 0 = settings.ghosts.meaning.Content in
    let port : pos v.port ≡ pos w.port = ap (λ (c : C). c.1.0) e in
    let tls_in : tls.ghosts.meaning.Content → List ℕ × Bool = λ c. (c.0, c.1.0) in
    let host_in : host.ghosts.meaning.Content → List ℕ × ℕ = λ c. (c.0, unsigned_abs c.1.0) in
    let limit_in : List ℕ × ℤ → List ℕ × ℕ = λ c. (c.0, unsigned_abs c.1) in (
      ap (λ (c : C). c.0) e,
      cc,
      option_maps tls.ghosts.meaning.content tls_in v.tls w.tls (ap (λ (c : C). c.1.1.0) e),
      maps host.ghosts.meaning.content host_in v.hosts.items w.hosts.items (ap (λ (c : C). c.1.1.1.0) e),
      λ name. option_maps (λ e. (string_bytes e.0, pos e.1)) limit_in (entry_at string_bytes name v.limits.entries)
          (entry_at string_bytes name w.limits.entries) (ap (λ (c : C). c.1.1.1.1.0 name) e),
    )

pub returns-clause-same : goal.returns-clause-same
returns-clause-same c =
    let u = written.ghosts.tree c.args.s.now in
    IfOk-weaker c.load.result _ _ (λ v h.
    let j = subst (λ b. IsJson b h.0) c.as_str.ensures.value h.1 in
    let e = c.text_has_one_tree.ensures (string_bytes c.in_ok-text.text) h.0 u j c.in_ok-text.ensures.spells in
    same v c.args.s.now (c.in_ok-text.ensures.only v (subst (λ t. settings.ghosts.meaning.reads t v) e h.2))) c.load.ensures.ok

pub returns-clause-memory : goal.returns-clause-memory
returns-clause-memory c h =
    let u = written.ghosts.tree c.args.s.now in
    let j = subst (λ b. IsJson b u) (sym c.as_str.ensures.value) c.in_ok-text.ensures.spells in
    c.load.ensures.invalid h u j c.args.s.now c.in_ok-text.ensures.means

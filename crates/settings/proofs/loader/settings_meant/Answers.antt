-- A tree means settings exactly if `IsSettings` holds of both. `says` puts hosts, certificates and a missing `tls` in a
-- user's words; all else of `IsSettings` is what `reads` says.
use Rattle.std.proofs.Common.{codes}
use Rattle.miniserde.specs.Tree.{members}
use Rattle.miniserde.specs.Lists.{list_of}
use Rattle.miniserde.specs.Options.{option_of}
use Rattle.settings.specs.contracts.parts.HostFromJson.TheImpl as host
use Rattle.settings.specs.contracts.parts.TlsFromJson.TheImpl as tls
use Rattle.miniserde.specs.Said.{says, items, optional, none_counts}
use Rattle.settings.proofs.loader.settings_meant.Goals as goal

pub returns : goal.returns
returns c (members ms) s =
    let h = host.ghosts.means in
    let t = tls.ghosts.means in
    let r3 = says (option_of t.from_tree) (λ u. optional c.parts_meant.ensures.tls u s.tls) (none_counts t.content s.tls)
    (codes "tls") ms in
    let r4 = says {absent = ⊥} {missing = ⊥} (list_of h.from_tree) (λ u. items c.parts_meant.ensures.host u s.hosts.items)
    (λ h. h, λ h. h) (codes "hosts") ms in (
      λ r. (r.0, r.1.0, r3.0 r.1.1.0, r4.0 r.1.1.1.0, r.1.1.1.1.0),
      λ r. (r.0, (r.1, (r3.1 r.2, (r4.1 r.3, (r.4, tt))))),
    )
returns c t h = (λ r. absurd r, λ r. absurd r)

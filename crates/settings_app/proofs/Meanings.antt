-- Members that mean settings mean them at another port with a member of that port behind them: field by field, since a
-- field is meant by the members of its name alone.
use Rattle.std.proofs.Common.{◌≡◌, ◌<◌, ◌^◌, ℕ, Some, None, Option, refl, ap, cond, codes, string_bytes, pos}
use Rattle.std.proofs.lemmas.Bool.{lt-ltb}
use Rattle.std.specs.Prelude.{is_some}
use Rattle.miniserde.specs.Tree.{Tree, str, members, Members, nonneg}
use Rattle.miniserde.specs.Words.{string_of}
use Rattle.miniserde.specs.Integers.{unsigned_of}
use Rattle.miniserde.specs.Lists.{ListReads, list_of}
use Rattle.miniserde.specs.Options.{OptionReads, option_of}
use Rattle.miniserde.specs.Maps.{key_meaning, MapReads, map_of}
use Rattle.settings.specs.Meaning.{IsBelow, IsHost, IsTls, IsSettings}
use Rattle.settings.specs.declared.types.Settings.{Settings}
use Rattle.settings_app.specs.Changes.{at_port, with_member_behind}
use Rattle.settings_app.proofs.Members.{as_before, as_last}

module _ {C D : Type 0} (host : Tree → Option C) (tls : Tree → Option D) (port : ℕ) (s : Settings) (ms : Members) where
  pub with_port : port < 65536 → IsSettings host tls (members ms) s
      → IsSettings host tls (members (with_member_behind (codes "port") (nonneg port) ms)) (at_port port s)
  with_port small r =
      let u = nonneg port in
      let some = ap (λ b. is_some (cond b (Some (pos port)) None)) (lt-ltb port 65536 small) in (
        as_before string_of (codes "name") (codes "port") u ⊥ (λ t. t ≡ str (string_bytes s.name)) ms refl r.0,
        as_last (unsigned_of 16) (codes "port") u ⊥ (λ t. IsBelow 65536 t port) ms some (refl, small) r.1.0,
        as_before (option_of tls) (codes "tls") (codes "port") u (s.tls ≡ None) (λ t. OptionReads IsTls t s.tls) ms refl r.2,
        as_before (list_of host) (codes "hosts") (codes "port") u ⊥ (λ t. ListReads IsHost t s.hosts.items) ms refl r.3,
        as_before (map_of Some (λ k. k) (unsigned_of 64)) (codes "limits") (codes "port") u ⊥
            (λ t. MapReads (key_meaning Some (λ k. k) string_bytes) (unsigned_of 64) (IsBelow (2 ^ 64)) t s.limits.entries) ms refl r.4,
      )

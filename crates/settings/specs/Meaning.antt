-- Which trees mean settings, and when two settings are the same: field by field, in the words of a user.
use Rattle.std.specs.Prelude.{◌≡◌, ◌<◌, ◌^◌, ℕ, Bool, List, map, Option, Some, None, option_map, string_bytes, codes}
use Rattle.miniserde.specs.Tree.{Tree, nonneg, str, truth, members}
use Rattle.miniserde.specs.Words.{boolean_of, string_of}
use Rattle.miniserde.specs.Integers.{unsigned_of}
use Rattle.miniserde.specs.Lists.{ListReads, list_of}
use Rattle.miniserde.specs.Options.{OptionReads, option_of}
use Rattle.miniserde.specs.Maps.{key_meaning, MapReads, map_of, map_content}
use Rattle.miniserde.specs.Fields.{LastMemberReads}
use Rattle.settings.specs.declared.parts.Host.{Host}
use Rattle.settings.specs.declared.parts.Tls.{Tls}
use Rattle.settings.specs.declared.types.Settings.{Settings}

-- the tree is a number below the limit
abbrev pub IsBelow : ℕ → Tree → ℕ → Type 0
IsBelow limit t n = (t ≡ nonneg n) × (n < limit)

-- the tree has a host's members: a text `host`, and a `weight` of at most 255
abbrev pub IsHost : Tree → Host → Type 0
IsHost (members ms) h = LastMemberReads ⊥ (λ t. t ≡ str (string_bytes h.host)) string_of (codes "host") ms
    × LastMemberReads ⊥ (λ t. IsBelow 256 t h.weight) (unsigned_of 8) (codes "weight") ms
IsHost t h = ⊥

-- the tree has a `Tls`'s members: a text `cert`, and `true` or `false` as `verify`
abbrev pub IsTls : Tree → Tls → Type 0
IsTls (members ms) s = LastMemberReads ⊥ (λ t. t ≡ str (string_bytes s.cert)) string_of (codes "cert") ms
    × LastMemberReads ⊥ (λ t. t ≡ truth s.verify) boolean_of (codes "verify") ms
IsTls t s = ⊥

-- The tree has the settings' members: a text `name`, a `port` of at most 65535, `tls` that may be null or missing, a
-- list `hosts`, and an object `limits`, whose values are below 2 ^ 64. `host` and `tls` tell what the types of these two
-- accept.
abbrev pub IsSettings : {C D : Type 0} → (Tree → Option C) → (Tree → Option D) → Tree → Settings → Type 0
IsSettings host tls (members ms) s = LastMemberReads ⊥ (λ t. t ≡ str (string_bytes s.name)) string_of (codes "name") ms
    × LastMemberReads ⊥ (λ t. IsBelow 65536 t s.port) (unsigned_of 16) (codes "port") ms
    × LastMemberReads (s.tls ≡ None) (λ t. OptionReads IsTls t s.tls) (option_of tls) (codes "tls") ms
    × LastMemberReads ⊥ (λ t. ListReads IsHost t s.hosts.items) (list_of host) (codes "hosts") ms
    × LastMemberReads ⊥ (λ t. MapReads (key_meaning Some (λ k. k) string_bytes) (unsigned_of 64) (IsBelow (2 ^ 64)) t
    s.limits.entries) (map_of Some (λ k. k) (unsigned_of 64)) (codes "limits") ms
IsSettings host tls t s = ⊥

-- what counts of a host and of a `Tls`
abbrev pub host_of : Host → List ℕ × ℕ
host_of h = (string_bytes h.host, h.weight)

abbrev pub tls_of : Tls → List ℕ × Bool
tls_of s = (string_bytes s.cert, s.verify)

-- the name and the number at a name, where it has a limit
abbrev pub limit_at : List ℕ → Settings → Option (List ℕ × ℕ)
limit_at name s = map_content (λ k. k) string_bytes (λ n. n) s.limits.entries name

-- the same in each field
abbrev pub AreSame : Settings → Settings → Type 0
AreSame v w = (string_bytes v.name ≡ string_bytes w.name) × (v.port ≡ w.port) × (option_map tls_of v.tls ≡ option_map tls_of w.tls)
    × (map host_of v.hosts.items ≡ map host_of w.hosts.items) × ((name : List ℕ) → limit_at name v ≡ limit_at name w)

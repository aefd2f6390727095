-- Which trees mean a service: field by field, in the words of a user.
use Rattle.std.specs.Prelude.{◌≡◌, ◌<◌, ◌≤◌, ◌^◌, ℕ, true, List, [], ◌∷◌, None, string_bytes, codes}
use Rattle.miniserde.specs.Tree.{Tree, nonneg, str, truth, members}
use Rattle.miniserde.specs.Words.{boolean_of, string_of}
use Rattle.miniserde.specs.Integers.{unsigned_of}
use Rattle.miniserde.specs.Lists.{ListReads, list_of}
use Rattle.miniserde.specs.Options.{OptionReads, option_of}
use Rattle.miniserde.specs.Objects.{Name}
use Rattle.miniserde.specs.Fields.{LastMemberReads, count_named}
use Rattle.miniserde.specs.Marks.{all_among}
use Rattle.examples.specs.declared.service.Service.{Service}

-- the tree is a number below the limit
abbrev pub IsBelow : ℕ → Tree → ℕ → Type 0
IsBelow limit t n = (t ≡ nonneg n) × (n < limit)

-- the names of the fields
abbrev pub names : List Name
names = codes "id" ∷ codes "host" ∷ codes "port" ∷ codes "secure" ∷ codes "tags" ∷ codes "note" ∷ []

-- Each member's name is a field's. One member at most is an `id`, and one a `port`. `id` is below 2 ^ 64, and each other
-- field may be missing: then `host` is `localhost`, `port` 8080 and `secure` true, and `tags` and `note` are empty.
abbrev pub IsService : Tree → Service → Type 0
IsService (members ms) s = (all_among names ms ≡ true)
    × (count_named (codes "id") ms ≤ 1)
    × LastMemberReads ⊥ (λ t. IsBelow (2 ^ 64) t s.id) (unsigned_of 64) (codes "id") ms
    × LastMemberReads (string_bytes s.host ≡ codes "localhost") (λ t. t ≡ str (string_bytes s.host)) string_of (codes "host") ms
    × (count_named (codes "port") ms ≤ 1)
    × LastMemberReads (s.port ≡ 8080) (λ t. IsBelow 65536 t s.port) (unsigned_of 16) (codes "port") ms
    × LastMemberReads (s.secure ≡ true) (λ t. t ≡ truth s.secure) boolean_of (codes "secure") ms
    × LastMemberReads (s.tags.items ≡ []) (λ t. ListReads (λ u x. u ≡ str (string_bytes x)) t s.tags.items)
    (list_of string_of) (codes "tags") ms
    × LastMemberReads (s.note ≡ None) (λ t. OptionReads (λ u x. u ≡ str (string_bytes x)) t s.note) (option_of string_of) (codes "note") ms
IsService t s = ⊥

-- One member at most is a `port`, and n is its number; if there is none, n is as if it were 8080.
abbrev pub IsPort : Tree → ℕ → Type 0
IsPort (members ms) n = (count_named (codes "port") ms ≤ 1)
    × LastMemberReads (IsBelow 65536 (nonneg 8080) n) (λ t. IsBelow 65536 t n) (unsigned_of 16) (codes "port") ms
IsPort t n = ⊥

-- A tree means a service exactly if `IsService` holds of both. `says` puts the value of a missing field in a user's
-- words; all else of `IsService` is what `reads` says.
use Rattle.std.proofs.Common.{◌≡◌, ℕ, Bool, true, List, [], ◌∷◌, refl, sym, ap, codes, string_bytes, arith}
use Rattle.std.specs.Prelude.{◌↔◌}
use Rattle.miniserde.specs.Tree.{Tree, members, nonneg, str, truth, no_trees}
use Rattle.miniserde.specs.Words.{string_of}
use Rattle.miniserde.specs.Integers.{unsigned_of, ReadsUnsigned}
use Rattle.miniserde.specs.Lists.{EachReads}
use Rattle.miniserde.specs.Options.{OptionReads, option_of}
use Rattle.miniserde.specs.Meanings.{boolean_meaning, string_meaning, list_meaning}
use Rattle.miniserde.specs.Said.{says, none_counts}
use Rattle.examples.proofs.services.service_meant.Goals as goal

same : (P : Tree → Type 0) (t : Tree) → P t ↔ P t
same P t = (λ r. r, λ r. r)

local : (bytes : List ℕ) → (str (codes "localhost") ≡ str bytes) ↔ (bytes ≡ codes "localhost")
local bytes = (λ e. let q : codes "localhost" ≡ bytes = cc in sym q, λ e. ap str (sym e))

http : (n : ℕ) → ReadsUnsigned 16 (nonneg 8080) n ↔ (n ≡ 8080)
http n = (λ h. let q : 8080 ≡ n = cc in sym q, λ e. (ap nonneg (sym e), omega (arith, e)))

yes : (b : Bool) → (truth true ≡ truth b) ↔ (b ≡ true)
yes b = (λ e. let q : true ≡ b = cc in sym q, λ e. ap truth (sym e))

nothing : {T : Type 0} (R : Tree → T → Type 0) (xs : List T) → EachReads R no_trees xs ↔ (xs ≡ [])
nothing R [] = (λ _. refl, λ _. tt)
nothing R (x ∷ xs) = (λ h. absurd h, λ e. absurd (cc))

pub returns : goal.returns
returns c (members ms) s =
    let text = string_meaning string_bytes in
    let tags = list_meaning text (λ v. v.items) in
    let host : Tree → Type 0 = λ t. text.reads t s.host in
    let r2 = says text.from_tree (same host) (local (string_bytes s.host)) (codes "host") ms in
    let port : Tree → Type 0 = λ t. ReadsUnsigned 16 t s.port in
    let r3 = says (unsigned_of 16) (same port) (http s.port) (codes "port") ms in
    let secure : Tree → Type 0 = λ t. boolean_meaning.reads t s.secure in
    let r4 = says boolean_meaning.from_tree (same secure) (yes s.secure) (codes "secure") ms in
    let has : Tree → Type 0 = λ t. tags.reads t s.tags in
    let r5 = says tags.from_tree (same has) (nothing text.reads s.tags.items) (codes "tags") ms in
    let note : Tree → Type 0 = λ t. OptionReads text.reads t s.note in
    let r6 = says (option_of string_of) (same note) (none_counts string_bytes s.note) (codes "note") ms in (
      λ r. (
        r.1.1.1.1.1.1,
        r.0.0,
        r.0.1,
        r2.0 r.1.0,
        r.1.1.0.0,
        r3.0 r.1.1.0.1,
        r4.0 r.1.1.1.0,
        r5.0 r.1.1.1.1.0,
        r6.0 r.1.1.1.1.1.0,
      ),
      λ q. ((q.1, q.2), (r2.1 q.3, ((q.4, r3.1 q.5), (r4.1 q.6, (r5.1 q.7, (r6.1 q.8, q.0)))))),
    )
returns c t s = (λ r. absurd r, λ r. absurd r)

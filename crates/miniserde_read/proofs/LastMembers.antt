-- The `get` of std returns for a key the value that the last member of that key means. By recursion over the entries,
-- `get` finds the entry at the code of the key (`found_at`); by recursion over the members, the last tree of a name
-- is the last one met there (`last_named`).
use Rattle.std.proofs.Common.{◌≡◌, Bool, true, false, cond, List, [], ◌∷◌, Option, Some, None, refl, sym, ap, ◌∙◌, subst}
use Rattle.std.specs.Prelude.{bytes_eq, option_map}
use Rattle.std.specs.Map.{lookup}
use Rattle.miniserde_model.specs.Tree.{Tree, null, truth, nonneg, neg, num, str, list, members, Members, no_members, member}
use Rattle.miniserde_model.specs.Normal.{last_of, or_else}
use Rattle.miniserde_keys.specs.Keys.{Key}
use Rattle.miniserde_read.specs.types.Objects.{Name}
use Rattle.miniserde_read.specs.types.Maps.{key_meaning, first_and_last, first_and_last_at, entry_at, EntryFits, MapReads}
use Rattle.miniserde_read.specs.Lookups.{last_in, last_at, IsValueOf}

-- ---- the last tree of a name is the last tree of the members whose key it is

last_met : (b : Bool) (k : Name) (t : Tree) (o : Option (Key × Tree))
    → option_map (λ e. e.1) (first_and_last (cond b (Some k) None) t o) ≡ or_else (option_map (λ e. e.1) o)
    (cond b (Some t) None)
last_met true k t None = refl
last_met true k t (Some p) = refl
last_met false k t None = refl
last_met false k t (Some p) = refl

last_named : (q : Name) (ms : Members) → option_map (λ e. e.1) (first_and_last_at (λ k. Some k) (λ c. c) q ms) ≡ last_of q ms
last_named q no_members = refl
last_named q (member k t ms) = last_met (bytes_eq k q) k t (first_and_last_at (λ k. Some k) (λ c. c) q ms)
    ∙ ap (λ o. or_else o (cond (bytes_eq k q) (Some t) None)) (last_named q ms)

-- ---- what `get` finds

module _ {K V : Type 0} (code : K → Key) where
  found_at : (test : K → Bool) (q : Key) → ((k : K) → test k ≡ bytes_eq (code k) q) → (es : List (K × V))
      → lookup test es ≡ option_map (λ e. e.1) (entry_at code q es)
  found_at test q same [] = refl
  found_at test q same (e ∷ es) =
      rw (same e.0) (elim (bytes_eq (code e.0) q)
      as (λ b. cond b (Some e.1) (lookup test es) ≡ option_map (λ e. e.1) (cond b (Some e) (entry_at code q es))) [
        | true ↦ refl
        | false ↦ found_at test q same es
      ])

module _ {K V : Type 0} (content : K → Key) (R : Tree → V → Type 0) where
  value_at : (o : Option (Key × Tree)) (e : Option (K × V)) → EntryFits content R o e
      → IsValueOf R (option_map (λ p. p.1) o) (option_map (λ e. e.1) e)
  value_at None None h = refl
  value_at None (Some e) h = absurd h
  value_at (Some p) None h = absurd h
  value_at (Some p) (Some e) h = (p.1, refl, h.1)

  module _ {C : Type 0} (read : Name → Option Key) (code : Key → Key) (of : Tree → Option C) where
    pub last_key : (t : Tree) (es : List (K × V)) → MapReads (key_meaning read code content) of R t es
        → (test : K → Bool) (q : Key) → ((k : K) → test k ≡ bytes_eq (code (content k)) q)
        → IsValueOf R (last_at read code q t) (lookup test es)
    last_key (members ms) es h test q same =
        subst (IsValueOf R (option_map (λ p. p.1) (first_and_last_at read code q ms)))
        (sym (found_at (λ k. code (content k)) test q same es))
        (value_at (first_and_last_at read code q ms) (entry_at (λ k. code (content k)) q es) (h.1 q))
    last_key null es h test q same = absurd h
    last_key (truth b) es h test q same = absurd h
    last_key (nonneg n) es h test q same = absurd h
    last_key (neg z) es h test q same = absurd h
    last_key (num x) es h test q same = absurd h
    last_key (str x) es h test q same = absurd h
    last_key (list ts) es h test q same = absurd h

  module _ {C : Type 0} (of : Tree → Option C) where
    pub last_name : (t : Tree) (es : List (K × V)) → MapReads (key_meaning (λ k. Some k) (λ c. c) content) of R t es
        → (test : K → Bool) (q : Name) → ((k : K) → test k ≡ bytes_eq (content k) q)
        → IsValueOf R (last_in q t) (lookup test es)
    last_name (members ms) es h test q same =
        subst (λ o. IsValueOf R o (lookup test es)) (last_named q ms)
        (last_key (λ k. Some k) (λ c. c) of (members ms) es h test q same)
    last_name null es h test q same = absurd h
    last_name (truth b) es h test q same = absurd h
    last_name (nonneg n) es h test q same = absurd h
    last_name (neg z) es h test q same = absurd h
    last_name (num x) es h test q same = absurd h
    last_name (str x) es h test q same = absurd h
    last_name (list ts) es h test q same = absurd h

-- The entries that are kept beside names: at one of the names there is none, and at any other the one of all entries
-- (`kept-at`). So an entry of another name that is added to a map is added to what is kept (`kept-added`).
use Rattle.std.proofs.Common.{◌≡◌, true, false, cond, List, [], ◌∷◌, Option, Some, None, refl, sym, ap, ◌∙◌, subst}
use Rattle.std.specs.Prelude.{bytes_eq, option_map}
use Rattle.std.proofs.lemmas.Option.{same_Some}
use Rattle.miniserde_read.specs.types.Objects.{Name}
use Rattle.miniserde_read.specs.types.Maps.{entry_at, present_key_or, with_entry, map_content}
use Rattle.miniserde_read.proofs.Entries.{equal_if_tested}
use Rattle.miniserde_read.proofs.Inserts.{put-joined}
use Rattle.miniserde_record.specs.Marks.{is_among}
use Rattle.miniserde_more.specs.Rest.{kept, rest_content}

module _ {K V : Type 0} (text : K → Name) (ns : List Name) where
  pub kept-at : (q : Name) (es : List (K × V)) → entry_at text q (kept text ns es) ≡ cond (is_among ns q) None (entry_at text q es)
  kept-at q [] = elim (is_among ns q) as (λ b. ◌≡◌ {A = Option (K × V)} None (cond b None None)) [ true ↦ refl | false ↦ refl ]
  kept-at q (e ∷ es) =
      elim (is_among ns (text e.0)) as (λ a. is_among ns (text e.0) ≡ a
      → entry_at text q (cond a (kept text ns es) (e ∷ kept text ns es))
      ≡ cond (is_among ns q) None (cond (bytes_eq (text e.0) q) (Some e) (entry_at text q es))) [
        | true ↦ λ a. kept-at q es ∙ elim (bytes_eq (text e.0) q)
            as (λ b. bytes_eq (text e.0) q ≡ b → cond (is_among ns q) None (entry_at text q es)
            ≡ cond (is_among ns q) None (cond b (Some e) (entry_at text q es))) [
              | true ↦ λ b. let own : is_among ns q ≡ true = subst (λ z. is_among ns z ≡ true) (equal_if_tested _ _ b) a in rw own refl
              | false ↦ λ b. refl
            ] refl
        | false ↦ λ a. elim (bytes_eq (text e.0) q)
            as (λ b. bytes_eq (text e.0) q ≡ b → cond b (Some e) (entry_at text q (kept text ns es))
            ≡ cond (is_among ns q) None (cond b (Some e) (entry_at text q es))) [
              | true ↦ λ b. let own : is_among ns q ≡ false = subst (λ z. is_among ns z ≡ false) (equal_if_tested _ _ b) a in rw own refl
              | false ↦ λ b. kept-at q es
            ] refl
      ] refl

  module _ {C : Type 0} (content : V → C) where
    -- what counts of a map at a name
    pub content-kept : (es : List (K × V)) (q : Name)
        → rest_content text ns content es q ≡ cond (is_among ns q) None (map_content (λ k. k) text content es q)
    content-kept es q = ap (option_map {U = Name × C} (λ e. (text e.0, content e.1))) (kept-at q es)
        ∙ elim (is_among ns q) as (λ b. option_map {U = Name × C} (λ e. (text e.0, content e.1)) (cond b None (entry_at text q es))
        ≡ cond b None (option_map (λ e. (text e.0, content e.1)) (entry_at text q es))) [ true ↦ refl | false ↦ refl ]

    -- an entry of another name is added to what counts
    pub kept-added : (es fs : List (K × V)) (k : K) (v : V) → is_among ns (text k) ≡ false
        → map_content (λ k. k) text (λ v. v) fs ≡ with_entry (λ k. k) (map_content (λ k. k) text (λ v. v) es) (text k) v
        → rest_content text ns content fs ≡ with_entry (λ k. k) (rest_content text ns content es) (text k) (content v)
    kept-added es fs k v other e = λ i q. at q i
      where
        all : map_content (λ k. k) text content fs ≡ with_entry (λ k. k) (map_content (λ k. k) text content es) (text k) (content v)
        all = sym (same_Some _ _ (put-joined (λ k. k) text content es fs k v (Some k) (Some (content v)) refl refl e))

        at : (q : Name) → rest_content text ns content fs q ≡ with_entry (λ k. k) (rest_content text ns content es) (text k) (content v) q
        at q = content-kept fs q ∙ ap (λ f. cond (is_among ns q) None (f q)) all
            ∙ elim (bytes_eq (text k) q) as (λ b. bytes_eq (text k) q ≡ b → cond (is_among ns q) None
            (cond b (Some (present_key_or (map_content (λ k. k) text content es q) (text k), content v))
            (map_content (λ k. k) text content es q))
            ≡ cond b (Some (present_key_or (rest_content text ns content es q) (text k), content v)) (rest_content text ns content es q)) [
              | true ↦ λ b.
                  let own : is_among ns q ≡ false = subst (λ z. is_among ns z ≡ false) (equal_if_tested _ _ b) other in
                  rw (own, content-kept es q, own) refl
              | false ↦ λ b. sym (content-kept es q)
            ] refl

    -- the same for a key of that name
    pub kept-named : (es fs : List (K × V)) (k : K) (v : V) (n : Name) → text k ≡ n → is_among ns n ≡ false
        → map_content (λ k. k) text (λ v. v) fs ≡ with_entry (λ k. k) (map_content (λ k. k) text (λ v. v) es) (text k) v
        → rest_content text ns content fs ≡ with_entry (λ k. k) (rest_content text ns content es) n (content v)
    kept-named es fs k v n at other e = kept-added es fs k v (ap (is_among ns) at ∙ other) e
        ∙ ap (λ x. with_entry (λ k. k) (rest_content text ns content es) x (content v)) at

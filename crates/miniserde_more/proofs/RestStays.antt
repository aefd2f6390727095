-- The other members stay: at each name that is not taken, the written object has the tree of the map's entry there
-- (`last_written`), and that is the value of the last member of that name (`stays`).
use Rattle.std.proofs.Common.{◌≡◌, Bool, true, false, cond, List, [], ◌∷◌, ◌++◌, Option, Some, None, refl, sym, ap, ◌∙◌, subst}
use Rattle.std.proofs.Common.{true≢false}
use Rattle.std.specs.Prelude.{bytes_eq, option_map}
use Rattle.std.specs.Map.{keys_of, lookup}
use Rattle.std.specs.Ordering.{is_eq}
use Rattle.std.specs.List.{AllByRecursion}
use Rattle.std.specs.List.Sorted.{IsStrictlySortedBy}
use Rattle.std.specs.declared.cmp.Ordering.{Ordering}
use Rattle.std.specs.declared.cmp.Ordering.TheVariants.{Less, Equal, Greater}
use Rattle.std.proofs.lemmas.Cmp.{nat_list_cmp_total, tied_itself}
use Rattle.std.proofs.lemmas.Map.Lookups.{exact_bytes}
use Rattle.std.proofs.lemmas.Slice.Eq.{bytes_eq-Decides}
use Rattle.miniserde_model.specs.Tree.{Tree, members, Members, no_members, member}
use Rattle.miniserde_model.specs.Normal.{text_cmp, last_of, or_else, norm}
use Rattle.miniserde_read.specs.types.Objects.{Name}
use Rattle.miniserde_read.specs.types.Maps.{MapReads}
use Rattle.miniserde_read.specs.Lookups.{IsValueOf}
use Rattle.miniserde_text.proofs.Equal.{bytes_eq-flips}
use Rattle.miniserde_read.proofs.Entries.{equal_if_tested}
use Rattle.miniserde_read.proofs.LastMembers.{last_name}
use Rattle.miniserde_ser.specs.Trees.{members_of}
use Rattle.miniserde_record.specs.Fields.{StructReads}
use Rattle.miniserde_record.specs.Marks.{is_among}
use Rattle.miniserde_record.specs.Structs.{with_names}
use Rattle.miniserde_more.specs.Rest.{others, kept, members_then, name_keys}
use Rattle.miniserde_more.proofs.RestTaken.{named}
use Rattle.miniserde_more.proofs.RestBeside.{AllOwn, all_of_names, kept_sorted}

module _ (ns : List Name) (q : Name) (other : is_among ns q ≡ false) where
  -- a member of one of the names has another name
  pub another : (k : Name) → is_among ns k ≡ true → bytes_eq k q ≡ false
  another k h = elim (bytes_eq k q) as (λ b. bytes_eq k q ≡ b → b ≡ false) [
    | true ↦ λ b. absurd (true≢false (sym h ∙ ap (is_among ns) (equal_if_tested k q b) ∙ other))
    | false ↦ λ b. refl
  ] refl

  bare : (o : Option Tree) → or_else o None ≡ o
  bare None = refl
  bare (Some t) = refl

  -- members of the names in front say nothing of another name
  pub last_behind : (fs rs : Members) → AllOwn ns fs → last_of q (members_then fs rs) ≡ last_of q rs
  last_behind no_members rs a = refl
  last_behind (member k t fs) rs a = rw (another k a.0) (bare (last_of q (members_then fs rs)) ∙ last_behind fs rs a.1)

  -- the others have at another name what all have
  pub last_other : (ms : Members) → last_of q (others ns ms) ≡ last_of q ms
  last_other no_members = refl
  last_other (member k t ms) =
      elim (is_among ns k) as (λ b. is_among ns k ≡ b → last_of q (cond b (others ns ms) (member k t (others ns ms)))
      ≡ or_else (last_of q ms) (cond (bytes_eq k q) (Some t) None)) [
        | true ↦ λ b. last_other ms ∙ rw (another k b) (sym (bare (last_of q ms)))
        | false ↦ λ b. ap (λ o. or_else o (cond (bytes_eq k q) (Some t) None)) (last_other ms)
      ] refl

-- the others have nothing at one of the names
pub last_gone : (ns : List Name) (q : Name) → is_among ns q ≡ true → (ms : Members) → last_of q (others ns ms) ≡ None
last_gone ns q own no_members = refl
last_gone ns q own (member k t ms) =
    elim (is_among ns k) as (λ b. is_among ns k ≡ b → last_of q (cond b (others ns ms) (member k t (others ns ms))) ≡ None) [
      | true ↦ λ b. last_gone ns q own ms
      | false ↦ λ b.
          let no : bytes_eq k q ≡ false = elim (bytes_eq k q) as (λ c. bytes_eq k q ≡ c → c ≡ false) [
            | true ↦ λ c. absurd (true≢false (sym own ∙ ap (is_among ns) (sym (equal_if_tested k q c)) ∙ b))
            | false ↦ λ c. refl
          ] refl in
          rw (last_gone ns q own ms, no) refl
    ] refl

module _ {K V : Type 0} (text : K → Name) (f : V → Tree) (q : Name) (cmp : K → K → Ordering)
    (agrees : (a b : K) → is_eq (cmp a b) ≡ bytes_eq (text a) (text b)) where
  -- behind a key there is no entry of its name
  none_later : (k : K) (es : List (K × V)) → AllByRecursion (λ y. cmp k y ≡ Less) (keys_of es) → text k ≡ q
      → last_of q (members_of text f es) ≡ None
  none_later k [] a s = refl
  none_later k (e ∷ es) a s =
      let apart : bytes_eq (text k) (text e.0) ≡ false = sym (agrees k e.0) ∙ ap is_eq a.0 in
      let no : bytes_eq (text e.0) q ≡ false = bytes_eq-flips (text e.0) q ∙ ap (λ z. bytes_eq z (text e.0)) (sym s) ∙ apart in
      rw (none_later k es a.1 s, no) refl

  -- members of sorted entries have at a name the tree of the entry there
  pub last_written : (es : List (K × V)) → IsStrictlySortedBy cmp (keys_of es)
      → last_of q (members_of text f es) ≡ option_map f (lookup (λ k. bytes_eq (text k) q) es)
  unfolding IsStrictlySortedBy
  last_written [] o = refl
  last_written (e ∷ es) o =
      elim (bytes_eq (text e.0) q) as (λ b. bytes_eq (text e.0) q ≡ b
      → or_else (last_of q (members_of text f es)) (cond b (Some (f e.1)) None)
      ≡ option_map f (cond b (Some e.1) (lookup (λ k. bytes_eq (text k) q) es))) [
        | true ↦ λ b. rw (none_later e.0 es o.0 (equal_if_tested (text e.0) q b)) refl
        | false ↦ λ b. bare (last_of q (members_of text f es)) ∙ last_written es o.1
      ] refl
    where
      bare : (o : Option Tree) → or_else o None ≡ o
      bare None = refl
      bare (Some t) = refl

-- a value of a tree, written as the normal form of that tree
pub normal_there : {V : Type 0} (R : Tree → V → Type 0) (f : V → Tree) → ((t : Tree) (x : V) → R t x → f x ≡ norm t)
    → (t : Option Tree) (x : Option V) → IsValueOf R t x → option_map f x ≡ option_map norm t
normal_there R f normal t None h = ap (option_map norm) (sym h)
normal_there R f normal t (Some x) h = ap Some (normal h.0 x h.2) ∙ ap (option_map norm) (sym h.1)

-- the written object has at a name that is not taken what the object had that was read
pub stays : {K V C : Type 0} (text : K → Name) (ns more : List Name) (f : V → Tree) (of : Tree → Option C) (R : Tree → V → Type 0)
    (cmp : K → K → Ordering) → ((a b : K) → is_eq (cmp a b) ≡ bytes_eq (text a) (text b))
    → ((t : Tree) (x : V) → R t x → f x ≡ norm t) → (q : Name) → is_among (more ++ ns) q ≡ false
    → (ts : List (Option Tree)) (es : List (K × V))
    → IsStrictlySortedBy cmp (keys_of es) → (ms : Members)
    → MapReads (name_keys text) of R (members (others (more ++ ns) ms)) (kept text (more ++ ns) es)
    → last_of q (members_then (with_names ns ts) (members_of text f (kept text (more ++ ns) es))) ≡ option_map norm (last_of q ms)
stays {K} text ns more f of R cmp agrees normal q other ts es sorted ms reads =
    let there : K → Bool = λ k. bytes_eq (text k) q in
    let met : IsValueOf R (last_of q (others (more ++ ns) ms)) (lookup there (kept text (more ++ ns) es)) =
    last_name text R of (members (others (more ++ ns) ms)) (kept text (more ++ ns) es) reads there q (λ k. refl) in
    last_behind (more ++ ns) q other (with_names ns ts) (members_of text f (kept text (more ++ ns) es))
    (all_of_names (more ++ ns) ns ts (named more ns))
    ∙ last_written text f q cmp agrees (kept text (more ++ ns) es) (kept_sorted (more ++ ns) text cmp es sorted)
    ∙ normal_there R f normal (last_of q ms) (lookup there (kept text (more ++ ns) es))
    (subst (λ o. IsValueOf R o (lookup there (kept text (more ++ ns) es))) (last_other (more ++ ns) q other ms) met)

-- names tie in byte order exactly if they are equal
pub names_agree : (a b : Name) → is_eq (text_cmp a b) ≡ bytes_eq a b
names_agree a b =
    elim (bytes_eq a b) as (λ c. bytes_eq a b ≡ c → is_eq (text_cmp a b) ≡ c) [
      | true ↦ λ e. ap (λ z. is_eq (text_cmp a z)) (sym (equal_if_tested a b e)) ∙ ap is_eq (tied_itself nat_list_cmp_total a)
      | false ↦ λ e. elim (text_cmp a b) as (λ o. text_cmp a b ≡ o → is_eq o ≡ false) [
        | Less ↦ λ c. refl
        | Equal ↦ λ c. absurd (true≢false (sym ((bytes_eq-Decides a b).1 (exact_bytes a b c)) ∙ e))
        | Greater ↦ λ c. refl
      ] refl
    ] refl

-- what holds of each object that means a struct holds of each tree that does
pub on_object : {V W : Type 0} (reads : Members → V → Type 0) (parts : W → V) (Q : Tree → Type 0) (v : W)
    → ((ms : Members) → reads ms (parts v) → Q (members ms)) → (t : Tree) → StructReads reads parts t v → Q t
on_object reads parts Q v f (members ms) r = f ms r
on_object reads parts Q v f t r = absurd r

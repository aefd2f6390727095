-- The members that are written of a struct with aliases have no alias's name, so they count by their own (`written_alone`).
-- A name that is neither a field's nor an alias has in the members by the fields' names what it has in all (`last_renamed`).
use Rattle.std.proofs.Common.{◌≡◌, true, false, cond, ◌||◌, List, [], ◌∷◌, ◌++◌, Option, refl, sym, ap, ◌∙◌}
use Rattle.std.specs.Prelude.{bytes_eq}
use Rattle.miniserde_model.specs.Tree.{Tree, Members, no_members, member}
use Rattle.miniserde_model.specs.Normal.{last_of}
use Rattle.miniserde_read.specs.types.Objects.{Name}
use Rattle.miniserde_ser.specs.Trees.{members_of}
use Rattle.miniserde_record.specs.Aliases.{field_name_of, with_field_names, are_unaliased}
use Rattle.miniserde_record.specs.Marks.{is_among}
use Rattle.miniserde_record.specs.Structs.{with_names}
use Rattle.miniserde_record.proofs.Names.{both}
use Rattle.miniserde_laws.proofs.Aliases.{written_counts}
use Rattle.miniserde_more.specs.Rest.{alias_names, are_of_names, kept, members_then}
use Rattle.miniserde_more.proofs.RestBeside.{NoneOwn, none_kept}
use Rattle.miniserde_more.proofs.RestStays.{another}
use Rattle.miniserde_more.proofs.RestTaken.{not_named, not_further}

-- a name that is no alias is that of its field
no_alias : (ps : List (Name × Name)) (k : Name) → is_among (alias_names ps) k ≡ false → field_name_of ps k ≡ k
no_alias [] k h = refl
no_alias (p ∷ ps) k h =
    elim (bytes_eq k p.0) as (λ b. (b || is_among (alias_names ps) k) ≡ false → cond b p.1 (field_name_of ps k) ≡ k)
    [ true ↦ λ h. absurd (cc) | false ↦ λ h. no_alias ps k h ] h

-- members whose names are no aliases keep them
keep_names : (ps : List (Name × Name)) (more ns : List Name) (rs : Members) → NoneOwn ((alias_names ps ++ more) ++ ns) rs
    → with_field_names ps rs ≡ rs
keep_names ps more ns no_members h = refl
keep_names ps more ns (member k t rs) h =
    rw (no_alias ps k (not_further (alias_names ps) more k (not_further (alias_names ps ++ more) ns k h.0)))
    (ap (member k t) (keep_names ps more ns rs h.1))

-- members behind members, by the fields' names
names_then : (ps : List (Name × Name)) (fs rs : Members)
    → with_field_names ps (members_then fs rs) ≡ members_then (with_field_names ps fs) (with_field_names ps rs)
names_then ps no_members rs = refl
names_then ps (member k t fs) rs = ap (member (field_name_of ps k) t) (names_then ps fs rs)

-- the members that are written count by their own names
pub written_alone : {K V : Type 0} (text : K → Name) (f : V → Tree) (ps : List (Name × Name)) (ns : List Name) (ts : List (Option Tree))
    (more : List Name) (es : List (K × V)) → are_unaliased ps ns ≡ true
    → with_field_names ps (members_then (with_names ns ts) (members_of text f (kept text ((alias_names ps ++ more) ++ ns) es)))
    ≡ members_then (with_names ns ts) (members_of text f (kept text ((alias_names ps ++ more) ++ ns) es))
written_alone text f ps ns ts more es apart =
    let rs = members_of text f (kept text ((alias_names ps ++ more) ++ ns) es) in
    names_then ps (with_names ns ts) rs
    ∙ ap (λ fs. members_then fs (with_field_names ps rs)) (written_counts ps ns ts apart)
    ∙ ap (members_then (with_names ns ts)) (keep_names ps more ns rs (none_kept ((alias_names ps ++ more) ++ ns) text f es))

module _ (ns : List Name) (q : Name) (other : is_among ns q ≡ false) where
  -- a name is q exactly if its field's name is, since q is neither a field's name nor an alias
  same_name : (ps : List (Name × Name)) (k : Name) → are_of_names ps ns ≡ true → is_among (alias_names ps) q ≡ false
      → bytes_eq (field_name_of ps k) q ≡ bytes_eq k q
  same_name [] k h a = refl
  same_name (p ∷ ps) k h a =
      let of_names = both (is_among ns p.1) (are_of_names ps ns) h in
      elim (bytes_eq k p.0) as (λ c. bytes_eq k p.0 ≡ c → bytes_eq (cond c p.1 (field_name_of ps k)) q ≡ bytes_eq k q) [
        | true ↦ λ c. another ns q other p.1 of_names.0 ∙ sym (another (alias_names (p ∷ ps)) q a k (rw c refl))
        | false ↦ λ c. same_name ps k of_names.1 (not_named (p.0 ∷ []) (alias_names ps) q a)
      ] refl

  last_same : (ps : List (Name × Name)) → are_of_names ps ns ≡ true → is_among (alias_names ps) q ≡ false → (ms : Members)
      → last_of q (with_field_names ps ms) ≡ last_of q ms
  last_same ps h a no_members = refl
  last_same ps h a (member k t ms) = rw (same_name ps k h a, last_same ps h a ms) refl

-- at a name that is not taken the members have by the fields' names what they have
pub last_renamed : (ps : List (Name × Name)) (more ns : List Name) (q : Name) → are_of_names ps ns ≡ true
    → is_among ((alias_names ps ++ more) ++ ns) q ≡ false → (ms : Members) → last_of q (with_field_names ps ms) ≡ last_of q ms
last_renamed ps more ns q h other ms =
    last_same ns q (not_named (alias_names ps ++ more) ns q other) ps h
    (not_further (alias_names ps) more q (not_further (alias_names ps ++ more) ns q other)) ms

-- The members of other names in normal form are the normal form of these members (`others_norm`), so a struct with a rest is
-- stable part by part.
use Rattle.std.proofs.Common.{◌≡◌, true, false, cond, List, Option, Some, refl, sym, ap, ◌∙◌}
use Rattle.std.specs.Prelude.{option_map, option_and_then}
use Rattle.std.specs.declared.cmp.Ordering.TheVariants.{Less}
use Rattle.std.proofs.lemmas.Cmp.{nat_list_cmp_total}
use Rattle.miniserde_model.specs.Tree.{Tree, members, Members, no_members, member}
use Rattle.miniserde_model.specs.Normal.{text_cmp, last_of, norm, norm_neg, norm_members, Rise, BeginsAbove}
use Rattle.miniserde_model.proofs.Lookups.{norm_keeps_last, norm_rises}
use Rattle.miniserde_model.proofs.OneNormal.{norm_only}
use Rattle.miniserde_read.specs.types.Objects.{Name, object_of}
use Rattle.miniserde_read.specs.types.Maps.{MapContent, map_of}
use Rattle.miniserde_record.specs.FieldsMeaning.{FieldsMeaning}
use Rattle.miniserde_record.specs.Marks.{is_among}
use Rattle.miniserde_stored.specs.Stable.{IsStable}
use Rattle.miniserde_stored.specs.StableFields.{AreStable}
use Rattle.miniserde_more.specs.Rest.{others}
use Rattle.miniserde_more.specs.laws.Rest.{pair-some}
use Rattle.miniserde_more.proofs.RestStays.{last_other, last_gone}

module _ (ns : List Name) where
  further : (n m : Name) (ms : Members) → text_cmp n m ≡ Less → BeginsAbove m ms → BeginsAbove n ms
  further n m no_members p q = tt
  further n m (member k t ms) p q = nat_list_cmp_total.trans n m k p q

  begins : (n : Name) (ms : Members) → BeginsAbove n ms → Rise ms → BeginsAbove n (others ns ms)
  begins n no_members b r = tt
  begins n (member k t ms) b r =
      elim (is_among ns k) as (λ c. BeginsAbove n (cond c (others ns ms) (member k t (others ns ms))))
      [ true ↦ begins n ms (further n k ms b r.0) r.1 | false ↦ b ]

  rise_others : (ms : Members) → Rise ms → Rise (others ns ms)
  rise_others no_members r = tt
  rise_others (member k t ms) r =
      elim (is_among ns k) as (λ c. Rise (cond c (others ns ms) (member k t (others ns ms))))
      [ true ↦ rise_others ms r.1 | false ↦ (begins k ms r.0 r.1, rise_others ms r.1) ]

  pub others_norm : (ms : Members) → others ns (norm_members ms) ≡ norm_members (others ns ms)
  others_norm ms =
      norm_only norm_neg (others ns ms) (others ns (norm_members ms)) (rise_others (norm_members ms) (norm_rises norm_neg ms)) (λ q.
      elim (is_among ns q) as (λ b. is_among ns q ≡ b
      → last_of q (others ns (norm_members ms)) ≡ option_map norm (last_of q (others ns ms))) [
        | true ↦ λ b. last_gone ns q b (norm_members ms) ∙ ap (option_map norm) (sym (last_gone ns q b ms))
        | false ↦ λ b. last_other ns q b (norm_members ms) ∙ norm_keeps_last norm_neg q ms
            ∙ ap (option_map norm) (sym (last_other ns q b ms))
      ] refl)

  pub rest-stable : (names : List Name) {C W : Type 0} (of : Tree → Option C) (n : FieldsMeaning W) → AreStable n.from_members
      → IsStable (map_of Some (λ k. k) of) → (ms : Members) (d : MapContent C × n.Content)
      → option_and_then {U = MapContent C × n.Content} (λ r. option_map (λ d. (r, d)) (n.from_members names n.empty ms))
      (map_of Some (λ k. k) of (members (others ns ms))) ≡ Some d
      → option_and_then {U = MapContent C × n.Content} (λ r. option_map (λ d. (r, d)) (n.from_members names n.empty (norm_members ms)))
      (map_of Some (λ k. k) of (members (others ns (norm_members ms)))) ≡ Some d
  rest-stable names of n fields map ms d h =
      let p = pair-some (map_of Some (λ k. k) of (members (others ns ms))) (n.from_members names n.empty ms) d.0 d.1 h in
      let one : n.from_members names n.empty (norm_members ms) ≡ Some d.1 = fields names n.empty ms d.1 p.1 in
      let two : map_of Some (λ k. k) of (members (others ns (norm_members ms))) ≡ Some d.0 =
      ap (λ z. map_of Some (λ k. k) of (members z)) (others_norm ms) ∙ map (members (others ns ms)) d.0 p.0 in
      rw (two, one) refl

-- what is given for an object is stable if it is for its members
pub object-stable : {D : Type 0} (F : Members → Option D)
    → ((ms : Members) (d : D) → F ms ≡ Some d → F (norm_members ms) ≡ Some d) → IsStable (object_of F)
object-stable F s (members ms) d h = s ms d h
object-stable F s t d h = absurd (cc)

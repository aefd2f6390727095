-- Fields, and a map that keeps the members of other names, take members one by one as each takes them by itself.
use Rattle.std.proofs.Common.{◌≡◌, true, false, cond, List, Option, Some, None, refl, sym, ap}
use Rattle.std.specs.Prelude.{◌↔◌, option_map, option_and_then}
use Rattle.std.proofs.lemmas.Option.{same_Some}
use Rattle.miniserde_model.specs.Tree.{Tree, members, Members, no_members, member}
use Rattle.miniserde_read.specs.Meaning.{Meaning}
use Rattle.miniserde_read.specs.types.Objects.{Name, after_members}
use Rattle.miniserde_read.specs.types.Maps.{MapContent, MapReads, with_entry, map_content, map_member, map_of}
use Rattle.miniserde_read.specs.laws.Maps.{map-given}
use Rattle.miniserde_record.specs.Marks.{is_among}
use Rattle.miniserde_more.specs.Rest.{others, name_keys, rest_member}

-- nothing is made of what is not there
none-made : {A B : Type 0} (o : Option A) → option_and_then {U = B} (λ a. None) o ≡ None
none-made None = refl
none-made (Some a) = refl

module _ {C S D : Type 0} (ns : List Name) (of : Tree → Option C) (next : S → Name → Tree → Option S) (end : S → Option D) where
  -- what one more member makes of both
  abbrev both : MapContent C × S → Name → Tree → Option (MapContent C × S)
  both s k t = option_and_then (λ x. option_map (λ r. (r, x)) (rest_member ns of s.0 k t)) (next s.1 k t)

  abbrev ends : MapContent C × S → Option (MapContent C × D)
  ends s = option_map (λ d. (s.0, d)) (end s.1)

  -- the map after members, with what the fields give
  abbrev paired : Option D → Option (MapContent C) → Option (MapContent C × D)
  paired p o = option_and_then (λ r. option_map (λ d. (r, d)) p) o

  abbrev step : MapContent C → Name → Tree → Option (MapContent C)
  step = map_member Some (λ k. k) of

  pub fields-apart : (r : MapContent C) (s : S) (ms : Members)
      → option_and_then ends (after_members both (r, s) ms)
      ≡ paired (option_and_then end (after_members next s ms)) (after_members step r (others ns ms))
  fields-apart r s no_members = refl
  fields-apart r s (member k t ms) =
      elim (is_among ns k) as (λ b.
      option_and_then ends (option_and_then (λ z. after_members both z ms)
      (option_and_then (λ x. option_map (λ r. (r, x)) (cond b (Some r) (step r k t))) (next s k t)))
      ≡ paired (option_and_then end (option_and_then (λ x. after_members next x ms) (next s k t)))
      (after_members step r (cond b (others ns ms) (member k t (others ns ms))))) [
        | true ↦ elim (next s k t) as (λ o.
            option_and_then ends (option_and_then (λ z. after_members both z ms) (option_and_then (λ x. Some (r, x)) o))
            ≡ paired (option_and_then end (option_and_then (λ x. after_members next x ms) o)) (after_members step r (others ns ms))) [
              | None ↦ sym (none-made (after_members step r (others ns ms)))
              | Some x ↦ fields-apart r x ms
            ]
        | false ↦ elim (of t) as (λ p.
            option_and_then ends (option_and_then (λ z. after_members both z ms)
            (option_and_then (λ x. option_map (λ r. (r, x)) (option_map (with_entry (λ k. k) r k) p)) (next s k t)))
            ≡ paired (option_and_then end (option_and_then (λ x. after_members next x ms) (next s k t)))
            (option_and_then (λ z. after_members step z (others ns ms)) (option_map (with_entry (λ k. k) r k) p))) [
              | None ↦ elim (next s k t) as (λ o.
                  option_and_then ends (option_and_then (λ z. after_members both z ms) (option_and_then (λ x. None) o)) ≡ None)
                  [ None ↦ refl | Some x ↦ refl ]
              | Some d ↦ elim (next s k t) as (λ o.
                  option_and_then ends (option_and_then (λ z. after_members both z ms)
                  (option_and_then (λ x. Some (with_entry (λ k. k) r k d, x)) o))
                  ≡ paired (option_and_then end (option_and_then (λ x. after_members next x ms) o))
                  (after_members step (with_entry (λ k. k) r k d) (others ns ms))) [
                    | None ↦ sym (none-made (after_members step (with_entry (λ k. k) r k d) (others ns ms)))
                    | Some x ↦ fields-apart (with_entry (λ k. k) r k d) x ms
                  ]
            ]
      ]

-- two values are there if their pair is
pub pair-some : {C D : Type 0} (o : Option C) (p : Option D) (c : C) (d : D)
    → option_and_then {U = C × D} (λ r. option_map (λ d. (r, d)) p) o ≡ Some (c, d) → (o ≡ Some c) × (p ≡ Some d)
pair-some None p c d e = absurd (cc)
pair-some (Some x) None c d e = absurd (cc)
pair-some {C} {D} (Some x) (Some y) c d e =
    let same : ◌≡◌ {A = C × D} (x, y) (c, d) = same_Some _ _ e in (ap (λ q. Some q.0) same, ap (λ q. Some q.1) same)

-- the fields and the map mean the values exactly if their contents are given; P is that the fields do, p the content that they
-- are given, and d that of their values
pub rest-agrees : {K V D P : Type 0} (text : K → Name) (m : Meaning V) (ms : Members) (es : List (K × V)) {p : Option D} {d : D}
    → P ↔ (p ≡ Some d) → (P × MapReads (name_keys text) m.from_tree m.reads (members ms) es)
    ↔ (option_and_then {U = MapContent m.Content × D} (λ r. option_map (λ d. (r, d)) p) (map_of Some (λ k. k) m.from_tree (members ms))
    ≡ Some (map_content (λ k. k) text m.content es, d))
rest-agrees text m ms es {p} {d} fields =
    let map = map-given Some (λ k. k) text m.from_tree m.content m.reads m.reads_agrees (members ms) es in (
      λ h. rw (fields.0 h.0, map.0 h.1) refl,
      λ e.
          let q = pair-some (map_of Some (λ k. k) m.from_tree (members ms)) p (map_content (λ k. k) text m.content es) d e in
          (fields.1 q.1, map.1 q.0),
    )

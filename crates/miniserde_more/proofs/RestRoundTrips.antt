-- A struct with a rest is read back: its fields from the members in front, the map from those behind. The map that is read
-- is the one of the entries that are kept, by the map's own round trip.
use Rattle.std.proofs.Common.{◌≡◌, List, [], ◌++◌, Option, refl, sym, ap, ◌∙◌, subst}
use Rattle.miniserde_model.specs.Tree.{Tree, members, Members}
use Rattle.miniserde_read.specs.Meaning.{Meaning}
use Rattle.miniserde_read.specs.types.Objects.{Name}
use Rattle.miniserde_read.specs.types.Maps.{MapReads}
use Rattle.miniserde_ser.specs.Trees.{members_of}
use Rattle.miniserde_record.specs.FieldsMeaning.{FieldsMeaning, struct_meaning}
use Rattle.miniserde_record.specs.Structs.{with_names, FieldsRoundTrip}
use Rattle.miniserde_laws.specs.RoundTrip.{RoundTrips}
use Rattle.miniserde_more.specs.Rest.{others, kept, members_then, name_keys, rest_members, rest_tree}
use Rattle.miniserde_more.specs.RestMeaning.{IsOpen, with_rest}
use Rattle.miniserde_more.proofs.RestTaken.{named, not_named}
use Rattle.miniserde_more.proofs.RestBeside.{NoneOwn, other_part, all_of_names, none_kept, reads_open, kept_fits}

module _ {K V M W : Type 0} (text : K → Name) (ns more : List Name) (m : Meaning V) (entries : M → List (K × V)) (n : FieldsMeaning W)
    (open_n : IsOpen n) (map_valid : M → Type 0) (f : V → Tree) (valid : W → Type 0) (trees : W → List (Option Tree))
    (only : M → M) (only_kept : (x : M) → entries (only x) ≡ kept text (more ++ ns) (entries x))
    (only_valid : (x : M) → map_valid x → map_valid (only x)) where
  -- the members of a map's entries
  abbrev of_entries : List (K × V) → Members
  of_entries es = members_of text f es

  -- the members mean the entries
  abbrev Means : Members → List (K × V) → Type 0
  Means ms es = MapReads (name_keys text) m.from_tree m.reads (members ms) es

  -- the members that are written
  abbrev pub all_of : M × W → Members
  all_of w = members_then (with_names ns (trees w.1)) (of_entries (kept text (more ++ ns) (entries w.0)))

  pub rest-round_trips : ((x : M) → map_valid x → RoundTrips map_valid (λ x. members (of_entries (entries x)))
      (λ t x. MapReads (name_keys text) m.from_tree m.reads t (entries x)) (members (of_entries (entries x))))
      → (v : M × W) → map_valid v.0 → FieldsRoundTrip valid trees (n.reads []) ns (trees v.1)
      → ((w : M × W) × (map_valid w.0 × valid w.1) × (with_rest text ns more m entries n).reads [] ns (all_of v) w)
      × ((w : M × W) → map_valid w.0 × valid w.1 → (with_rest text ns more m entries n).reads [] ns (all_of v) w → all_of w ≡ all_of v)
  rest-round_trips back v r b =
      let fs = with_names ns (trees v.1) in
      let taken = more ++ ns in
      let rs = of_entries (kept text taken (entries v.0)) in
      let none : NoneOwn taken rs = none_kept taken text f (entries v.0) in
      let apart : others taken (members_then fs rs) ≡ rs =
      other_part taken fs rs (all_of_names taken ns (trees v.1) (named more ns)) none in
      let a = back (only v.0) (only_valid v.0 r) in
      let same : of_entries (entries (only v.0)) ≡ rs = ap of_entries (only_kept v.0) in
      let met : Means rs (entries a.0.0) = subst (λ ms. Means ms (entries a.0.0)) same a.0.2 in (
        (
          (a.0.0, b.0.0),
          (a.0.1, b.0.1),
          (
            (reads_open taken n open_n ns (not_named more ns) fs rs b.0.0 none).1 b.0.2,
            subst (λ ms. Means ms (kept text taken (entries a.0.0))) (sym apart)
                (kept_fits taken text m.from_tree m.reads rs (entries a.0.0) none met),
          ),
        ),
        λ w q e.
            let one : trees w.1 ≡ trees v.1 = b.1 w.1 q.1 ((reads_open taken n open_n ns (not_named more ns) fs rs w.1 none).0 e.0) in
            let kept_met : Means (of_entries (entries (only v.0))) (entries (only w.0)) =
            subst (Means (of_entries (entries (only v.0)))) (sym (only_kept w.0))
            (subst (λ ms. Means ms (kept text taken (entries w.0))) (apart ∙ sym same) e.1) in
            let two = a.1 (only w.0) (only_valid w.0 q.0) kept_met in
            let three : of_entries (entries (only w.0)) ≡ of_entries (entries (only v.0)) = cc two in
            let four : of_entries (kept text (more ++ ns) (entries w.0)) ≡ rs = sym (ap of_entries (only_kept w.0)) ∙ three ∙ same in
            rw (one, four) refl,
      )

module _ {K V M W S : Type 0} (text : K → Name) (ns more : List Name) (m : Meaning V) (n : FieldsMeaning W) (open_n : IsOpen n)
    (entries : M → List (K × V)) (map_valid : M → Type 0) (f : V → Tree) (valid : W → Type 0) (trees : W → List (Option Tree))
    (only : M → M) (only_kept : (x : M) → entries (only x) ≡ kept text (more ++ ns) (entries x))
    (only_valid : (x : M) → map_valid x → map_valid (only x))
    (back : (x : M) → map_valid x → RoundTrips map_valid (λ x. members (members_of text f (entries x)))
    (λ t x. MapReads (name_keys text) m.from_tree m.reads t (entries x)) (members (members_of text f (entries x))))
    (values : S → M × W) (made : M × W → S) (taken : (x : M × W) → values (made x) ≡ x) where
  -- a struct that has these values is read back
  pub struct-round_trips : (v : S) → map_valid (values v).0 → FieldsRoundTrip valid trees (n.reads []) ns (trees (values v).1)
      → RoundTrips (λ v. map_valid (values v).0 × valid (values v).1) (rest_tree text ns more f entries trees values)
      (struct_meaning (with_rest text ns more m entries n) ns values).reads (rest_tree text ns more f entries trees values v)
  struct-round_trips v r b =
      let a = rest-round_trips text ns more m entries n open_n map_valid f valid trees only only_kept only_valid back (values v) r b in
      let same = sym (taken a.0.0) in (
        (
          made a.0.0,
          subst (λ w. map_valid w.0 × valid w.1) same a.0.1,
          subst ((with_rest text ns more m entries n).reads [] ns (rest_members text ns more f entries trees values v)) same a.0.2,
        ),
        λ w q e. ap members (a.1 (values w) q e),
      )

-- Two structs with one tree have the same members of their fields, and the same behind them.
use Rattle.std.proofs.Common.{◌≡◌, true, List, ◌++◌, length, Option, refl, sym, ap, ◌∙◌}
use Rattle.miniserde_model.specs.Tree.{Tree, members, Members}
use Rattle.miniserde_read.specs.types.Objects.{Name}
use Rattle.miniserde_ser.specs.Trees.{members_of}
use Rattle.miniserde_record.specs.Structs.{are_distinct, with_names}
use Rattle.miniserde_laws.proofs.Named.{one_trees}
use Rattle.miniserde_more.specs.Rest.{others, kept, members_then}
use Rattle.miniserde_more.proofs.RestTaken.{named}
use Rattle.miniserde_more.proofs.RestBeside.{AllOwn, NoneOwn, own, own_part, other_part, all_of_names, none_kept}

module _ {K V W : Type 0} (text : K → Name) (ns more : List Name) (f : V → Tree) (trees : W → List (Option Tree))
    (distinct : are_distinct ns ≡ true) (each : (w : W) → length (trees w) ≡ length ns) where
  -- the members that are written of the map
  abbrev behind : List (K × V) → Members
  behind es = members_of text f (kept text (more ++ ns) es)

  pub same_parts : (a b : W) (es gs : List (K × V)) → members (members_then (with_names ns (trees a)) (behind es))
      ≡ members (members_then (with_names ns (trees b)) (behind gs)) → (trees a ≡ trees b) × (behind es ≡ behind gs)
  same_parts a b es gs e =
      let taken = more ++ ns in
      let same : members_then (with_names ns (trees a)) (behind es) ≡ members_then (with_names ns (trees b)) (behind gs) = cc in
      let all : (w : W) → AllOwn taken (with_names ns (trees w)) = λ w. all_of_names taken ns (trees w) (named more ns) in
      let none : (es : List (K × V)) → NoneOwn taken (behind es) = λ es. none_kept taken text f es in
      let fields : with_names ns (trees a) ≡ with_names ns (trees b) =
      sym (own_part taken (with_names ns (trees a)) (behind es) (all a) (none es)) ∙ ap (own taken) same
      ∙ own_part taken (with_names ns (trees b)) (behind gs) (all b) (none gs) in (
        one_trees ns (trees a) (trees b) distinct (each a) (each b) fields,
        sym (other_part taken (with_names ns (trees a)) (behind es) (all a) (none es)) ∙ ap (others taken) same
            ∙ other_part taken (with_names ns (trees b)) (behind gs) (all b) (none gs),
      )

-- pairs of equal parts are equal
pub both_same : {A B : Type 0} {a b : A} {c d : B} → a ≡ b → c ≡ d → ◌≡◌ {A = A × B} (a, c) (b, d)
both_same e h = rw (e, h) refl

-- The members of names that rise, rise (`members_rise`), by recursion over the names: a name that has no member is passed
-- over, since the order is transitive. So their object is in normal form if their trees are (`rising_is_normal`).
use Rattle.std.proofs.Common.{◌≡◌, true, List, [], ◌∷◌, Option, Some, None, refl, sym, ap}
use Rattle.std.proofs.Common.{Ordering, Less, Equal, Greater, true≢false}
use Rattle.std.specs.Ordering.{is_lt}
use Rattle.std.proofs.lemmas.Cmp.{nat_list_cmp_total}
use Rattle.miniserde_model.specs.Tree.{Tree, members}
use Rattle.miniserde_model.specs.Normal.{text_cmp, norm, BeginsAbove, Rise}
use Rattle.miniserde_ser.specs.Trees.{TreesAreNormal}
use Rattle.miniserde_ser.proofs.NormalForms.{rising_is_normal}
use Rattle.miniserde_read.specs.types.Objects.{Name}
use Rattle.miniserde_record.specs.Structs.{with_names}
use Rattle.miniserde_record.specs.InOrder.{is_before, names_rise}
use Rattle.miniserde_record.proofs.Names.{both}

less : (o : Ordering) → is_lt o ≡ true → o ≡ Less
less Less e = refl
less Equal e = absurd (true≢false (sym e))
less Greater e = absurd (true≢false (sym e))

-- a name before one that is before the names is before them
further : (n m : Name) (ms : List Name) → is_lt (text_cmp n m) ≡ true → is_before m ms ≡ true → is_before n ms ≡ true
further n m [] b c = refl
further n m (k ∷ ks) b c = ap is_lt (nat_list_cmp_total.trans n m k (less (text_cmp n m) b) (less (text_cmp m k) c))

-- a name before names that rise is before their members
begins_above : (n : Name) (ns : List Name) (ts : List (Option Tree)) → is_before n ns ≡ true → names_rise ns ≡ true
    → BeginsAbove n (with_names ns ts)
begins_above n [] ts b r = tt
begins_above n (m ∷ ms) [] b r = tt
begins_above n (m ∷ ms) (None ∷ ts) b r =
    let p = both (is_before m ms) (names_rise ms) r in
    begins_above n ms ts (further n m ms b p.0) p.1
begins_above n (m ∷ ms) (Some t ∷ ts) b r = less (text_cmp n m) b

-- the members of names that rise, rise
pub members_rise : (ns : List Name) (ts : List (Option Tree)) → names_rise ns ≡ true → Rise (with_names ns ts)
members_rise [] ts r = tt
members_rise (n ∷ ns) [] r = tt
members_rise (n ∷ ns) (None ∷ ts) r = members_rise ns ts (both (is_before n ns) (names_rise ns) r).1
members_rise (n ∷ ns) (Some t ∷ ts) r =
    let p = both (is_before n ns) (names_rise ns) r in
    (begins_above n ns ts p.0 p.1, members_rise ns ts p.1)

-- an object of the members of names that rise is in normal form if the tree of each member is
pub normal_in_order : (ns : List Name) (ts : List (Option Tree)) → names_rise ns ≡ true → TreesAreNormal (with_names ns ts)
    → norm (members (with_names ns ts)) ≡ members (with_names ns ts)
normal_in_order ns ts r h = ap members (rising_is_normal (with_names ns ts) (members_rise ns ts r) h)

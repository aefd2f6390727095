-- A text with splices holds its text also after it is joined with another, moved, or given more groups. By induction
-- over `Holds` (the end, a byte, a splice), and over the list of splices for the order of the groups.
use Rattle.std.proofs.Common.{◌≡◌, ◌≤◌, ◌-◌, ◌+◌, ℕ, zero, suc, List, [], ◌∷◌, ◌++◌, map, length, take, drop, refl}
use Rattle.std.proofs.Common.{sym, ap, ap₂, subst, ◌∙◌, append_assoc, append-nil, arith, length-append}
use Rattle.std.proofs.Math.Seq.{take-append_seam, drop-append_seam}
use Rattle.std.proofs.lemmas.List.{take-append-le, drop-append-le, length-drop, take_all, drop_all}
use Rattle.miniserde_canonical.specs.declared.spread.Span.{Span}
use Rattle.miniserde_canonical.specs.declared.spread.Splice.{Splice}
use Rattle.miniserde_canonical.specs.declared.spread.SplicedText.{SplicedText}
use Rattle.miniserde_canonical.specs.private.SplicedTexts.{part_between, Within, bytes_in, splices_in, shifted_splice}
use Rattle.miniserde_canonical.specs.private.SplicedTexts.{Holds, none, byte, splice, Ordered, AllBefore}
use Rattle.miniserde_canonical.specs.private.WaitingSpans.{SpanHolds}
use Rattle.miniserde_canonical.specs.private.SortMembers.{IsEnd, Appends}

-- ---- between two points

pub between_more : {X : Type 0} (a b : ℕ) (xs ys : List X) → a ≤ b → b ≤ length xs → part_between a b (xs ++ ys) ≡ part_between a b xs
between_more a b xs ys h i = ap (take (b - a)) (drop-append-le a xs ys (omega arith)) ∙ take-append-le (b - a)
    (drop a xs) ys (omega (arith, length-drop a xs))

-- the part of `xs ++ ys` from the length of xs up to the end is ys
pub between_end : {X : Type 0} {all ys : List X} (a b : ℕ) (xs : List X) → all ≡ xs ++ ys → a ≡ length xs → b ≡ length all
    → part_between a b all ≡ ys
between_end {all = all} {ys = ys} a b xs e f g =
    let at : drop a all ≡ ys = ap₂ drop f e ∙ drop-append_seam xs ys in
    let wide : length ys ≤ b - a = omega (arith, f, g, ap length e, length-append xs ys) in
    ap (take (b - a)) at ∙ take_all (b - a) ys wide

-- the part of `xs ++ (ys ++ zs)` after xs that is as long as ys is ys
pub between_mid : {X : Type 0} {all ys : List X} (a b : ℕ) (xs zs : List X) → all ≡ xs ++ (ys ++ zs) → a ≡ length xs
    → b ≡ a + length ys → part_between a b all ≡ ys
between_mid {ys = ys} a b xs zs e f g =
    let wide : b - a ≡ length ys = omega (arith, g) in
    ap₂ take wide (ap₂ drop f e ∙ drop-append_seam xs (ys ++ zs)) ∙ take-append_seam ys zs

-- the part of a list up to an index at or before its start is empty
pub between_none : {X : Type 0} (a b : ℕ) (xs : List X) → b ≤ a → part_between a b xs ≡ []
between_none a b xs h = let none : b - a ≡ 0 = omega (arith, h) in ap (λ n. take n (drop a xs)) none

-- ---- texts

-- bytes without splices hold themselves
pub holds_plain : (ms : List ℕ) (gs : List Splice) (at : ℕ) (x : List ℕ) → Holds ms gs at x [] x
holds_plain ms gs at [] = none
holds_plain ms gs at (c ∷ x) = byte c (holds_plain ms gs (suc at) x)

-- bytes without splices hold no text but themselves
pub plain_text : {ms : List ℕ} {gs : List Splice} {at : ℕ} {bs x : List ℕ} → Holds ms gs at bs [] x → x ≡ bs
plain_text none = refl
plain_text (byte c u) = ap (λ z. c ∷ z) (plain_text u)

-- bytes that hold x, followed by bytes that hold y, hold `x ++ y`
pub holds_append : {ms : List ℕ} {gs : List Splice} {at : ℕ} {bs : List ℕ} {hs : List Splice} {x : List ℕ} (to : ℕ)
    (cs : List ℕ) (ks : List Splice) (y : List ℕ) → Holds ms gs at bs hs x → to ≡ at + length bs
    → Holds ms gs to cs ks y → Holds ms gs at (bs ++ cs) (hs ++ ks) (x ++ y)
holds_append {ms = ms} {gs = gs} {at = at} to cs ks y none e v = let same : to ≡ at = omega (arith, e) in
    subst (λ z. Holds ms gs z cs ks y) same v
holds_append {at = at} to cs ks y (byte {bs = bs} c u) e v = byte c (holds_append to cs ks y u (omega (arith, e)) v)
holds_append {ms = ms} {gs = gs} {at = at} to cs ks y (splice {bs = bs} {hs = hs} {x = x} {y = w} h i p u q) e v =
    subst (λ z. Holds ms gs at (bs ++ cs) (h ∷ (hs ++ ks)) z) (sym (append_assoc w x y)) (splice h i p u (holds_append to cs ks y q e v))

-- behind some bytes without splices
pub holds_behind : {ms : List ℕ} {gs : List Splice} (at to : ℕ) (x : List ℕ) {bs : List ℕ} {hs : List Splice} {y : List ℕ}
    → to ≡ at + length x → Holds ms gs to bs hs y → Holds ms gs at (x ++ bs) hs (x ++ y)
holds_behind {ms = ms} {gs = gs} at to x {bs = bs} {hs = hs} {y = y} e v = holds_append to bs hs y (holds_plain ms gs at x) e v

pub within_more : (p : Span) (ms ns : List ℕ) (gs ks : List Splice) → Within p ms gs → Within p (ms ++ ns) (gs ++ ks)
within_more p ms ns gs ks w = (w.0, omega (arith, w.1, length-append ms ns), w.2, omega (arith, w.3, length-append gs ks))

-- bytes that hold x hold it after the groups get more bytes and splices
pub holds_more : {ms : List ℕ} {gs : List Splice} {at : ℕ} {bs : List ℕ} {hs : List Splice} {x : List ℕ}
    (ns : List ℕ) (ks : List Splice) → Holds ms gs at bs hs x → Holds (ms ++ ns) (gs ++ ks) at bs hs x
holds_more ns ks none = none
holds_more ns ks (byte c u) = byte c (holds_more ns ks u)
holds_more ns ks (splice {ms = ms} {gs = gs} {y = y} h e w u v) =
    let p = h.group in
    let one : Holds (ms ++ ns) (gs ++ ks) p.from.bytes (bytes_in p (ms ++ ns)) (splices_in p gs) y =
    subst (λ z. Holds (ms ++ ns) (gs ++ ks) p.from.bytes z (splices_in p gs) y)
    (sym (between_more p.from.bytes p.to.bytes ms ns w.0 w.1)) (holds_more ns ks u) in
    let two : Holds (ms ++ ns) (gs ++ ks) p.from.bytes (bytes_in p (ms ++ ns)) (splices_in p (gs ++ ks)) y =
    subst (λ z. Holds (ms ++ ns) (gs ++ ks) p.from.bytes (bytes_in p (ms ++ ns)) z y)
    (sym (between_more p.from.splices p.to.splices gs ks w.2 w.3)) one in
    splice h e (within_more p ms ns gs ks w) two (holds_more ns ks v)

-- If bytes that begin at the index `at` hold x, they hold it too after they and their splices are shifted by the
-- distance from the index `from` to the index `to`; they then begin at the index `here`.
pub holds_moved : {ms : List ℕ} {gs : List Splice} {at : ℕ} {bs : List ℕ} {hs : List Splice} {x : List ℕ}
    (from to here : ℕ) → from ≤ at → here ≡ to + (at - from) → Holds ms gs at bs hs x
    → Holds ms gs here bs (map (shifted_splice from to) hs) x
holds_moved from to here l e none = none
holds_moved {at = at} from to here l e (byte c u) =
    let next : suc here ≡ to + (suc at - from) = omega (arith, l, e) in
    byte c (holds_moved from to (suc here) (omega (arith, l)) next u)
holds_moved {at = at} from to here l e (splice h i w u v) =
    let point : to + (h.at - from) ≡ here = ap (λ z. to + (z - from)) i ∙ sym e in
    splice (shifted_splice from to h) point w u (holds_moved from to here l e v)

-- the span of the groups from the end of `base` to their own end holds what was appended to `base`
pub group_holds : {base groups : SplicedText} {x : List ℕ} (p : Span) → IsEnd p.from base → IsEnd p.to groups
    → Appends base base groups x → SpanHolds groups p x
group_holds {base = base} {groups = groups} {x = x} p from to a =
    let ms = groups.bytes.items in
    let gs = groups.splices.items in
    let bytes : bytes_in p ms ≡ a.bytes =
    between_end p.from.bytes p.to.bytes base.bytes.items a.bytes_gained from.bytes to.bytes in
    let splices : splices_in p gs ≡ a.splices =
    between_end p.from.splices p.to.splices base.splices.items a.splices_gained from.splices to.splices in
    let all : Holds ms gs (length base.bytes.items) a.bytes a.splices x =
    rw (a.bytes_gained, a.splices_gained) (holds_more a.bytes a.splices a.text) in (
      (
        omega (arith, from.bytes, to.bytes, ap length a.bytes_gained, length-append base.bytes.items a.bytes),
        omega (arith, to.bytes),
        omega (arith, from.splices, to.splices, ap length a.splices_gained, length-append base.splices.items a.splices),
        omega (arith, to.splices),
      ),
      rw (bytes, splices, from.bytes) all,
    )

-- no bytes and one splice at their index hold the text of the splice's group
pub splice_holds : (groups : SplicedText) (at : ℕ) (h : Splice) (x : List ℕ) → h.at ≡ at → SpanHolds groups h.group x
    → Holds groups.bytes.items groups.splices.items at [] (h ∷ []) x
splice_holds groups at h x e s =
    subst (λ z. Holds groups.bytes.items groups.splices.items at [] (h ∷ []) z) (append-nil x) (splice h e s.0 s.1 none)

-- the first splice of a text
pub record AtHole (ms : List ℕ) (gs : List Splice) (at : ℕ) (bs : List ℕ) (h : Splice) (hs : List Splice) (x : List ℕ) : Type 0 where
  pub before : List ℕ
  pub behind : List ℕ
  pub group : List ℕ
  pub rest : List ℕ
  pub bytes : bs ≡ before ++ behind
  pub point : h.at ≡ at + length before
  pub within : Within h.group ms gs
  pub inside : Holds ms gs h.group.from.bytes (bytes_in h.group ms) (splices_in h.group gs) group
  pub after : Holds ms gs h.at behind hs rest
  pub text : x ≡ before ++ (group ++ rest)

-- a text with a splice is the bytes before the first splice, the text of its group, and a rest
pub at_splice : {ms : List ℕ} {gs : List Splice} {at : ℕ} {bs : List ℕ} {h : Splice} {hs : List Splice} {x : List ℕ}
    → Holds ms gs at bs (h ∷ hs) x → AtHole ms gs at bs h hs x
at_splice {at = at} {h = k} (byte c u) =
    let r = at_splice u in
    record {
      before = c ∷ r.before;
      behind = r.behind;
      group = r.group;
      rest = r.rest;
      bytes =
          ap (λ z. c ∷ z) r.bytes;
      point = omega (arith, r.point);
      within = r.within;
      inside = r.inside;
      after =
          r.after;
      text = ap (λ z. c ∷ z) r.text;
    }
at_splice {ms = ms} {gs = gs} (splice {bs = bs} {hs = hs} {x = x} {y = y} h e w u v) =
    record {
      before = [];
      behind = bs;
      group = y;
      rest = x;
      bytes = refl;
      point = omega (arith, e);
      within =
          w;
      inside = u;
      after = subst (λ z. Holds ms gs z bs hs x) (sym e) v;
      text = refl;
    }

-- ---- groups in order

-- splices for groups before n are for groups before any m that is at least n
pub all_more : (n m : ℕ) (hs : List Splice) → n ≤ m → AllBefore n hs → AllBefore m hs
all_more n m [] h b = tt
all_more n m (p ∷ hs) h b = (omega (arith, h, b.0), all_more n m hs h b.1)

-- if hs and ks are for groups before n, so are `hs ++ ks`
pub all_append : (n : ℕ) (hs ks : List Splice) → AllBefore n hs → AllBefore n ks → AllBefore n (hs ++ ks)
all_append n [] ks h k = k
all_append n (p ∷ hs) ks h k = (h.0, all_append n hs ks h.1 k)

-- if hs are for groups before n, so are the first i of them
pub all_take : (n i : ℕ) (hs : List Splice) → AllBefore n hs → AllBefore n (take i hs)
all_take n i [] h = subst (λ z. AllBefore n z) (sym (take_all {A = Splice} i [] (omega arith))) tt
all_take n zero (p ∷ hs) h = tt
all_take n (suc i) (p ∷ hs) h = (h.0, all_take n i hs h.1)

all_drop : (n i : ℕ) (hs : List Splice) → AllBefore n hs → AllBefore n (drop i hs)
all_drop n i [] h = subst (λ z. AllBefore n z) (sym (drop_all {X = Splice} i [] (omega arith))) tt
all_drop n zero (p ∷ hs) h = h
all_drop n (suc i) (p ∷ hs) h = all_drop n i hs h.1

-- if hs are for groups before n, so is the part from a up to b of them
pub all_between : (n a b : ℕ) (hs : List Splice) → AllBefore n hs → AllBefore n (part_between a b hs)
all_between n a b hs h = all_take n (b - a) (drop a hs) (all_drop n a hs h)

-- if hs are for groups before n, so are they after their text moved
pub all_moved : (n from to : ℕ) (hs : List Splice) → AllBefore n hs → AllBefore n (map (shifted_splice from to) hs)
all_moved n from to [] h = tt
all_moved n from to (p ∷ hs) h = (h.0, all_moved n from to hs h.1)

ordered_before : (n m : ℕ) (hs : List Splice) → n ≤ m → AllBefore n hs → Ordered m hs
ordered_before n m [] h b = tt
ordered_before n m (p ∷ hs) h b = (omega (arith, h, b.0), ordered_before n (suc m) hs (omega (arith, h)) b.1)

ordered_append : (n m : ℕ) (hs ks : List Splice) → m ≡ n + length hs → Ordered n hs → Ordered m ks → Ordered n (hs ++ ks)
ordered_append n m [] ks e h k = let same : m ≡ n = omega (arith, e) in subst (λ z. Ordered z ks) same k
ordered_append n m (p ∷ hs) ks e h k = (h.0, ordered_append (suc n) m hs ks (omega (arith, e)) h.1 k)

-- groups that name earlier ones alone are put behind the groups
pub ordered_gains : (gs h : List Splice) → Ordered 0 gs → AllBefore (length gs) h → Ordered 0 (gs ++ h)
ordered_gains gs h o b = ordered_append 0 (length gs) gs h (omega arith) o (ordered_before (length gs) (length gs) h (omega arith) b)

-- `fill_splices` writes the text that a draft and its groups hold, and its loops end. The invariant is that the bytes
-- written and the text of the waiting spans make the whole text, while the measure of these spans decreases.
use Rattle.std.proofs.Common.{◌≡◌, ◌≤◌, ◌<◌, ◌-◌, ◌+◌, ◌*◌, ◌^◌, ℕ, zero, suc, true, nat_eq, List, [], ◌∷◌, ◌++◌}
use Rattle.std.proofs.Common.{length, take, drop, get_or, refl, sym, ap, ap₂, subst, ◌∙◌, append_assoc, append-nil}
use Rattle.std.proofs.Common.{arith, length-append, drop-cons, add-one, inl, inr}
use Rattle.std.proofs.Math.Pow.{pow_mono}
use Rattle.std.proofs.Math.Nat.{pow-suc}
use Rattle.std.proofs.Math.Seq.{drop-append_seam}
use Rattle.std.proofs.lemmas.Bool.{cases_lt, eqb-true}
use Rattle.std.proofs.lemmas.List.{take-append-drop, length-take-le, length-drop}
use Rattle.miniserde_canonical.specs.declared.spread.Span.{Span}
use Rattle.miniserde_canonical.specs.declared.spread.Splice.{Splice}
use Rattle.miniserde_canonical.specs.declared.spread.SplicedText.{SplicedText}
use Rattle.miniserde_canonical.specs.private.SplicedTexts.{part_between, bytes_in, splices_in, Holds, FilledText, Ordered}
use Rattle.miniserde_canonical.specs.private.WaitingSpans.{SpanHolds, SpansHold, span_measure, spans_measure}
use Rattle.miniserde_canonical.proofs.SplicedTexts.{between_mid, between_end, between_none, plain_text, at_splice}

-- ---- spans that wait

pub waits_push : (groups : SplicedText) (ps : List Span) (q : Span) (x y : List ℕ) → SpansHold groups ps x
    → SpanHolds groups q y → SpansHold groups (ps ++ q ∷ []) (y ++ x)
waits_push groups [] q x y w u = ([], y, refl, u, ap (λ z. y ++ z) w ∙ append-nil y)
waits_push groups (p ∷ ps) q x y w u =
    (y ++ w.0, w.1, waits_push groups ps q w.0 y w.2 u, w.3, ap (λ z. y ++ z) w.4 ∙ sym (append_assoc y w.0 w.1))

pub waits_pop : (groups : SplicedText) (ps : List Span) (q : Span) (x : List ℕ)
    → SpansHold groups (ps ++ q ∷ []) x → (y z : List ℕ) × SpanHolds groups q y × SpansHold groups ps z × (x ≡ y ++ z)
waits_pop groups [] q x w = (w.1, [], w.3, refl, w.4 ∙ ap (λ z. z ++ w.1) w.2 ∙ sym (append-nil w.1))
waits_pop groups (p ∷ ps) q x w =
    let m = waits_pop groups ps q w.0 w.2 in
    (m.0, m.1 ++ w.1, m.2, (m.1, w.1, m.3, w.3, refl), w.4 ∙ ap (λ z. z ++ w.1) m.4 ∙ append_assoc m.0 m.1 w.1)

-- ---- the bytes up to a splice and behind it

-- the part of ms from the index a up to the index b is x and then y
record Halves (ms : List ℕ) (a b : ℕ) (x y : List ℕ) : Type 0 where
  rises : a ≤ b
  within : b ≤ length ms
  is : part_between a b ms ≡ x ++ y

-- what stands before the bytes of a span, and behind them
parted : {ms x y : List ℕ} {a b : ℕ} → Halves ms a b x y → (z : List ℕ) × (ms ≡ take a ms ++ (x ++ (y ++ z)))
parted {ms = ms} {x = x} {y = y} {a = a} {b = b} p =
    let z = drop (b - a) (drop a ms) in (
      z,
      sym (take-append-drop a ms) ∙ ap (λ w. take a ms ++ w)
          (sym (take-append-drop (b - a) (drop a ms)) ∙ ap (λ w. w ++ z) p.is ∙ append_assoc x y z),
    )

before_splice : {ms x y : List ℕ} {a b : ℕ} (h : ℕ) → Halves ms a b x y → h ≡ a + length x → part_between a h ms ≡ x
before_splice {ms = ms} {x = x} {y = y} {a = a} h p f =
    let t = parted p in
    between_mid a h (take a ms) _ t.1 (sym (length-take-le a ms (omega (arith, p.rises, p.within)))) f

behind_splice : {ms x y : List ℕ} {a b : ℕ} (h : ℕ) → Halves ms a b x y → h ≡ a + length x
    → (h ≤ b) × (part_between h b ms ≡ y)
behind_splice {ms = ms} {x = x} {y = y} {a = a} {b = b} h p f =
    let t = parted p in
    let i = p.rises in
    let front = length-take-le a ms (omega (arith, i, p.within)) in
    let wide : b - a ≡ length x + length y =
    sym (length-take-le (b - a) (drop a ms) (omega (arith, length-drop a ms, i, p.within))) ∙ ap length p.is
    ∙ length-append x y in
    let text : ms ≡ (take a ms ++ x) ++ (y ++ t.0) = t.1 ∙ sym (append_assoc (take a ms) x (y ++ t.0)) in (
      omega (arith, f, wide, i),
      between_mid h b (take a ms ++ x) _ text (omega (arith, f, front, length-append (take a ms) x)) (omega (arith, f, wide, i)),
    )

first_splice : (a b : ℕ) (gs : List Splice) (d : Splice) → a < b → a < length gs
    → part_between a b gs ≡ get_or gs a d ∷ part_between (a + 1) b gs
first_splice a b gs d l h =
    let wide : b - a ≡ suc (b - (a + 1)) = omega (arith, l) in
    ap₂ take wide (drop-cons gs a d h) ∙ ap (λ z. get_or gs a d ∷ take (b - (a + 1)) (drop z gs)) (sym (add-one a))

-- ---- steps of the functions

-- out' is `out` with the bytes of ms from the index a up to the index b appended
pub record AppendsPart (ms : List ℕ) (a b : ℕ) (out out' : List ℕ) : Type 0 where
  pub part : List ℕ
  pub is_part : a ≤ b → b ≤ length ms → part ≡ part_between a b ms
  pub appended : out' ≡ out ++ part

-- a part of a list that is ms was appended
pub appends_part : {ms text out out' : List ℕ} (a b : ℕ) {part : List ℕ} → text ≡ ms
    → (a ≤ b → b ≤ length text → part ≡ part_between a b text) → out' ≡ out ++ part → AppendsPart ms a b out out'
appends_part {ms = ms} {text = text} {out = out} {out' = out'} a b {part = part} e f g =
    subst (λ z. AppendsPart z a b out out') e (record { part = part; is_part = f; appended = g })

-- the splice stands at the index i of ks
pub record SpliceAt (ks : List Splice) (i : ℕ) (splice : Splice) : Type 0 where
  pub below : i < length ks
  pub otherwise : Splice
  pub is : splice ≡ get_or ks i otherwise

-- the splice is the first one of the span p of groups that have the splices gs
pub record FirstSplice (gs : List Splice) (p : Span) (splice : Splice) : Type 0 where
  pub inside : p.from.splices < p.to.splices
  pub stands : SpliceAt gs p.from.splices splice

-- the first splice of a span, over splices that are gs
pub first_in : {ks gs : List Splice} {p : Span} {splice : Splice} → ks ≡ gs → FirstSplice ks p splice → FirstSplice gs p splice
first_in {p = p} {splice = splice} e f = subst (λ z. FirstSplice z p splice) e f

-- the rest of the span after its first splice
abbrev pub rest_after : Span → Splice → Span
rest_after p splice = record { from = record { bytes = splice.at; splices = p.from.splices + 1 }; to = p.to }

-- the bytes that are written, and the spans that wait
pub record Progress : Type 0 where
  pub out : List ℕ
  pub later : List Span

-- From `old` to `new` the span p is written or waits: if p holds x, and the spans that waited hold y, then what is
-- written, with what the waiting spans hold, is what was written, and x and y.
abbrev pub WritesSpan : SplicedText → Span → Progress → Progress → Type 0
WritesSpan groups p old new = (x y : List ℕ) → SpanHolds groups p x → SpansHold groups old.later y
    → (z : List ℕ) × SpansHold groups new.later z × (new.out ++ z ≡ old.out ++ (x ++ y))

-- `start` was written before the group p, and what is written since, with what the waiting spans hold, is what p holds
abbrev pub WritesGroup : SplicedText → Span → List ℕ → Progress → Type 0
WritesGroup groups p start new = (x : List ℕ) → SpanHolds groups p x
    → (z : List ℕ) × SpansHold groups new.later z × (new.out ++ z ≡ start ++ x)

-- ---- one span

-- A call of `put_span` for a span p with a splice: `out'` is `out` with the bytes of p before the splice, and `later'`
-- is `later` with two spans more, the rest of p and then the group of the splice.
pub span_splice : (groups : SplicedText) {p : Span} {splice : Splice} {out out' : List ℕ} (later : List Span)
    {mid later' : List Span} → FirstSplice groups.splices.items p splice
    → AppendsPart groups.bytes.items p.from.bytes splice.at out out'
    → mid ≡ later ++ rest_after p splice ∷ [] → later' ≡ mid ++ splice.group ∷ []
    → WritesSpan groups p (record { out = out; later = later }) (record { out = out'; later = later' })
span_splice groups {p = p} {splice = splice} {out = out} later {mid = mid} {later' = later'} n f j k = λ x y s w.
    let ms = groups.bytes.items in
    let gs = groups.splices.items in
    let v = s.0 in
    let first : splices_in p gs ≡ splice ∷ part_between (p.from.splices + 1) p.to.splices gs =
    first_splice p.from.splices p.to.splices gs n.stands.otherwise n.inside n.stands.below
    ∙ ap (λ z. z ∷ part_between (p.from.splices + 1) p.to.splices gs) (sym n.stands.is) in
    let a = at_splice (subst (λ z. Holds ms gs p.from.bytes (bytes_in p ms) z x) first s.1) in
    let halves : Halves ms p.from.bytes p.to.bytes a.before a.behind = record { rises = v.0; within = v.1; is = a.bytes } in
    let behind = behind_splice splice.at halves a.point in
    let bytes : f.part ≡ a.before = f.is_part (omega (arith, a.point)) (omega (arith, behind.0, v.1))
    ∙ before_splice splice.at halves a.point in
    let r = rest_after p splice in
    let rest : SpanHolds groups r a.rest = (
      (behind.0, v.1, omega (arith, n.inside), v.3),
      subst (λ z. Holds ms gs splice.at z (part_between (p.from.splices + 1) p.to.splices gs) a.rest)
          (sym behind.1) a.after,
    ) in
    let one : SpansHold groups mid (a.rest ++ y) =
    subst (λ z. SpansHold groups z (a.rest ++ y)) (sym j) (waits_push groups later r y a.rest w rest) in
    let two : SpansHold groups later' (a.group ++ (a.rest ++ y)) =
    subst (λ z. SpansHold groups z (a.group ++ (a.rest ++ y))) (sym k)
    (waits_push groups mid splice.group (a.rest ++ y) a.group one (a.within, a.inside)) in (
      a.group ++ (a.rest ++ y),
      two,
      ap (λ z. z ++ (a.group ++ (a.rest ++ y))) (f.appended ∙ ap (λ z. out ++ z) bytes)
          ∙ rejoin out a.before a.group a.rest y ∙ ap (λ z. out ++ (z ++ y)) (sym a.text),
    )
  where
    rejoin : (a b c d y : List ℕ) → (a ++ b) ++ (c ++ (d ++ y)) ≡ a ++ ((b ++ (c ++ d)) ++ y)
    rejoin a b c d y = simp append_assoc refl

-- if a span without splices is appended, the output and the waiting spans make the same text as before
pub span_plain : {out out' : List ℕ} (groups : SplicedText) (p : Span) (later : List Span)
    → (p.from.splices < p.to.splices → p.from.splices < length groups.splices.items → ⊥)
    → AppendsPart groups.bytes.items p.from.bytes p.to.bytes out out'
    → WritesSpan groups p (record { out = out; later = later }) (record { out = out'; later = later })
span_plain {out = out} groups p later n f = λ x y s w.
    let ms = groups.bytes.items in
    let gs = groups.splices.items in
    let v = s.0 in
    let empty : splices_in p gs ≡ [] = elim (cases_lt p.from.splices p.to.splices) [
      | inl l ↦ absurd (n l (omega (arith, l, v.3)))
      | inr h ↦ between_none p.from.splices p.to.splices gs h
    ] in
    let text : x ≡ bytes_in p ms = plain_text (subst (λ z. Holds ms gs p.from.bytes (bytes_in p ms) z x) empty s.1) in
    (y, w, ap (λ z. z ++ y) (f.appended ∙ ap (λ z. out ++ z) (f.is_part v.0 v.1 ∙ sym text)) ∙ append_assoc out x y)

-- ---- how long it takes

ordered_at : (n i : ℕ) (gs : List Splice) (d : Splice) → Ordered n gs → i < length gs → (get_or gs i d).group.to.splices ≤ n + i
ordered_at n i [] d o l = absurd (omega (arith, l))
ordered_at n zero (h ∷ gs) d o l = omega (arith, o.0)
ordered_at n (suc i) (h ∷ gs) d o l = omega (arith, ordered_at (suc n) i gs d o.1 (omega (arith, l)))

measure_push : (ps : List Span) (q : Span) → spans_measure (ps ++ q ∷ []) ≡ spans_measure ps + span_measure q
measure_push [] q = omega arith
measure_push (p ∷ ps) q = omega (arith, measure_push ps q)

twice : (n : ℕ) → 2 ^ (1 + (n + 1)) ≡ 2 * 2 ^ (1 + n)
twice n = let next : 1 + (n + 1) ≡ suc (1 + n) = omega arith in ap (λ z. 2 ^ z) next ∙ pow-suc 2 (1 + n) ∙ omega arith

-- in ordered groups, a span's rest after its first splice and the splice's group measure less than the span
pub less_splice : {gs : List Splice} {p : Span} {splice : Splice} (later : List Span) {mid later' : List Span}
    → FirstSplice gs p splice → mid ≡ later ++ rest_after p splice ∷ [] → later' ≡ mid ++ splice.group ∷ [] → Ordered 0 gs
    → spans_measure later' < spans_measure later + span_measure p
less_splice {gs = gs} {p = p} {splice = splice} later {mid = mid} {later' = later'} n j k o =
    let h = n.stands.below in
    let l = n.inside in
    let d = n.stands.otherwise in
    let q = rest_after p splice in
    let a = p.from.splices in
    let b = p.to.splices in
    let c = splice.group.from.splices in
    let t = splice.group.to.splices in
    let low : t ≤ a = omega (arith, ap (λ (z : Splice). z.group.to.splices) n.stands.is, ordered_at 0 a gs d o h) in
    let group : 2 ^ (1 + t) ≤ 2 ^ (1 + a) = pow_mono {i = 1 + t} {j = 1 + a} (omega (arith, low)) in
    let up : 2 ^ (1 + (a + 1)) ≤ 2 ^ (1 + b) = pow_mono {i = 1 + (a + 1)} {j = 1 + b} (omega (arith, l)) in
    let one : 2 ^ (1 + 0) ≤ 2 ^ (1 + c) = pow_mono {i = 1 + 0} {j = 1 + c} (omega arith) in
    let two : 2 ^ (1 + 0) ≡ 2 = refl in
    let least : 2 ^ (1 + 0) ≤ 2 ^ (1 + a) = pow_mono {i = 1 + 0} {j = 1 + a} (omega arith) in
    let high : 2 ≤ 2 ^ (1 + a) = omega (arith, least, two) in
    let double : 2 ^ (1 + (a + 1)) ≡ 2 * 2 ^ (1 + a) = twice a in
    let all : spans_measure later' ≡ (spans_measure later + span_measure q) + span_measure splice.group =
    ap spans_measure k ∙ measure_push mid splice.group ∙ ap (λ z. spans_measure z + span_measure splice.group) j
    ∙ ap (λ z. z + span_measure splice.group) (measure_push later q) in
    let rest : span_measure q ≡ 1 + (2 ^ (1 + b) - 2 ^ (1 + (a + 1))) = refl in
    omega (arith, all, rest, group, up, one, two, high, double)

-- ---- a group

-- if the group is the only span that waits, the waiting spans hold its text
pub group_begins : (groups : SplicedText) (p : Span) (out : List ℕ) {later later' : List Span}
    → later ≡ [] → later' ≡ later ++ p ∷ [] → WritesGroup groups p out (record { out = out; later = later' })
group_begins groups p out {later' = later'} e f = λ x s.
    let is : later' ≡ p ∷ [] = f ∙ ap (λ z. z ++ p ∷ []) e in
    (x, subst (λ z. SpansHold groups z x) (sym is) ([], x, refl, s, refl), refl)

-- from `old` to `new` the span q, the last one that waited, is taken off, and nothing is written
pub record Pops (q : Span) (old new : Progress) : Type 0 where
  pub later : old.later ≡ new.later ++ q ∷ []
  pub out : new.out ≡ old.out

-- if `put_span` writes the last waiting span q, the output and the waiting spans make the same text as before
pub group_goes : {q : Span} {old popped : Progress} (groups : SplicedText) (p : Span) (start : List ℕ) (new : Progress)
    → Pops q old popped → WritesGroup groups p start old → WritesSpan groups q popped new → WritesGroup groups p start new
group_goes {q = q} {popped = popped} groups p start new o f g = λ x s.
    let t = f x s in
    let u = waits_pop groups popped.later q t.0 (subst (λ z. SpansHold groups z t.0) o.later t.1) in
    let v = g u.0 u.1 u.2 u.3 in
    (v.0, v.1, v.2 ∙ ap₂ (λ (y z : List ℕ). y ++ z) o.out (sym u.4) ∙ t.2)

-- spans measure less than before the pop if they measure less than the popped span and the others
pub group_less : (q : Span) (later rest later' : List Span) → later ≡ rest ++ q ∷ []
    → spans_measure later' < spans_measure rest + span_measure q → spans_measure later' < spans_measure later
group_less q later rest later' e h = omega (arith, h, ap spans_measure e ∙ measure_push rest q)

-- ---- a whole text

-- Of `text`, over the groups, what stands behind the index `at`, with the splices ks, is left: after `out` it makes the
-- text that `text` holds.
abbrev pub Left : SplicedText → SplicedText → ℕ → List Splice → List ℕ → Type 0
Left groups text at ks out = (x : List ℕ) → FilledText groups text x → (y : List ℕ) × (at ≤ length text.bytes.items)
    × Holds groups.bytes.items groups.splices.items at (drop at text.bytes.items) ks y × (out ++ y ≡ x)

-- `out` is the text that `text` holds over the groups
abbrev pub IsFilled : SplicedText → SplicedText → List ℕ → Type 0
IsFilled groups text out = (x : List ℕ) → FilledText groups text x → out ≡ x

-- before the first byte is written, the whole text is left
pub fill_begins : (groups text : SplicedText) {ks : List Splice} {out : List ℕ} → out ≡ [] → ks ≡ text.splices.items
    → Left groups text 0 ks out
fill_begins groups text e f = λ x u. (
  x,
  omega arith,
  subst (λ z. Holds groups.bytes.items groups.splices.items 0 text.bytes.items z x) (sym f) u,
  ap (λ z. z ++ x) e,
)

-- after the bytes up to a splice and its group are written, the text after the splice is left
pub fill_goes : (groups text : SplicedText) {ks : List Splice} {at i : ℕ} {splice : Splice} {out mid : List ℕ}
    (out' : List ℕ) → SpliceAt ks i splice → AppendsPart text.bytes.items at splice.at out mid
    → ((x : List ℕ) → SpanHolds groups splice.group x → out' ≡ mid ++ x)
    → Left groups text at (drop i ks) out → Left groups text splice.at (drop (i + 1) ks) out'
fill_goes groups text {ks = ks} {at = at} {i = i} {splice = splice} {out = out} out' n f p left = λ x u.
    let ms = groups.bytes.items in
    let gs = groups.splices.items in
    let bs = text.bytes.items in
    let t = left x u in
    let next : drop i ks ≡ splice ∷ drop (i + 1) ks =
    drop-cons ks i n.otherwise n.below ∙ ap₂ (λ (z : Splice) (w : ℕ). z ∷ drop w ks) (sym n.is) (sym (add-one i)) in
    let a = at_splice (subst (λ z. Holds ms gs at (drop at bs) z t.0) next t.2) in
    let front = length-take-le at bs t.1 in
    let all : bs ≡ take at bs ++ (a.before ++ a.behind) = sym (take-append-drop at bs) ∙ ap (λ z. take at bs ++ z) a.bytes in
    let long = ap length all ∙ length-append (take at bs) (a.before ++ a.behind) in
    let within : splice.at ≤ length bs = omega (arith, a.point, long, front, length-append a.before a.behind) in
    let bytes : f.part ≡ a.before = f.is_part (omega (arith, a.point)) within
    ∙ between_mid at splice.at (take at bs) _ all (sym front) a.point in
    let behind : drop splice.at bs ≡ a.behind = let far : splice.at ≡ length (take at bs ++ a.before) =
    omega (arith, a.point, front, length-append (take at bs) a.before) in
    ap₂ drop far (all ∙ sym (append_assoc (take at bs) a.before a.behind)) ∙ drop-append_seam
    (take at bs ++ a.before) a.behind in (
      a.rest,
      within,
      subst (λ z. Holds ms gs splice.at z (drop (i + 1) ks) a.rest) (sym behind) a.after,
      ap (λ z. z ++ a.rest) (p a.group (a.within, a.inside) ∙ ap (λ z. z ++ a.group) (f.appended ∙ ap (λ z. out ++ z) bytes))
          ∙ rejoin out a.before a.group a.rest ∙ ap (λ z. out ++ z) (sym a.text) ∙ t.3,
    )
  where
    rejoin : (a b c d : List ℕ) → ((a ++ b) ++ c) ++ d ≡ a ++ (b ++ (c ++ d))
    rejoin a b c d = simp append_assoc refl

-- after the last splice, the output with the bytes up to the end is the whole text
pub fill_ends : (groups text : SplicedText) {ks : List Splice} {at end : ℕ} {out out' : List ℕ} → ks ≡ []
    → end ≡ length text.bytes.items → AppendsPart text.bytes.items at end out out' → Left groups text at ks out
    → IsFilled groups text out'
fill_ends groups text {at = at} {end = end} {out = out} e i f left = λ x u.
    let ms = groups.bytes.items in
    let gs = groups.splices.items in
    let bs = text.bytes.items in
    let t = left x u in
    let plain : t.0 ≡ drop at bs = plain_text (subst (λ z. Holds ms gs at (drop at bs) z t.0) e t.2) in
    let bytes : f.part ≡ drop at bs = f.is_part (omega (arith, t.1, i)) (omega (arith, i)) ∙ between_end at end (take at bs)
    (sym (take-append-drop at bs)) (sym (length-take-le at bs t.1)) i in
    f.appended ∙ ap (λ z. out ++ z) (bytes ∙ sym plain) ∙ t.3

-- `fill_splices` returns early: a text without splices (ks, which are its splices) holds its own bytes
pub fill_without_splices : (groups text : SplicedText) {ks : List Splice} → ks ≡ text.splices.items
    → nat_eq (length ks) 0 ≡ true → IsFilled groups text text.bytes.items
fill_without_splices groups text {ks = ks} e f = λ x u.
    sym (plain_text (subst (λ z. Holds groups.bytes.items groups.splices.items 0 text.bytes.items z x) (sym e ∙ empty ks f) u))
  where
    empty : (ks : List Splice) → nat_eq (length ks) 0 ≡ true → ks ≡ []
    empty [] f = refl
    empty (k ∷ ks) f = absurd (omega (arith, eqb-true (length (k ∷ ks)) 0 f))

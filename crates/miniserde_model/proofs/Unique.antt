-- A text has one tree at most. By recursion over both trees: the first byte determines the kind of a value
-- (`same_kind`), and `same_value`, `same_elements` and `same_members` show that both readings of a construct end at
-- the same byte.
use Rattle.std.proofs.Common.{◌≡◌, ℕ, ◌<◌, Bool, true, false, ◌==◌, ◌||◌, ◌&&◌, nat_le, cond, List, [], ◌∷◌, ◌++◌}
use Rattle.std.proofs.Common.{codes, refl, sym, ap, ap₂, ◌∙◌, append_assoc, append-nil, arith, inl, inr}
use Rattle.std.proofs.lemmas.Bool.Decides.{nat_tests}
use Rattle.std.proofs.lemmas.List.{append_cancel_left}
use Rattle.miniserde_model.specs.Tree.{Tree, null, truth, nonneg, neg, num, str, list, members, Trees, no_trees}
use Rattle.miniserde_model.specs.Tree.{tree, Members, no_members, member}
use Rattle.miniserde_model.specs.Number.{IsInt, IsMinus, IsNumber}
use Rattle.miniserde_model.specs.String.{IsString}
use Rattle.miniserde_model.specs.Whitespace.{IsWhitespace}
use Rattle.miniserde_model.specs.Value.{Spaced, Named, Then, word, IsValue, AreElements, AreMoreElements}
use Rattle.miniserde_model.specs.Value.{AreMembers, AreMoreMembers, IsJson}
use Rattle.miniserde_model.specs.Bytes.{StopsAt, is_number_byte}
use Rattle.miniserde_model.proofs.LongestRuns.{same_run}
use Rattle.miniserde_model.proofs.Numbers.{same_number}
use Rattle.miniserde_model.proofs.Strings.{same_string}
use Rattle.miniserde_model.specs.Bytes.{is_space}
use Rattle.miniserde_model.proofs.Prefixes.{Prefix, PrefixFree, StandsApart, AtEnd, Closes, Heads, BeginsNot}
use Rattle.miniserde_model.proofs.Prefixes.{space_run, same_spaced, same_named, same_then, same_between, space_no_piece}

-- ---- a value is told by its first byte

-- the kind of a tree as a number; all numbers have one kind
abbrev pub kind : Tree → ℕ
kind null = 0
kind (truth x) = 1
kind (nonneg n) = 3
kind (neg n) = 3
kind (num x) = 3
kind (str s) = 4
kind (list ts) = 5
kind (members ms) = 6

-- the kind of the trees whose text begins with the byte, or 7 if there are none
abbrev pub leading_kind : ℕ → ℕ
leading_kind c = cond (c == 110) 0
    (cond (c == 116) 1 (cond (c == 102) 1
    (cond ((c == 45) || (nat_le 48 c && nat_le c 57)) 3
    (cond (c == 34) 4 (cond (c == 91) 5 (cond (c == 123) 6 7))))))

-- the text b begins with a byte of the kind k
pub record Head (b : List ℕ) (k : ℕ) : Type 0 where
  pub byte : ℕ
  pub rest : List ℕ
  pub is : b ≡ byte ∷ rest
  pub of_kind : leading_kind byte ≡ k

whole_head : (x rest : List ℕ) → IsInt x → Head (x ++ rest) 3
whole_head [] rest h = absurd h
whole_head (c ∷ cs) rest (inl h) = record { byte = c; rest = cs ++ rest; is = refl; of_kind = rw (h.0) refl }
whole_head (c ∷ cs) rest (inr h) = record { byte = c; rest = cs ++ rest; is = refl; of_kind = grind (arith, nat_tests) }

minus_head : (m w rest : List ℕ) → IsMinus m → IsInt w → Head (m ++ (w ++ rest)) 3
minus_head m w rest (inl h) p = rw h (whole_head w rest p)
minus_head m w rest (inr h) p = rw h (record { byte = 45; rest = w ++ rest; is = refl; of_kind = refl })

-- a number begins with a byte of kind 3, a minus or a digit
pub number_head : (b : List ℕ) (t : Tree) → IsNumber b t → Head b 3
number_head b t p = rw (p.0.text) (minus_head p.0.minus p.0.int (p.0.fraction ++ p.0.exponent) p.0.is_minus p.0.is_int)

-- a string begins with the byte of kind 4, the quotation mark
pub string_head : (b s : List ℕ) → IsString b s → Head b 4
string_head b s p = record { byte = 34; rest = p.inside ++ 34 ∷ []; is = p.text; of_kind = refl }

-- a text that spells a tree as a value begins with a byte of the tree's kind
pub value_head : (t : Tree) (b : List ℕ) → IsValue t b → Head b (kind t)
value_head null b p = record { byte = 110; rest = codes "ull"; is = p; of_kind = refl }
value_head (truth true) b p = record { byte = 116; rest = codes "rue"; is = p; of_kind = refl }
value_head (truth false) b p = record { byte = 102; rest = codes "alse"; is = p; of_kind = refl }
value_head (nonneg n) b p = number_head b (nonneg n) p
value_head (neg n) b p = number_head b (neg n) p
value_head (num x) b p = number_head b (num x) p
value_head (str s) b p = string_head b s p
value_head (list ts) b p = record { byte = 91; rest = p.inside ++ 93 ∷ []; is = p.text; of_kind = refl }
value_head (members ms) b p = record { byte = 123; rest = p.inside ++ 125 ∷ []; is = p.text; of_kind = refl }

-- the kind of a tree is below 7
pub kind_below : (t : Tree) → kind t < 7
kind_below null = omega arith
kind_below (truth x) = omega arith
kind_below (nonneg n) = omega arith
kind_below (neg n) = omega arith
kind_below (num x) = omega arith
kind_below (str s) = omega arith
kind_below (list ts) = omega arith
kind_below (members ms) = omega arith

-- a byte that begins values is no whitespace
pub known_no_space : (c : ℕ) → leading_kind c < 7 → is_space c ≡ false
known_no_space c h = grind (arith, nat_tests)

-- a text that begins with a byte of a kind below 7 begins with no whitespace
pub head_no_space : (b rest : List ℕ) (k : ℕ) → k < 7 → Head b k → StopsAt is_space (b ++ rest)
head_no_space b rest k l h = rw (h.is) (known_no_space h.byte (omega (arith, h.of_kind)))

head_not : (z : ℕ) {k : ℕ} {b : List ℕ} (rest : List ℕ) {x : List ℕ} → leading_kind z ≡ 7 → Head b k → k < 7
    → b ++ rest ≡ z ∷ x → ⊥
head_not z rest {x = x} hz h l e =
    let f : ◌≡◌ {A = List ℕ} (h.byte ∷ (h.rest ++ rest)) (z ∷ x) = ap (λ a. a ++ rest) (sym h.is) ∙ e in
    let same : h.byte ≡ z = cc in
    omega (arith, h.of_kind, ap leading_kind same, hz)

-- no text that spells a tree as a value begins with whitespace
pub value_heads : (t : Tree) → Heads (IsValue t)
value_heads t = record { no_space = λ b rest p. head_no_space b rest (kind t) (kind_below t) (value_head t b p) }

value_not : (t : Tree) (z : ℕ) → leading_kind z ≡ 7 → BeginsNot z (IsValue t)
value_not t z hz b rest x p e = head_not z rest hz (value_head t b p) (kind_below t) e

name_heads : (s : List ℕ) → Heads (λ n. IsString n s)
name_heads s = record { no_space = λ b rest p. head_no_space b rest 4 (omega arith) (string_head b s p) }

name_not : (s : List ℕ) (z : ℕ) → leading_kind z ≡ 7 → BeginsNot z (λ n. IsString n s)
name_not s z hz b rest x p e = head_not z rest hz (string_head b s p) (omega arith) e

value_apart : (t : Tree) (z : ℕ) → is_space z ≡ false → leading_kind z ≡ 7 → StandsApart z (IsValue t)
value_apart t z s hz = record { byte_no_space = s; heads = value_heads t; begins_not = value_not t z hz }

name_apart : (s : List ℕ) (z : ℕ) → is_space z ≡ false → leading_kind z ≡ 7 → StandsApart z (λ n. IsString n s)
name_apart s z hs hz = record { byte_no_space = hs; heads = name_heads s; begins_not = name_not s z hz }

-- two texts that begin alike begin with bytes of one kind
pub same_kind : {i j : ℕ} {a b : List ℕ} (x y : List ℕ) → Head a i → Head b j → a ++ x ≡ b ++ y → i ≡ j
same_kind x y h k e =
    let f : ◌≡◌ {A = List ℕ} (h.byte ∷ (h.rest ++ x)) (k.byte ∷ (k.rest ++ y)) = ap (λ z. z ++ x) (sym h.is) ∙ e ∙ ap (λ z. z ++ y) k.is in
    let same : h.byte ≡ k.byte = cc in
    sym h.of_kind ∙ ap leading_kind same ∙ k.of_kind

more_ends : (ts : Trees) (b x : List ℕ) → AreMoreElements ts b → Closes 93 x → AtEnd (b ++ x)
more_ends no_trees b x p c = rw (p, c.1) refl
more_ends (tree t ts) b x p c = rw (p.1) refl

more_members_end : (ms : Members) (b x : List ℕ) → AreMoreMembers ms b → Closes 125 x → AtEnd (b ++ x)
more_members_end no_members b x p c = rw (p, c.1) refl
more_members_end (member name t ms) b x p c = rw (p.1) refl

-- ---- one tree

-- texts that begin with different bytes don't begin alike
clash_at : {c d : ℕ} {a b cs ds : List ℕ} (x y : List ℕ) → a ≡ c ∷ cs → b ≡ d ∷ ds → (c ≡ d → ⊥) → a ++ x ≡ b ++ y → ⊥
clash_at {c = c} {d = d} {cs = cs} {ds = ds} x y p q apart e =
    let f : ◌≡◌ {A = List ℕ} (c ∷ (cs ++ x)) (d ∷ (ds ++ y)) = ap (λ z. z ++ x) (sym p) ∙ e ∙ ap (λ z. z ++ y) q in
    apart (cc)

-- behind a comma is no closing bracket
no_more : {z : ℕ} {a b c x : List ℕ} (y : List ℕ) → a ≡ [] → b ≡ 44 ∷ c → Closes z x → (z ≡ 44 → ⊥) → a ++ x ≡ b ++ y → ⊥
no_more {x = x} y p q r apart e = clash_at [] y r.1 q apart (append-nil x ∙ ap (λ w. w ++ x) (sym p) ∙ e)

-- if a and b are the word w, and `a ++ x` is `b ++ y`, then x is y
pub same_word : (w : List ℕ) {a b x y : List ℕ} → a ≡ w → b ≡ w → a ++ x ≡ b ++ y → x ≡ y
same_word w {x = x} {y = y} p q e = append_cancel_left w x y (ap (λ z. z ++ x) (sym p) ∙ e ∙ ap (λ z. z ++ y) q)

-- if a is the word of v and b that of w, and `a ++ x` is `b ++ y`, then v is w and x is y
pub same_truth : (v w : Bool) → PrefixFree (λ a. a ≡ word v) (λ b. b ≡ word w) (v ≡ w)
same_truth true true a b x y p q e = (refl, same_word (codes "true") p q e)
same_truth false false a b x y p q e = (refl, same_word (codes "false") p q e)
same_truth true false a b x y p q e = absurd (clash_at {c = 116} {d = 102} x y p q (λ n. omega arith) e)
same_truth false true a b x y p q e = absurd (clash_at {c = 102} {d = 116} x y p q (λ n. omega arith) e)

-- `Prefix` holds of whitespace before the byte z, if z is none
same_whitespace : {R : Type 0} (z : ℕ) → is_space z ≡ false → R → Prefix IsWhitespace IsWhitespace (Closes z) R
same_whitespace z hz r a b x y p q cx cy e =
    (r, (same_run (space_run refl p (rw (cx.1) hz)) (space_run e q (rw (cy.1) hz))).1)

spaced_name : (s r : List ℕ) → Prefix (Spaced (λ n. IsString n s)) (Spaced (λ n. IsString n r)) AtEnd (s ≡ r)
spaced_name s r = same_spaced (name_heads s) (name_heads r) (λ a b x y p q sx sy e. same_string s r a b x y p q e)

-- whitespace and a bracket are no element
no_element : (t : Tree) {M : List ℕ → Type 0} (a : List ℕ) {b x : List ℕ} (y : List ℕ) → IsWhitespace a
    → Then (Spaced (IsValue t)) M b → Closes 93 x → a ++ x ≡ b ++ y → ⊥
no_element t a y w p c e = space_no_piece (value_apart t 93 refl refl) a c.0 (p.rest ++ y) w p.is_first
    (ap (λ z. a ++ z) (sym c.1) ∙ e ∙ ap (λ z. z ++ y) p.text ∙ append_assoc p.first p.rest y)

-- whitespace and a bracket are no member
no_member : (s : List ℕ) {V M : List ℕ → Type 0} (a : List ℕ) {b x : List ℕ} (y : List ℕ) → IsWhitespace a
    → Then (Named (λ n. IsString n s) V) M b → Closes 125 x → a ++ x ≡ b ++ y → ⊥
no_member s a y w p c e =
    let m = p.is_first in
    space_no_piece (name_apart s 125 refl refl) a c.0 _ w m.is_name
    (ap (λ z. a ++ z) (sym c.1) ∙ e ∙ ap (λ z. z ++ y) p.text ∙ append_assoc p.first p.rest y
    ∙ ap (λ z. z ++ (p.rest ++ y)) m.text ∙ append_assoc m.name (58 ∷ m.value) (p.rest ++ y))

mutual
  pub same_value : (t u : Tree) → Prefix (IsValue t) (IsValue u) (StopsAt is_number_byte) (t ≡ u)
  same_value null null a b x y p q sx sy e = (refl, same_word (codes "null") p q e)
  same_value (truth v) (truth w) a b x y p q sx sy e = let both = same_truth v w a b x y p q e in (ap truth both.0, both.1)
  same_value (nonneg n) (nonneg m) a b x y p q sx sy e = same_number _ _ a b x y p q sx sy e
  same_value (nonneg n) (neg m) a b x y p q sx sy e = same_number _ _ a b x y p q sx sy e
  same_value (nonneg n) (num m) a b x y p q sx sy e = same_number _ _ a b x y p q sx sy e
  same_value (neg n) (nonneg m) a b x y p q sx sy e = same_number _ _ a b x y p q sx sy e
  same_value (neg n) (neg m) a b x y p q sx sy e = same_number _ _ a b x y p q sx sy e
  same_value (neg n) (num m) a b x y p q sx sy e = same_number _ _ a b x y p q sx sy e
  same_value (num n) (nonneg m) a b x y p q sx sy e = same_number _ _ a b x y p q sx sy e
  same_value (num n) (neg m) a b x y p q sx sy e = same_number _ _ a b x y p q sx sy e
  same_value (num n) (num m) a b x y p q sx sy e = same_number _ _ a b x y p q sx sy e
  same_value (str s) (str r) a b x y p q sx sy e = let both = same_string s r a b x y p q e in (ap str both.0, both.1)
  same_value (list ts) (list us) a b x y p q sx sy e =
      let both = same_between 91 93 (same_elements ts us) a b x y p q sx sy e in
      (ap list both.0, both.1)
  same_value (members ms) (members ns) a b x y p q sx sy e =
      let both = same_between 123 125 (same_members ms ns) a b x y p q sx sy e in
      (ap members both.0, both.1)
  same_value t u a b x y p q sx sy e =
      let k : kind t ≡ kind u = same_kind x y (value_head t a p) (value_head u b q) e in
      absurd (omega arith)

  same_elements : (ts us : Trees) → Prefix (AreElements ts) (AreElements us) (Closes 93) (ts ≡ us)
  same_elements no_trees no_trees a b x y p q sx sy e = same_whitespace 93 refl refl a b x y p q sx sy e
  same_elements no_trees (tree u us) a b x y p q sx sy e = absurd (no_element u a y p q sx e)
  same_elements (tree t ts) no_trees a b x y p q sx sy e = absurd (no_element t b x q p sy (sym e))
  same_elements (tree t ts) (tree u us) a b x y p q sx sy e =
      let both = same_then 93 (more_ends ts) (more_ends us)
      (same_spaced (value_heads t) (value_heads u) (same_value t u)) (same_more ts us) a b x y p q sx sy e in
      (ap₂ tree both.0.0 both.0.1, both.1)

  same_more : (ts us : Trees) → Prefix (AreMoreElements ts) (AreMoreElements us) (Closes 93) (ts ≡ us)
  same_more no_trees no_trees a b x y p q sx sy e = (refl, same_word [] p q e)
  same_more no_trees (tree u us) a b x y p q sx sy e = absurd (no_more y p q.1 sx (λ n. omega arith) e)
  same_more (tree t ts) no_trees a b x y p q sx sy e = absurd (no_more x q p.1 sy (λ n. omega arith) (sym e))
  same_more (tree t ts) (tree u us) a b x y p q sx sy e =
      let f : ◌≡◌ {A = List ℕ} (44 ∷ (p.0 ++ x)) (44 ∷ (q.0 ++ y)) = ap (λ z. z ++ x) (sym p.1) ∙ e ∙ ap (λ z. z ++ y) q.1 in
      let g : p.0 ++ x ≡ q.0 ++ y = cc in
      let both = same_then 93 (more_ends ts) (more_ends us)
      (same_spaced (value_heads t) (value_heads u) (same_value t u)) (same_more ts us) p.0 q.0 x y p.2 q.2 sx sy
      g in
      (ap₂ tree both.0.0 both.0.1, both.1)

  same_members : (ms ns : Members) → Prefix (AreMembers ms) (AreMembers ns) (Closes 125) (ms ≡ ns)
  same_members no_members no_members a b x y p q sx sy e = same_whitespace 125 refl refl a b x y p q sx sy e
  same_members no_members (member r u ns) a b x y p q sx sy e = absurd (no_member r a y p q sx e)
  same_members (member s t ms) no_members a b x y p q sx sy e = absurd (no_member s b x q p sy (sym e))
  same_members (member s t ms) (member r u ns) a b x y p q sx sy e =
      let both = same_then 125 (more_members_end ms) (more_members_end ns)
      (same_named (spaced_name s r) (same_spaced (value_heads t) (value_heads u) (same_value t u)))
      (same_more_members ms ns) a b x y p q sx sy e in
      (cc (both.0.0.0, both.0.0.1, both.0.1), both.1)

  same_more_members : (ms ns : Members) → Prefix (AreMoreMembers ms) (AreMoreMembers ns) (Closes 125) (ms ≡ ns)
  same_more_members no_members no_members a b x y p q sx sy e = (refl, same_word [] p q e)
  same_more_members no_members (member r u ns) a b x y p q sx sy e = absurd (no_more y p q.1 sx (λ n. omega arith) e)
  same_more_members (member s t ms) no_members a b x y p q sx sy e = absurd (no_more x q p.1 sy (λ n. omega arith) (sym e))
  same_more_members (member s t ms) (member r u ns) a b x y p q sx sy e =
      let f : ◌≡◌ {A = List ℕ} (44 ∷ (p.0 ++ x)) (44 ∷ (q.0 ++ y)) = ap (λ z. z ++ x) (sym p.1) ∙ e ∙ ap (λ z. z ++ y) q.1 in
      let g : p.0 ++ x ≡ q.0 ++ y = cc in
      let both = same_then 125 (more_members_end ms) (more_members_end ns)
      (same_named (spaced_name s r) (same_spaced (value_heads t) (value_heads u) (same_value t u)))
      (same_more_members ms ns) p.0 q.0 x y p.2 q.2 sx sy g in
      (cc (both.0.0.0, both.0.0.1, both.0.1), both.1)

-- a text has one tree at most
pub one_tree : (b : List ℕ) (t u : Tree) → IsJson b t → IsJson b u → t ≡ u
one_tree b t u p q = (same_spaced (value_heads t) (value_heads u) (same_value t u) b b [] [] p q tt tt refl).0

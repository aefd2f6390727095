-- If a text spells a list of events, the list begins with the events of a tree, and the text begins with a spelling
-- of that tree. By recursion over the number of events: `find_value`, `find_elements` and `find_members` each find
-- one construct, and the events and the text that it leaves.
use Rattle.std.proofs.Common.{◌≡◌, ℕ, zero, suc, ◌≤◌, List, [], ◌∷◌, ◌++◌, length, refl, sym, ap, ◌∙◌, append_assoc}
use Rattle.std.proofs.Common.{append-nil, arith, length-append}
use Rattle.miniserde_model.specs.Tree.{Tree, null, truth, nonneg, neg, num, str, list, members, Trees, no_trees}
use Rattle.miniserde_model.specs.Tree.{tree, Members, no_members, member}
use Rattle.miniserde_model.specs.String.{IsString}
use Rattle.miniserde_model.specs.Whitespace.{IsWhitespace}
use Rattle.miniserde_model.specs.Value.{Spaced, Named, IsValue, AreElements, AreMoreElements, AreMembers, AreMoreMembers, IsJson}
use Rattle.miniserde_model.specs.Step.{Step, boolean, string, negative, nonnegative, float, seq, element, map, key}
use Rattle.miniserde_model.specs.Step.{finish, events, child_events, member_events}
use Rattle.miniserde_model.specs.Step as step
use Rattle.miniserde_model.specs.Lexing.{IsName, IsByte}
use Rattle.miniserde_model.specs.declared.kind.Kind.{Kind}
use Rattle.miniserde_model.specs.declared.kind.Kind.TheVariants.{Seq, Map}
use Rattle.miniserde_model.specs.private.Reading.{due, first, after, Spells, StandsThen}

-- the events es begin with those of a tree, and b with whitespace and a spelling of that tree
pub record FoundValue (es : List Step) (st : List Kind) (b : List ℕ) : Type 0 where
  pub found : Tree
  pub left : List Step
  pub space : List ℕ
  pub value : List ℕ
  pub rest : List ℕ
  pub is : es ≡ events found ++ left
  pub text : b ≡ space ++ (value ++ rest)
  pub white : IsWhitespace space
  pub is_value : IsValue found value
  pub is_rest : Spells after left st rest

-- the events es begin with those of elements and `finish`, and b with their spelling and `]`
pub record FoundElements (es : List Step) (st : List Kind) (b : List ℕ) : Type 0 where
  found : Trees
  left : List Step
  inside : List ℕ
  rest : List ℕ
  is : es ≡ child_events found ++ finish ∷ left
  text : b ≡ inside ++ 93 ∷ rest
  is_inside : AreElements found inside
  is_rest : Spells after left st rest

pub record FoundMore (es : List Step) (st : List Kind) (b : List ℕ) : Type 0 where
  found : Trees
  left : List Step
  space : List ℕ
  more : List ℕ
  rest : List ℕ
  is : es ≡ child_events found ++ finish ∷ left
  text : b ≡ space ++ (more ++ 93 ∷ rest)
  white : IsWhitespace space
  is_more : AreMoreElements found more
  is_rest : Spells after left st rest

-- the events es begin with those of members and `finish`, and b with their spelling and `}`
pub record FoundMembers (es : List Step) (st : List Kind) (b : List ℕ) : Type 0 where
  found : Members
  left : List Step
  inside : List ℕ
  rest : List ℕ
  is : es ≡ member_events found ++ finish ∷ left
  text : b ≡ inside ++ 125 ∷ rest
  is_inside : AreMembers found inside
  is_rest : Spells after left st rest

pub record FoundMoreMembers (es : List Step) (st : List Kind) (b : List ℕ) : Type 0 where
  found : Members
  left : List Step
  space : List ℕ
  more : List ℕ
  rest : List ℕ
  is : es ≡ member_events found ++ finish ∷ left
  text : b ≡ space ++ (more ++ 125 ∷ rest)
  white : IsWhitespace space
  is_more : AreMoreMembers found more
  is_rest : Spells after left st rest

shorter : (n : ℕ) (es : List Step) (st : List Kind) (b : List ℕ) (v : FoundValue es st b) → length es ≤ n → length v.left ≤ n
shorter n es st b v h = omega (arith, ap length v.is, length-append (events v.found) v.left)

padded : (t : Tree) (x v y : List ℕ) → IsWhitespace x → IsValue t v → IsWhitespace y → Spaced (IsValue t) (x ++ (v ++ y))
padded t x v y h p k = record { before = x; inner = v; after = y; text = refl; is_before = h; is_inner = p; is_after = k }

-- the text of a container, which begins with the byte c and ends with the byte z
opened : {c : ℕ} (z : ℕ) {K : List ℕ → Type 0} {b : List ℕ} (p : StandsThen (IsByte c) K b) (inside more : List ℕ)
    → p.rest ≡ inside ++ z ∷ more → b ≡ p.space ++ ((c ∷ (inside ++ z ∷ [])) ++ more)
opened {c = c} z p inside more r = p.text ∙ ap (λ x. p.space ++ (x ++ p.rest)) p.is_part ∙ ap (λ x. p.space ++ (c ∷ x))
    (r ∙ sym (append_assoc inside (z ∷ []) more))

-- the text of a value and of more behind it, up to the byte z
joined : (z : ℕ) {es : List Step} {st : List Kind} {b : List ℕ} (v : FoundValue es st b) (y m rest : List ℕ)
    → v.rest ≡ y ++ (m ++ z ∷ rest) → b ≡ ((v.space ++ (v.value ++ y)) ++ m) ++ z ∷ rest
joined z v y m rest f = v.text ∙ ap (λ s. v.space ++ (v.value ++ s)) f ∙ simp append_assoc

events_joined : (e : Step) {es gs : List Step} (fs hs left : List Step) → es ≡ fs ++ gs → gs ≡ hs ++ finish ∷ left
    → e ∷ es ≡ (e ∷ (fs ++ hs)) ++ finish ∷ left
events_joined e fs hs left p q = ap (λ z. e ∷ z) (p ∙ ap (λ z. fs ++ z) q ∙ sym (append_assoc fs hs (finish ∷ left)))

named : {V : List ℕ → Type 0} (name x part y : List ℕ) → IsWhitespace x → IsName name part → Spaced V y
    → (m : List ℕ) × (Named (λ n. IsString n name) V m) × (m ≡ x ++ (part ++ y))
named name x part y h p v =
    let flat : (x ++ (p.spelled ++ p.space)) ++ 58 ∷ y ≡ x ++ ((p.spelled ++ (p.space ++ 58 ∷ [])) ++ y) = simp append_assoc in (
      (x ++ (p.spelled ++ p.space)) ++ 58 ∷ y,
      record {
        name = x ++ (p.spelled ++ p.space);
        value = y;
        text = refl;
        is_name =
            record {
              before = x;
              inner = p.spelled;
              after = p.space;
              text = refl;
              is_before = h;
              is_inner =
                  p.is_spelled;
              is_after = p.white;
            };
        is_value = v;
      },
      flat ∙ ap (λ z. x ++ (z ++ y)) (sym p.text),
    )

-- the text of a member and of more behind it, up to the byte z: the part of p is the member's name, y the text of its
-- value with the whitespace around, and m the text of the member
joined_member : (z : ℕ) {P K : List ℕ → Type 0} {b : List ℕ} (p : StandsThen P K b) (y more rest : List ℕ) {m : List ℕ}
    → m ≡ p.space ++ (p.part ++ y) → p.rest ≡ (y ++ more) ++ z ∷ rest → b ≡ (m ++ more) ++ z ∷ rest
joined_member z p y more rest f g =
    let flat : p.space ++ (p.part ++ ((y ++ more) ++ z ∷ rest)) ≡ ((p.space ++ (p.part ++ y)) ++ more) ++ z ∷ rest
    = simp append_assoc in
    p.text ∙ ap (λ s. p.space ++ (p.part ++ s)) g ∙ flat ∙ ap (λ s. (s ++ more) ++ z ∷ rest) (sym f)

-- a text that begins with a comma, by what is behind that
comma_text : {K : List ℕ → Type 0} {b : List ℕ} (p : StandsThen (IsByte 44) K b) (tail : List ℕ) → p.rest ≡ tail
    → b ≡ p.space ++ (44 ∷ tail)
comma_text p tail r = p.text ∙ ap (λ z. p.space ++ (z ++ p.rest)) p.is_part ∙ ap (λ z. p.space ++ (44 ∷ z)) r

mutual
  pub find_value : (n : ℕ) (es : List Step) (st : List Kind) (b : List ℕ) → length es ≤ n → Spells due es st b → FoundValue es st b
  find_value n (step.null ∷ es) st b h p =
      record {
        found = null;
        left = es;
        space = p.space;
        value = p.part;
        rest = p.rest;
        is = refl;
        text =
            p.text;
        white = p.white;
        is_value = p.is_part;
        is_rest = p.is_rest;
      }
  find_value n (boolean x ∷ es) st b h p =
      record {
        found = truth x;
        left = es;
        space = p.space;
        value = p.part;
        rest = p.rest;
        is = refl;
        text =
            p.text;
        white = p.white;
        is_value = p.is_part;
        is_rest = p.is_rest;
      }
  find_value n (string s ∷ es) st b h p =
      record {
        found = str s;
        left = es;
        space = p.space;
        value = p.part;
        rest = p.rest;
        is = refl;
        text =
            p.text;
        white = p.white;
        is_value = p.is_part;
        is_rest = p.is_rest;
      }
  find_value n (negative z ∷ es) st b h p =
      record {
        found = neg z;
        left = es;
        space = p.space;
        value = p.part;
        rest = p.rest;
        is = refl;
        text =
            p.text;
        white = p.white;
        is_value = p.is_part;
        is_rest = p.is_rest;
      }
  find_value n (nonnegative m ∷ es) st b h p =
      record {
        found = nonneg m;
        left = es;
        space = p.space;
        value = p.part;
        rest = p.rest;
        is = refl;
        text =
            p.text;
        white = p.white;
        is_value = p.is_part;
        is_rest = p.is_rest;
      }
  find_value n (float x ∷ es) st b h p =
      record {
        found = num x;
        left = es;
        space = p.space;
        value = p.part;
        rest = p.rest;
        is = refl;
        text =
            p.text;
        white = p.white;
        is_value = p.is_part;
        is_rest = p.is_rest;
      }
  find_value (suc n) (seq ∷ es) st b h p =
      let f = find_elements n es st p.rest (omega arith) p.is_rest in
      record {
        found = list f.found;
        left = f.left;
        space = p.space;
        value = 91 ∷ (f.inside ++ 93 ∷ []);
        rest =
            f.rest;
        is = ap (λ z. seq ∷ z) (f.is ∙ sym (append_assoc (child_events f.found) (finish ∷ []) f.left));
        text = opened 93 p f.inside f.rest f.text;
        white =
            p.white;
        is_value = record { inside = f.inside; text = refl; is_inside = f.is_inside };
        is_rest =
            f.is_rest;
      }
  find_value (suc n) (map ∷ es) st b h p =
      let f = find_members n es st p.rest (omega arith) p.is_rest in
      record {
        found = members f.found;
        left = f.left;
        space = p.space;
        value = 123 ∷ (f.inside ++ 125 ∷ []);
        rest =
            f.rest;
        is = ap (λ z. map ∷ z) (f.is ∙ sym (append_assoc (member_events f.found) (finish ∷ []) f.left));
        text = opened 125 p f.inside f.rest f.text;
        white =
            p.white;
        is_value = record { inside = f.inside; text = refl; is_inside = f.is_inside };
        is_rest =
            f.is_rest;
      }
  find_value zero (seq ∷ es) st b h p = absurd (omega arith)
  find_value zero (map ∷ es) st b h p = absurd (omega arith)
  find_value n _ st b h p = absurd p

  find_elements : (n : ℕ) (es : List Step) (st : List Kind) (b : List ℕ) → length es ≤ n
      → Spells first es (Seq ∷ st) b → FoundElements es st b
  find_elements n (finish ∷ es) st b h p =
      record {
        found = no_trees;
        left = es;
        inside = p.space;
        rest = p.rest;
        is = refl;
        text =
            p.text ∙ ap (λ z. p.space ++ (z ++ p.rest)) p.is_part;
        is_inside = p.white;
        is_rest = p.is_rest;
      }
  find_elements (suc n) (element ∷ es) st b h p =
      let v = find_value n es (Seq ∷ st) b (omega arith) p in
      let m = find_more n v.left st v.rest (shorter n es _ b v (omega arith)) v.is_rest in
      record {
        found = tree v.found m.found;
        left = m.left;
        inside = (v.space ++ (v.value ++ m.space)) ++ m.more;
        rest = m.rest;
        is = events_joined element (events v.found) (child_events m.found) m.left v.is
            m.is;
        text = joined 93 v m.space m.more m.rest m.text;
        is_inside =
            record {
              first = v.space ++ (v.value ++ m.space);
              rest = m.more;
              text = refl;
              is_first =
                  padded v.found v.space v.value m.space v.white v.is_value m.white;
              is_rest = m.is_more;
            };
        is_rest = m.is_rest;
      }
  find_elements zero (element ∷ es) st b h p = absurd (omega arith)
  find_elements n _ st b h p = absurd p

  find_more : (n : ℕ) (es : List Step) (st : List Kind) (b : List ℕ) → length es ≤ n → Spells after es (Seq ∷ st) b → FoundMore es st b
  find_more n (finish ∷ es) st b h p =
      record {
        found = no_trees;
        left = es;
        space = p.space;
        more = [];
        rest = p.rest;
        is = refl;
        text =
            p.text ∙ ap (λ z. p.space ++ (z ++ p.rest)) p.is_part;
        white = p.white;
        is_more = refl;
        is_rest =
            p.is_rest;
      }
  find_more (suc n) (element ∷ es) st b h p =
      let v = find_value n es (Seq ∷ st) p.rest (omega arith) p.is_rest in
      let m = find_more n v.left st v.rest (shorter n es _ p.rest v (omega arith)) v.is_rest in
      let c = (v.space ++ (v.value ++ m.space)) ++ m.more in
      let tail : p.rest ≡ c ++ 93 ∷ m.rest = joined 93 v m.space m.more m.rest m.text in
      record {
        found = tree v.found m.found;
        left = m.left;
        space = p.space;
        more = 44 ∷ c;
        rest = m.rest;
        is =
            events_joined element (events v.found) (child_events m.found) m.left v.is m.is;
        text =
            comma_text p (c ++ 93 ∷ m.rest) tail;
        white =
            p.white;
        is_more = (
          c,
          refl,
          record {
            first = v.space ++ (v.value ++ m.space);
            rest = m.more;
            text = refl;
            is_first =
                padded v.found v.space v.value m.space v.white v.is_value m.white;
            is_rest = m.is_more;
          },
        );
        is_rest = m.is_rest;
      }
  find_more zero (element ∷ es) st b h p = absurd (omega arith)
  find_more n _ st b h p = absurd p

  find_members : (n : ℕ) (es : List Step) (st : List Kind) (b : List ℕ) → length es ≤ n
      → Spells first es (Map ∷ st) b → FoundMembers es st b
  find_members n (finish ∷ es) st b h p =
      record {
        found = no_members;
        left = es;
        inside = p.space;
        rest = p.rest;
        is = refl;
        text =
            p.text ∙ ap (λ z. p.space ++ (z ++ p.rest)) p.is_part;
        is_inside = p.white;
        is_rest = p.is_rest;
      }
  find_members (suc n) (key s ∷ es) st b h p =
      let v = find_value n es (Map ∷ st) p.rest (omega arith) p.is_rest in
      let m = find_more_members n v.left st v.rest (shorter n es _ p.rest v (omega arith)) v.is_rest in
      let d = named s p.space p.part (v.space ++ (v.value ++ m.space)) p.white p.is_part
      (padded v.found v.space v.value m.space v.white v.is_value m.white) in
      record {
        found = member s v.found m.found;
        left = m.left;
        inside = d.0 ++ m.more;
        rest = m.rest;
        is =
            events_joined (key s) (events v.found) (member_events m.found) m.left v.is m.is;
        text =
            joined_member 125 p (v.space ++ (v.value ++ m.space)) m.more m.rest d.2
            (joined 125 v m.space m.more m.rest m.text);
        is_inside =
            record { first = d.0; rest = m.more; text = refl; is_first = d.1; is_rest = m.is_more };
        is_rest =
            m.is_rest;
      }
  find_members zero (key s ∷ es) st b h p = absurd (omega arith)
  find_members n _ st b h p = absurd p

  find_more_members : (n : ℕ) (es : List Step) (st : List Kind) (b : List ℕ) → length es ≤ n
      → Spells after es (Map ∷ st) b → FoundMoreMembers es st b
  find_more_members n (finish ∷ es) st b h p =
      record {
        found = no_members;
        left = es;
        space = p.space;
        more = [];
        rest = p.rest;
        is = refl;
        text =
            p.text ∙ ap (λ z. p.space ++ (z ++ p.rest)) p.is_part;
        white = p.white;
        is_more = refl;
        is_rest =
            p.is_rest;
      }
  find_more_members (suc n) (key s ∷ es) st b h q =
      let p = q.is_rest in
      let v = find_value n es (Map ∷ st) p.rest (omega arith) p.is_rest in
      let m = find_more_members n v.left st v.rest (shorter n es _ p.rest v (omega arith)) v.is_rest in
      let d = named s p.space p.part (v.space ++ (v.value ++ m.space)) p.white p.is_part
      (padded v.found v.space v.value m.space v.white v.is_value m.white) in
      let tail : q.rest ≡ (d.0 ++ m.more) ++ 125 ∷ m.rest =
      joined_member 125 p (v.space ++ (v.value ++ m.space)) m.more m.rest d.2
      (joined 125 v m.space m.more m.rest m.text) in
      record {
        found = member s v.found m.found;
        left = m.left;
        space = q.space;
        more = 44 ∷ (d.0 ++ m.more);
        rest =
            m.rest;
        is = events_joined (key s) (events v.found) (member_events m.found) m.left v.is m.is;
        text = comma_text q ((d.0 ++ m.more) ++ 125 ∷ m.rest) tail;
        white = q.white;
        is_more = (
          d.0 ++ m.more,
          refl,
          record {
            first = d.0;
            rest = m.more;
            text = refl;
            is_first = d.1;
            is_rest =
                m.is_more;
          },
        );
        is_rest = m.is_rest;
      }
  find_more_members zero (key s ∷ es) st b h p = absurd (omega arith)
  find_more_members n _ st b h p = absurd p

-- after a value outside all containers, the text spells no event and is whitespace
pub no_events_left : (es : List Step) (b : List ℕ) → Spells after es [] b → (es ≡ []) × IsWhitespace b
no_events_left [] b p = (refl, p)
no_events_left (e ∷ es) b p = absurd (go e p)
  where
    go : (d : Step) → Spells after (d ∷ es) [] b → ⊥
    go element q = q
    go _ q = q

-- what spells a list of events spells a tree, of which they are the events
pub spells_json : (es : List Step) (b : List ℕ) → Spells due es [] b → (t : Tree) × (es ≡ events t) × IsJson b t
spells_json es b p =
    let v = find_value (length es) es [] b (omega arith) p in
    let end = no_events_left v.left v.rest v.is_rest in (
      v.found,
      v.is ∙ ap (λ z. events v.found ++ z) end.0 ∙ append-nil (events v.found),
      record {
        before = v.space;
        inner = v.value;
        after = v.rest;
        text = v.text;
        is_before =
            v.white;
        is_inner = v.is_value;
        is_after = end.1;
      },
    )

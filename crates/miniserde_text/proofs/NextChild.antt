-- What stands next in a container is one thing: its closing bracket or a child, and behind either the text is unique.
-- By cases on whether the container was just opened; the first byte after whitespace decides.
use Rattle.std.proofs.Common.{◌≡◌, ℕ, Bool, true, false, List, [], ◌++◌, refl, sym, ap, subst, ◌∙◌, arith}
use Rattle.miniserde_model.specs.Bytes.{StopsAt, is_space}
use Rattle.miniserde_model.specs.Lexing.{IsByte, Stands, closing, Begins, Follows}
use Rattle.miniserde_model.specs.declared.kind.Kind.{Kind}
use Rattle.miniserde_model.specs.declared.kind.Kind.TheVariants.{Seq, Map}
use Rattle.miniserde_model.proofs.LongestRuns.{same_run}
use Rattle.miniserde_model.proofs.Prefixes.{space_run}
use Rattle.miniserde_text.proofs.FirstEvents.{First, same_first, first_byte, begins_first}

-- if s has the empty part after whitespace, s is that whitespace and then r
pub bare : (s r : List ℕ) (p : Stands (λ b. b ≡ []) s r) → s ≡ p.space ++ r
bare s r p = p.text ∙ ap (λ z. p.space ++ (z ++ r)) p.is_part

-- a text that begins a child does not begin with whitespace
pub begins_stops : (r : List ℕ) → Begins r → StopsAt is_space r
begins_stops r b = subst (StopsAt is_space) (sym b.text) b.no_space

closing_no_space : (k : Kind) → is_space (closing k) ≡ false
closing_no_space Seq = refl
closing_no_space Map = refl

closing_no_comma : (k : Kind) → closing k ≡ 44 → ⊥
closing_no_comma Seq e = omega (arith, e)
closing_no_comma Map e = omega (arith, e)

not_closing : (k : Kind) (r : List ℕ) (b : Begins r) → b.byte ≡ closing k → ⊥
not_closing Seq r b e = b.no_list_end e
not_closing Map r b e = b.no_members_end e

closing_first : (k : Kind) {s r : List ℕ} → Stands (IsByte (closing k)) s r → First s (closing k) r
closing_first k p = first_byte (closing k) (closing_no_space k) p

-- the text behind the next closing bracket of a container is unique
pub close_same : (k : Kind) (f : Bool) (s r x : List ℕ) → Follows k f true s r → Follows k f true s x → r ≡ x
close_same k f s r x p q = (same_first (closing_first k p) (closing_first k q)).1

-- the text from the next child of a container on is unique
pub next_same : (k : Kind) (f : Bool) (s r x : List ℕ) → Follows k f false s r → Follows k f false s x → r ≡ x
next_same k true s r x p q =
    (same_run (space_run (bare s r p.0) p.0.white (begins_stops r p.1))
    (space_run (bare s x q.0) q.0.white (begins_stops x q.1))).1
next_same k false s r x p q = (same_first (first_byte 44 refl p) (first_byte 44 refl q)).1

-- a closing bracket and a child are not both next in a container
pub close_no_next : (k : Kind) (f : Bool) (s r x : List ℕ) → Follows k f true s r → Follows k f false s x → ⊥
close_no_next k true s r x p q = not_closing k x q.1 (same_first (begins_first q.0 q.1) (closing_first k p)).0
close_no_next k false s r x p q = closing_no_comma k (same_first (closing_first k p) (first_byte 44 refl q)).0

-- The text gets shorter where a value is read (`due_less`), and where no value is due, no element is (`element_rejects`).
-- `due_front` goes from the first token that a text has to the one that was taken.
use Rattle.std.proofs.Common.{ℕ, ◌<◌, Bool, false, List, length, Option, refl, subst, arith}
use Rattle.miniserde_model.specs.Tree.{Tree, no_trees, tree}
use Rattle.miniserde_model.specs.Step.{Step}
use Rattle.miniserde_model.specs.Lexing.{Starts, Follows}
use Rattle.miniserde_model.specs.declared.kind.Kind.TheVariants.{Seq}
use Rattle.miniserde_read.specs.Rest.{ValueAt, GivesAt, GivesNoneAt}
use Rattle.miniserde_text.proofs.FirstEvents.{start_less, same_start}
use Rattle.miniserde_read.proofs.Length.{value_least}
use Rattle.miniserde_text.proofs.NextChild.{next_same, close_no_next}
use Rattle.miniserde_read.specs.Due.{ReadsDue, RejectsDue, ElementRejects}

-- the text behind a value that was due is shorter than the text before it
pub due_less : {S : Type 0} {next : Tree → Option S} {s r : List ℕ} {m : S} → ReadsDue next s r m → length r < length s
due_less {s = s} {r = r} p =
    let a = start_less s p.event p.behind p.starts in
    let b = value_least p.one p.event p.behind r p.is_value in
    omega (arith, a, b)

-- what stands at the front has the event that was taken
pub due_front : {s b c : List ℕ} (r : List ℕ) (d e : Step) (t : Tree) → Starts s e c → Starts s d b → ValueAt t d b r → ValueAt t e c r
due_front {s = s} {b = b} {c = c} r d e t k h v =
    let one = same_start s d e b c h k in
    subst (λ z. ValueAt t z c r) one.0 (subst (λ z. ValueAt t d z r) one.1 v)

-- what gives a content behind the first token, gives it where it was due
pub due_reads : {C : Type 0} (of : Tree → Option C) {s c r : List ℕ} (e : Step) {v : C} → Starts s e c → GivesAt of e c r v
    → ReadsDue of s r v
due_reads of {c = c} e k p = record { one = p.0; event = e; behind = c; starts = k; is_value = p.1; gives = p.2 }

-- what gives nothing behind the first token, gives nothing where it was due
pub due_rejects : {C : Type 0} (of : Tree → Option C) (s c : List ℕ) (e : Step) → Starts s e c → GivesNoneAt of e c → RejectsDue of s
due_rejects of s c e k n t d b r h v = n t r (due_front r d e t k h v)

-- the value that is due is the first element
pub element_rejects : {C : Type 0} (of : Tree → Option C) (f : Bool) (s b : List ℕ) → Follows Seq f false s b → RejectsDue of b
    → ElementRejects of f s
element_rejects of f s b h n no_trees r p = absurd (close_no_next Seq f s r b p h)
element_rejects of f s b h n (tree t us) r p = (
  t,
  us,
  refl,
  n t p.event p.behind p.rest
      (subst (λ z. Starts z p.event p.behind) (next_same Seq f s p.begin b p.follows h) p.starts) p.is_value,
)

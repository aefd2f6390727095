-- The front of a value is the event of a tree.
use Rattle.std.proofs.Common.{ℕ, List}
use Rattle.miniserde_model.specs.Tree.{neg, num}
use Rattle.miniserde_model.specs.Step.{Step, boolean, string, negative, nonnegative, float, seq, element, map, key, finish}
use Rattle.miniserde_model.specs.Step as step
use Rattle.miniserde_model.specs.Lexing.{Piece, Starts}
use Rattle.miniserde_model.proofs.Accepted.{value_tree}
use Rattle.miniserde_read.specs.Events.{EventInRange}

piece_event : (e : Step) (b : List ℕ) → Piece e b → EventInRange e
piece_event step.null b p = tt
piece_event (boolean x) b p = tt
piece_event (string x) b p = tt
piece_event (negative n) b p = (value_tree (neg n) b p).0
piece_event (nonnegative n) b p = tt
piece_event (float x) b p = value_tree (num x) b p
piece_event seq b p = tt
piece_event map b p = tt
piece_event element b p = tt
piece_event (key s) b p = tt
piece_event finish b p = tt

-- the event with which a text starts a value is in range
pub start_event : (s : List ℕ) (e : Step) (r : List ℕ) → Starts s e r → EventInRange e
start_event s e r p = piece_event e p.0.part p.0.is_part

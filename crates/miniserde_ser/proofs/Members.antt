-- The text of an object grows by a member at its end.
use Rattle.std.proofs.Common.{◌≡◌, ℕ, ◌<◌, List, [], ◌∷◌, ◌++◌, length, Bool, true, false, cond, refl}
use Rattle.std.proofs.Common.{append_assoc, ap, arith, length-append, IsUtf8}
use Rattle.std.proofs.lemmas.List.{append-nil}
use Rattle.miniserde_model.specs.Tree.{Tree}
use Rattle.miniserde_model.specs.Compact.{compact, string_text, compact_members, compact_more_members}
use Rattle.miniserde_model.specs.InRange.{InRange, MembersInRange}
use Rattle.miniserde_ser.specs.Trees.{members_of}
use Rattle.miniserde_ser.specs.Writer.{WriterView, with_first_flag, after_append}

module _ {K V : Type 0} (text : K → List ℕ) (f : V → Tree) where
  compact_more_members-snoc : (es : List (K × V)) (e : K × V)
      → compact_more_members (members_of text f (es ++ e ∷ [])) ≡ compact_more_members (members_of text f es)
      ++ (44 ∷ []) ++ (string_text (text e.0) ++ 58 ∷ compact (f e.1))
  compact_more_members-snoc [] e = grind (arith, append_assoc {A = ℕ}, append-nil {A = ℕ})
  compact_more_members-snoc (d ∷ es) e = grind (arith, append_assoc {A = ℕ}, compact_more_members-snoc es e)

  -- the comma stands before each member but the first
  compact_members-snoc : (es : List (K × V)) (e : K × V) (b : Bool) → (length es ≡ 0 → b ≡ true)
      → (0 < length es → b ≡ false) → compact_members (members_of text f (es ++ e ∷ [])) ≡ compact_members
      (members_of text f es) ++ (cond b [] (44 ∷ []) ++ (string_text (text e.0) ++ 58 ∷ compact (f e.1)))
  compact_members-snoc [] e b s n = rw (s refl) (grind (arith, append-nil {A = ℕ}))
  compact_members-snoc (d ∷ es) e b s n = let later : b ≡ false = n (omega arith) in
      rw later (grind (arith, append_assoc {A = ℕ}, compact_more_members-snoc es e))

  -- what a turn of a loop over entries appends
  compact_members_step : (es : List (K × V)) (e : K × V) {b : Bool} (pre : List ℕ) {old mid new : List ℕ}
      → old ≡ pre ++ compact_members (members_of text f es) → (length es ≡ 0 → b ≡ true) → (0 < length es → b ≡ false)
      → mid ≡ old ++ ((cond b [] (44 ∷ []) ++ string_text (text e.0)) ++ 58 ∷ []) → new ≡ mid ++ compact (f e.1)
      → new ≡ pre ++ compact_members (members_of text f (es ++ e ∷ []))
  compact_members_step es e {b = b} pre is s n m w = rw (w, m, is, compact_members-snoc es e b s n) (simp append_assoc refl)

  -- the members so far have trees, and names that are texts
  MembersInRange_step : (es : List (K × V)) (e : K × V) → MembersInRange (members_of text f es)
      → IsUtf8 (text e.0) → InRange (f e.1) → MembersInRange (members_of text f (es ++ e ∷ []))
  MembersInRange_step [] e h u r = (u, r, tt)
  MembersInRange_step (d ∷ es) e h u r = (h.0, h.1, MembersInRange_step es e h.2 u r)

  -- A writer that was `old` has written `{` and the members of the entries es, which are in range, and has not failed. Its
  -- flag `first` is true before the first member and false after it.
  pub record MembersWritten (old : WriterView) (es : List (K × V)) (new : WriterView) : Type 0 where
    pub is : new.text ≡ (old.text ++ 123 ∷ []) ++ compact_members (members_of text f es)
    pub all_in_range : MembersInRange (members_of text f es)
    pub start : length es ≡ 0 → new.first ≡ true
    pub later : 0 < length es → new.first ≡ false
    pub unrefused : new.refused ≡ false
    pub was_running : old.refused ≡ false

  -- a turn of a loop over entries: the name of the entry e is written, and then its tree
  pub MembersWritten_step : (es : List (K × V)) (e : K × V) {old w named new : WriterView} → MembersWritten old es w
      → named ≡ with_first_flag (after_append w ((cond w.first [] (44 ∷ []) ++ string_text (text e.0)) ++ 58 ∷ []) named.capacity) false
      → IsUtf8 (text e.0) → new.text ≡ named.text ++ compact (f e.1) → InRange (f e.1)
      → (named.first ≡ false → new.first ≡ false) → new.refused ≡ false → MembersWritten old (es ++ e ∷ []) new
  MembersWritten_step es e h name u t r first ok = record {
    is = compact_members_step es e _ h.is h.start h.later (ap (λ s. s.text) name) t;
    all_in_range = MembersInRange_step es e h.all_in_range u r;
    start = λ z. absurd (omega (arith, length-append es (e ∷ []), z));
    later = λ _. first (ap (λ s. s.first) name);
    unrefused = ok;
    was_running = h.was_running;
  }

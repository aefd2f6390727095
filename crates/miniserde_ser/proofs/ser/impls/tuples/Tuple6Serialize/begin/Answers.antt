-- After `[` and the first item each call of `write_later` appends one piece, and `]` is the last piece (`appends_text`).
-- Joined by `append_assoc`, the pieces are the compact text of the tuple.
use Rattle.std.proofs.Common.{◌≡◌, ◌++◌, ◌∷◌, [], ap, refl, append_assoc}
use Rattle.miniserde_ser.proofs.Items.{appends_text}
use Rattle.miniserde_ser.proofs.ser.impls.tuples.Tuple6Serialize.begin.Goals as goal

pub returns-clause-ok : goal.returns-clause-ok
returns-clause-ok g c =
    let opened : c.punctuate.new.self.text ≡ c.args.w.now.text ++ 91 ∷ [] = ap (λ s. s.text) c.in_ok-punctuate.ensures.ok in
    appends_text c.append_mark.ensures
    (rw (
      c.in_ok-write_later-5.ensures.ok,
      c.in_ok-write_later-4.ensures.ok,
      c.in_ok-write_later-3.ensures.ok,
      c.in_ok-write_later-2.ensures.ok,
      c.in_ok-write_later.ensures.ok,
      c.in_ok-begin.ensures.ok,
      opened,
    ) (simp append_assoc refl))

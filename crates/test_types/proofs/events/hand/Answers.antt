-- `1.5` is a number text, and is kept as it is.
use Rattle.std.proofs.Common.{[], ◌∷◌, refl, arith, inl, inr}
use Rattle.miniserde.specs.Number.{IsNumberText, leaf}
use Rattle.test_types.proofs.events.hand.Goals as goal

one_and_a_half : IsNumberText (49 ∷ 46 ∷ 53 ∷ [])
one_and_a_half = record {
  minus = [];
  int = 49 ∷ [];
  fraction = 46 ∷ 53 ∷ [];
  exponent = [];
  text = refl;
  is_minus = inl refl;
  is_int = inr ((omega arith, omega arith), tt);
  is_fraction = inr (53 ∷ [], refl, (omega arith, ((omega arith, omega arith), tt)));
  is_exponent = inl refl;
}

pub float-requires : goal.float-requires
unfolding leaf
float-requires g c = (one_and_a_half, refl)

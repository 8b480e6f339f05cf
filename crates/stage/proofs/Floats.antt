-- A whole number goes to an f64 number and comes back as it went.
use Rattle.std.proofs.Common.{◌≡◌, ◌^◌, ◌<◌, Bool, true, false, T, refl, ℤ, pos, negsuc, arith, le→leb, lt→ltb, w32, SFits, to_z, of_z}
use Rattle.std.proofs.lemmas.Int.{to_z-of_z}
use lib.Signed.{mag}
use lib.Ieee.{binary64, of_int, in_float, in_signed, to_signed}
use lib.Ieee.Back.{positive_back, negative_back}
use lib.Ieee.Casts.{to_signed_in}

in_float_lem : (z : ℤ) → mag z < 2 ^ 31 → T (in_float binary64 z)
unfolding in_float
in_float_lem (pos n) h = le→leb n (2 ^ 53) (omega arith)
in_float_lem (negsuc n) h = lt→ltb n (2 ^ 53) (omega arith)

pub there_and_back : (z : ℤ) → mag z < 2 ^ 31 → T (in_signed binary64 31 (of_int binary64 z)) × (to_signed 31 (of_int binary64 z) ≡ z)
there_and_back (pos n) h = positive_back binary64 31 n (in_float_lem (pos n) h) (omega arith)
there_and_back (negsuc n) h = negative_back binary64 31 n (in_float_lem (negsuc n) h) (omega arith)

true_from_T : (b : Bool) → T b → b ≡ true
true_from_T true t = refl
true_from_T false t = elim t [ ]

-- of an i32 that is cast to f64
module _ (z : ℤ) (fits : SFits w32 z) where
  pub there : in_signed binary64 31 (of_int binary64 (to_z w32 (of_z w32 z))) ≡ true
  there = rw to_z-of_z (true_from_T (in_signed binary64 31 (of_int binary64 z)) (there_and_back z fits.sfits).0)

  pub back : to_signed 31 (of_int binary64 (to_z w32 (of_z w32 z))) ≡ z
  back = rw to_z-of_z (there_and_back z fits.sfits).1

-- of an f64 number that is cast to i32
pub cut : (x : _) → to_z w32 (of_z w32 (to_signed 31 x)) ≡ to_signed 31 x
cut x = to_z-of_z w32 (to_signed 31 x) (record { sfits = to_signed_in 31 x })

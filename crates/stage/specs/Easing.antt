-- The rule of travel of the easing axis. A share of the way is one product of two f64 numbers, rounded once, with its fraction dropped.
-- Assumes nothing.
use Rattle.std.specs.Prelude.{ℕ, cond, ◌&&◌, ℤ, pos, nat_le, Float}
use Rattle.std.specs.Float.Ieee as Ieee
use Rattle.std.specs.Float.{binary64}
use Rattle.drive.specs.declared.profile.Profile.{Profile}
use Rattle.stage.specs.declared.ease.Ease.{Ease}
use Rattle.stage.specs.declared.ease.Ease.TheVariants.{Stride, Share}
use Rattle.stage.specs.Travel.{way, toward}

-- the f64 number 0, by its bits
abbrev pub f64_zero : Float
f64_zero = Ieee.of_bits binary64 0

-- the f64 number 1, by its bits
abbrev pub f64_one : Float
f64_one = Ieee.of_bits binary64 0x3FF0_0000_0000_0000

-- the number that the fraction dropped leaves of an f64 number; 0 of what is not a number
abbrev pub whole_of : Float → ℕ
whole_of x = Ieee.to_unsigned 32 x

-- the f64 number of a whole number
abbrev pub f64_of : ℕ → Float
f64_of n = Ieee.of_int binary64 (pos n)

-- a stride that is whole from 1 to 2,000,000,000; any other acts as 1
abbrev pub stride_taken : Float → ℕ
stride_taken s = cond (nat_le 1 (whole_of s) && nat_le (whole_of s) 2000000000 && Ieee.eq (f64_of (whole_of s)) s) (whole_of s) 1

-- a share above 0 and at most 1; any other acts as 1
abbrev pub share_taken : Float → Float
share_taken q = cond (Ieee.lt f64_zero q && Ieee.le q f64_one) q f64_one

-- the step that is asked for where so much of the way is left
abbrev pub asked : Ease → ℕ → ℕ
asked (Stride s) left = stride_taken s
asked (Share q) left = whole_of (Ieee.mul binary64 (f64_of left) (share_taken q))

-- from p by a step toward t
abbrev pub eased : Ease → ℤ → ℤ → ℤ
eased e p t = toward p t (asked e (way p t))

-- the easing axis goes by its setting, whatever the profile
abbrev pub easing_travel : Ease → ℤ → ℤ → Profile → ℤ
easing_travel e p t q = eased e p t

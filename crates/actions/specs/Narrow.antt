-- Numbers made to fit. Assumes nothing.
use Rattle.std.specs.Prelude.{ℕ, ◌-◌, ◌^◌, cond, ◌&&◌, ℤ, pos, negsuc, int_le, nat_le}

-- a number that is not above the most; 0 for any other
abbrev pub fitting : ℕ → ℕ → ℕ
fitting most n = cond (nat_le n most) n 0

-- a position of 32 bits; 0 for any other value
abbrev pub as_position : ℤ → ℤ
as_position z = cond (int_le (negsuc (2 ^ 31 - 1)) z && int_le z (pos (2 ^ 31 - 1))) z (pos 0)

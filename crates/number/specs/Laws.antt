-- What is written is read again.
use Rattle.std.specs.Prelude.{◌≡◌, ℕ, ◌+◌, ◌/◌, ◌<◌, ◌≤◌, ℤ, pos, ◌-ℤ◌, ◌*ℤ◌, Some, MatchOption, unsigned_abs}
use Rattle.number.specs.Decimals.{read_decimal}
use Rattle.number.specs.Texts.{unit, setting_text, position_text}

-- a setting that a decimal can name, written and read again, is that setting
abbrev pub SettingAgain : ℤ → Type 0
SettingAgain z = unsigned_abs z ≤ 999999999999999 → read_decimal (setting_text z) ≡ Some z

-- how far two numbers of millionths are apart
abbrev pub distance : ℤ → ℤ → ℕ
distance a b = unsigned_abs (a -ℤ b)

-- m is the multiple of the unit u that is nearest to z; of two as near, the one farther from zero
pub record Nearest (u : ℕ) (z m : ℤ) : Type 0 where
  pub multiple : (q : ℤ) × (m ≡ q *ℤ pos u)
  pub nearest : (q : ℤ) → distance z m ≤ distance z (q *ℤ pos u)
  pub farther : (q : ℤ) → distance z m ≡ distance z (q *ℤ pos u) → unsigned_abs (q *ℤ pos u) ≤ unsigned_abs m

-- a position that stays below 1,000,000,000 units when it is rounded, written and read again, is the nearest multiple of its unit
abbrev pub PositionAgain : ℕ → ℤ → Type 0
PositionAgain k z = unsigned_abs z + unit k / 2 < 1000000000000000 → MatchOption (read_decimal (position_text k z)) ⊥ (λ m. Nearest (unit k) z m)

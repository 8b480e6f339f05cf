-- The rules of travel of the instant and the stepping axis, and the step that stepping and easing share. Assumes nothing.
use Rattle.std.specs.Prelude.{ℕ, ◌/◌, min, max, cond, ℤ, pos, ◌+ℤ◌, ◌-ℤ◌, int_lt, unsigned_abs}
use Rattle.drive.specs.declared.profile.Profile.{Profile}

-- the way left from p to t
abbrev pub way : ℤ → ℤ → ℕ
way p t = unsigned_abs (t -ℤ p)

-- a step: what the rule asks for, raised to 1 if less, then cut to the way left
abbrev pub held : ℕ → ℕ → ℕ
held n left = min (max n 1) left

-- from p by a step toward t
abbrev pub toward : ℤ → ℤ → ℕ → ℤ
toward p t n = cond (int_lt p t) (p +ℤ pos (held n (way p t))) (p -ℤ pos (held n (way p t)))

-- the instant axis is at its target after one tick
abbrev pub instant_travel : ℤ → ℤ → Profile → ℤ
instant_travel p t q = t

-- the stepping axis asks for its velocity divided by 1,000, remainder dropped
abbrev pub stepping_travel : ℤ → ℤ → Profile → ℤ
stepping_travel p t q = toward p t (q.velocity / 1000)

-- A step stays on the way, and leads nearer.
use Rattle.std.specs.Prelude.{◌≡◌, ℕ, ℤ, pos, ◌+ℤ◌, ◌-ℤ◌, ◌≤ℤ◌, ◌<ℤ◌, FitsSigned, int_lt}
use Rattle.std.proofs.Common.{sym, ◌∙◌, ap, arith, to_z, of_z, rules}
use Rattle.std.specs.Int.{w32, w64}
use Rattle.std.proofs.lemmas.Int.{ints, by_lt_z, to_z-of_z}
use Rattle.std.proofs.lemmas.Bool.{cond-true, cond-false}
use Rattle.drive.specs.Model.{Fair}
use Rattle.drive.proofs.Numbers.{size_up, size_down}
use Rattle.stage.specs.Travel.{way, held, toward}

-- a sum in 64 bits that fits 32 is itself there
pub narrowed : (z y : ℤ) → FitsSigned w32 y → z ≡ y → to_z w32 (of_z w32 (to_z w64 (of_z w64 z))) ≡ y
narrowed z y fits e = ap (λ x. to_z w32 (of_z w32 (to_z w64 (of_z w64 x)))) e ∙ ap (λ x. to_z w32 (of_z w32 x)) (to_z-of_z w64 y (search (rules, ints))) ∙ to_z-of_z w32 y fits

-- the way left, and a step held to it
pub way_up : (p t : ℤ) → p ≤ℤ t → pos (way p t) ≡ t -ℤ p
way_up p t h = size_up (t -ℤ p) (omega (arith, ints))

pub way_down : (p t : ℤ) → t ≤ℤ p → pos (way p t) ≡ p -ℤ t
way_down p t h = size_down (t -ℤ p) (omega (arith, ints)) ∙ omega (arith, ints)

module _ (p t : ℤ) (n : ℕ) where
  pub up_is : p <ℤ t → p +ℤ pos (held n (way p t)) ≡ toward p t n
  up_is h = sym (cond-true (int_lt p t) _ _ (grind (arith, ints)))

  pub down_is : t ≤ℤ p → p -ℤ pos (held n (way p t)) ≡ toward p t n
  down_is h = sym (cond-false (int_lt p t) _ _ (grind (arith, ints)))

  up_fair : p <ℤ t → Fair p (p +ℤ pos (held n (way p t))) t
  up_fair h =
      let w = way_up p t (omega (arith, ints)) in
      record {
        up = λ k. (omega (arith, ints), omega (arith, ints));
        down = λ k. absurd (omega (arith, ints));
        nearer_up = λ k. omega (arith, ints);
        nearer_down = λ k. absurd (omega (arith, ints));
      }

  down_fair : t ≤ℤ p → Fair p (p -ℤ pos (held n (way p t))) t
  down_fair h =
      let w = way_down p t h in
      record {
        up = λ k. (omega (arith, ints), omega (arith, ints));
        down = λ k. (omega (arith, ints), omega (arith, ints));
        nearer_up = λ k. absurd (omega (arith, ints));
        nearer_down = λ k. omega (arith, ints);
      }

  pub toward_fair : Fair p (toward p t n) t
  toward_fair = by_lt_z p t (λ h. rw (← up_is h) (up_fair h)) (λ h. rw (← down_is h) (down_fair h))

-- A drive of which one axis is mounted the other way round. Assumes nothing.
use Rattle.std.specs.Prelude.{ℕ, zero, suc, cond, List, [], ◌∷◌, ℤ, neg_ℤ, Ok, Err, Result, ◌==◌}
use Rattle.std.specs.Int.{saturate_to_bits}
use Rattle.drive.specs.declared.refusal.DriveRefusal.{DriveRefusal}
use Rattle.drive.specs.Model.{Axis}

-- the axis with its positions and targets negated
abbrev pub mirror : Axis → Axis
mirror a =
    record {
      powered = a.powered;
      position = neg_ℤ a.position;
      target = neg_ℤ a.target;
      profile = a.profile;
      reach = a.reach;
      travel = λ p t q. neg_ℤ (a.travel (neg_ℤ p) (neg_ℤ t) q);
    }

-- the axis at the index i mirrored, if there is one
abbrev pub mirror_at : ℕ → List Axis → List Axis
mirror_at i [] = []
mirror_at zero (a ∷ more) = mirror a ∷ more
mirror_at (suc i) (a ∷ more) = a ∷ mirror_at i more

-- the axis numbered n mirrored, if there is one
abbrev pub mirrored : ℕ → List Axis → List Axis
mirrored zero axes = axes
mirrored (suc i) axes = mirror_at i axes

-- a position of the axis numbered n as it is on the other side of the mounting, where k is the axis mirrored;
-- the one i32 whose negation is no i32 becomes the greatest one, which is past every reach like itself
abbrev pub facing : ℕ → ℕ → ℤ → ℤ
facing k n z = cond (n == k) (saturate_to_bits 31 (neg_ℤ z)) z

-- the same of an answer
abbrev pub facing_answer : ℕ → ℕ → Result ℤ DriveRefusal → Result ℤ DriveRefusal
facing_answer k n (Ok z) = Ok (facing k n z)
facing_answer k n (Err e) = Err e

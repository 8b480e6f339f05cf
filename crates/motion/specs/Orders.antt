-- What a call tells a drive. Assumes nothing.
use Rattle.std.specs.Prelude.{◌≡◌, ℕ, List}
use Rattle.std.specs.Borrow.{MutBor}
use Rattle.drive.specs.Model.{Axis}
use Rattle.drive.specs.Calls.{Told, done}

-- calls after which the drive is as one told so of the axis n, whatever they answer; `axes` says what the drive means
abbrev pub Tells : {D R : Type 0} → (D → List Axis) → (MutBor D → ℕ → R → MutBor D → Type 0) → (ℕ → Told) → Type 0
Tells {D} {R} axes may told = (d : MutBor D) (n : ℕ) (r : R) (e : MutBor D) → may d n r e → axes e.now ≡ done (told n) (axes d.now)

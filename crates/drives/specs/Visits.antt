-- A visit: a start, and ticks until rest. Assumes nothing.
use Rattle.std.specs.Prelude.{ℕ, List, ℤ, ◌-ℤ◌, Ok, Err, Result, unsigned_abs}
use Rattle.drive.specs.declared.profile.Profile.{Profile}
use Rattle.drive.specs.declared.refusal.DriveRefusal.{DriveRefusal}
use Rattle.drive.specs.Model.{Axis, ask_axis, at_axis, start_axis}
use Rattle.drive.specs.Settle.{settled}
use Rattle.drives.specs.declared.account.Visit.{Visit}

-- on with the answer, unless it is a refusal: that is passed up, and the axes are as they are then
abbrev pub on_with : {R S : Type 0} → Result R DriveRefusal → List Axis → (R → Result S DriveRefusal × List Axis) → Result S DriveRefusal × List Axis
on_with (Ok r) axes next = next r
on_with (Err e) axes next = (Err e, axes)

-- the axis numbered n is started from one position to t, ticks until it rests, k times at most, and stands at another
abbrev pub visited : ℕ → ℤ → Profile → ℕ → List Axis → Result Visit DriveRefusal × List Axis
visited n t q k axes =
    let started = at_axis (start_axis t q) n axes in
    let rested = settled n k started.1 in
    on_with (ask_axis (λ a. a.position) n axes) axes (λ from.
    on_with started.0 started.1 (λ done.
    on_with rested.0 rested.1 (λ made.
    on_with (ask_axis (λ a. a.position) n rested.1) rested.1 (λ p.
    (Ok (record { from = from; position = p; ticks = made; way = unsigned_abs (p -ℤ from) }), rested.1)))))

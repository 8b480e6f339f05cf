-- The settings of all axes, one after another. Assumes nothing.
use Rattle.std.proofs.Common.{◌≡◌, ℕ, zero, suc, ◌+◌, ◌<◌, List, length, sym, subst, ⊎_elim, arith}
use Rattle.std.proofs.lemmas.Bool.{cases_lt}
use Rattle.desk.specs.declared.axis_settings.AxisSettings.{AxisSettings}
use Rattle.desk.specs.Tables.{row_or}
use Rattle.desk.specs.Axes.{no_axis}
use Rattle.asked.proofs.Stands.{row_past}
use Rattle.actions.specs.Fits.{Wide}

none_wide : Wide no_axis
none_wide = record { velocity = omega arith; acceleration = omega arith; left = record { le = tt }; right = record { le = tt } }

pub first_wide : (axes : List AxisSettings) (n : ℕ) → n < 1 → Wide (row_or no_axis n axes)
first_wide axes zero h = none_wide
first_wide axes (suc n) h = absurd (omega arith)

pub one_more_wide : (axes : List AxisSettings) (i : ℕ) → ((n : ℕ) → n < i → Wide (row_or no_axis n axes)) → Wide (row_or no_axis i axes) → (n : ℕ) → n < i + 1 → Wide (row_or no_axis n axes)
one_more_wide axes i before here n h =
    ⊎_elim (before n) (λ l. let e : i ≡ n = omega arith in subst (λ m. Wide (row_or no_axis m axes)) e here) (cases_lt n i)

pub all_wide : (axes : List AxisSettings) (i : ℕ) → length axes < i → ((n : ℕ) → n < i → Wide (row_or no_axis n axes)) → (n : ℕ) → Wide (row_or no_axis n axes)
all_wide axes i h before n =
    ⊎_elim (before n) (λ l. subst Wide (sym (row_past no_axis n axes (omega arith))) none_wide) (cases_lt n i)

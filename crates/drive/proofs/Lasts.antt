-- The laws of a drive hold whatever it is told, and no reach and no rule of travel changes.
use Rattle.std.proofs.Common.{◌≡◌, ℕ, zero, suc, ◌≤◌, Bool, true, false, cond, leb, List, [], ◌∷◌, map, length, ℤ, nat_abs, Result, sym, refl, ap, ◌∙◌}
use Rattle.std.specs.List.{AllByRecursion}
use Rattle.std.proofs.lemmas.Bool.{leb-true, true≢false}
use Rattle.std.proofs.lemmas.List.{length-map}
use Rattle.drive.specs.declared.profile.Profile.{Profile}
use Rattle.drive.specs.declared.refusal.DriveRefusal.{DriveRefusal}
use Rattle.drive.specs.Model.{Axis, SoundAxis, Sound, Change, at, at_axis, with_state, at_rest, start_axis, stop_axis, power_on_axis, power_off_axis, set_position_axis, tick_axis, tick_axes}
use Rattle.drive.proofs.Numbers.{fair_within, fair_rests}
use Rattle.drive.specs.Calls.{Told, power_on, power_off, start, stop, set_position, tick, done, replay, Lasting}

-- ---- one axis

-- a change keeps the laws of an axis
abbrev KeepsSound : Change → Type 0
KeepsSound f = (a : Axis) → SoundAxis a → SoundAxis (f a).1

-- with other figures that keep the laws
restated : (w : Bool) (p t : ℤ) (q : Profile) (a : Axis) → SoundAxis a → nat_abs p ≤ a.reach → nat_abs t ≤ a.reach → (w ≡ false → t ≡ p) → SoundAxis (with_state w p t q a)
restated w p t q a s hp ht off =
    record { some_reach = s.some_reach; most_reach = s.most_reach; position_in = hp; target_in = ht; unpowered = off; fair = s.fair }

on_sound : KeepsSound power_on_axis
on_sound a s = restated true a.position a.target a.profile a s s.position_in s.target_in (λ e. absurd (true≢false e))

off_sound : KeepsSound power_off_axis
off_sound a s = restated false a.position a.position a.profile a s s.position_in s.position_in (λ e. refl)

stop_sound : KeepsSound stop_axis
stop_sound a s = restated a.powered a.position a.position a.profile a s s.position_in s.position_in (λ e. refl)

-- a change by a test
tested : (b : Bool) (u v : Result Unit DriveRefusal × Axis) → (b ≡ true → SoundAxis u.1) → SoundAxis v.1 → SoundAxis (cond {A = Result Unit DriveRefusal × Axis} b u v).1
tested true u v passed kept = passed refl
tested false u v passed kept = kept

start_sound : (t : ℤ) (q : Profile) → KeepsSound (start_axis t q)
start_sound t q a s =
    tested a.powered _ _
    (λ on.
    tested (leb (nat_abs t) a.reach) _ _
    (λ h. restated a.powered a.position t q a s s.position_in (leb-true (nat_abs t) a.reach h) (λ off. absurd (true≢false (sym on ∙ off)))) s)
    s

set_position_sound : (p : ℤ) → KeepsSound (set_position_axis p)
set_position_sound p a s =
    tested (at_rest a) _ _
    (λ rests.
    tested (leb (nat_abs p) a.reach) _ _
    (λ h. let l = leb-true (nat_abs p) a.reach h in restated a.powered p p a.profile a s l l (λ off. refl)) s)
    s

tick_sound : (a : Axis) → SoundAxis a → SoundAxis (tick_axis a)
tick_sound a s =
    let f = s.fair a.position a.target a.profile s.position_in s.target_in in
    restated a.powered (a.travel a.position a.target a.profile) a.target a.profile a s (fair_within _ _ _ _ f s.position_in s.target_in) s.target_in
    (λ off. fair_rests _ _ _ f (s.unpowered off))

-- ---- all axes

-- a change of one axis keeps the laws of all, and their number
module _ (f : Change) (keeps : KeepsSound f) where
  at_each : (i : ℕ) (xs : List Axis) → AllByRecursion SoundAxis xs → AllByRecursion SoundAxis (at f i xs).1
  at_each i [] s = s
  at_each zero (a ∷ xs) s = (keeps a s.0, s.1)
  at_each (suc i) (a ∷ xs) s = (s.0, at_each i xs s.1)

at_count : (f : Change) (i : ℕ) (xs : List Axis) → length (at f i xs).1 ≡ length xs
at_count f i [] = refl
at_count f zero (a ∷ xs) = refl
at_count f (suc i) (a ∷ xs) = ap suc (at_count f i xs)

pub change_sound : (f : Change) → KeepsSound f → (n : ℕ) (xs : List Axis) → Sound xs → Sound (at_axis f n xs).1
change_sound f keeps zero xs s = s
change_sound f keeps (suc i) xs s = record { least = rw at_count s.least; most = rw at_count s.most; each = at_each f keeps i xs s.each }

ticks_each : (xs : List Axis) → AllByRecursion SoundAxis xs → AllByRecursion SoundAxis (tick_axes xs)
ticks_each [] s = s
ticks_each (a ∷ xs) s = (tick_sound a s.0, ticks_each xs s.1)

pub ticks_sound : (xs : List Axis) → Sound xs → Sound (tick_axes xs)
ticks_sound xs s = record { least = rw length-map s.least; most = rw length-map s.most; each = ticks_each xs s.each }

pub done_sound : (t : Told) (xs : List Axis) → Sound xs → Sound (done t xs)
done_sound (power_on n) xs s = change_sound power_on_axis on_sound n xs s
done_sound (power_off n) xs s = change_sound power_off_axis off_sound n xs s
done_sound (start n t q) xs s = change_sound (start_axis t q) (start_sound t q) n xs s
done_sound (stop n) xs s = change_sound stop_axis stop_sound n xs s
done_sound (set_position n p) xs s = change_sound (set_position_axis p) (set_position_sound p) n xs s
done_sound tick xs s = ticks_sound xs s

pub replay_sound : (ts : List Told) (xs : List Axis) → Sound xs → Sound (replay ts xs)
replay_sound [] xs s = s
replay_sound (t ∷ ts) xs s = replay_sound ts (done t xs) (done_sound t xs s)

-- ---- what is fixed

-- what no change of state touches, as the reach
module _ {R : Type 0} (fixed : Axis → R) (kept : (w : Bool) (p t : ℤ) (q : Profile) (a : Axis) → fixed (with_state w p t q a) ≡ fixed a) where
  tested_kept : (b : Bool) (u v : Result Unit DriveRefusal × Axis) (a : Axis) → fixed u.1 ≡ fixed a → fixed v.1 ≡ fixed a → fixed (cond {A = Result Unit DriveRefusal × Axis} b u v).1 ≡ fixed a
  tested_kept true u v a hu hv = hu
  tested_kept false u v a hu hv = hv

  at_kept : (f : Change) → ((a : Axis) → fixed (f a).1 ≡ fixed a) → (i : ℕ) (xs : List Axis) → map fixed (at f i xs).1 ≡ map fixed xs
  at_kept f same i [] = refl
  at_kept f same zero (a ∷ xs) = ap (λ r. r ∷ map fixed xs) (same a)
  at_kept f same (suc i) (a ∷ xs) = ap (λ rs. fixed a ∷ rs) (at_kept f same i xs)

  change_kept : (f : Change) → ((a : Axis) → fixed (f a).1 ≡ fixed a) → (n : ℕ) (xs : List Axis) → map fixed (at_axis f n xs).1 ≡ map fixed xs
  change_kept f same zero xs = refl
  change_kept f same (suc i) xs = at_kept f same i xs

  ticks_kept : (xs : List Axis) → map fixed (tick_axes xs) ≡ map fixed xs
  ticks_kept [] = refl
  ticks_kept (a ∷ xs) = ap (λ r. r ∷ map fixed (tick_axes xs)) (kept _ _ _ _ a) ∙ ap (λ rs. fixed a ∷ rs) (ticks_kept xs)

  done_kept : (t : Told) (xs : List Axis) → map fixed (done t xs) ≡ map fixed xs
  done_kept (power_on n) xs = change_kept power_on_axis (λ a. kept _ _ _ _ a) n xs
  done_kept (power_off n) xs = change_kept power_off_axis (λ a. kept _ _ _ _ a) n xs
  done_kept (start n t q) xs = change_kept (start_axis t q) (λ a. tested_kept a.powered _ _ a (tested_kept (leb (nat_abs t) a.reach) _ _ a (kept _ _ _ _ a) refl) refl) n xs
  done_kept (stop n) xs = change_kept stop_axis (λ a. kept _ _ _ _ a) n xs
  done_kept (set_position n p) xs = change_kept (set_position_axis p) (λ a. tested_kept (at_rest a) _ _ a (tested_kept (leb (nat_abs p) a.reach) _ _ a (kept _ _ _ _ a) refl) refl) n xs
  done_kept tick xs = ticks_kept xs

  pub replay_kept : (ts : List Told) (xs : List Axis) → map fixed (replay ts xs) ≡ map fixed xs
  replay_kept [] xs = refl
  replay_kept (t ∷ ts) xs = replay_kept ts (done t xs) ∙ done_kept t xs

pub lasts : (xs : List Axis) → Sound xs → Lasting xs
lasts xs s =
    record {
      sound = λ ts. replay_sound ts xs s;
      reaches = λ ts. replay_kept (λ a. a.reach) (λ w p t q a. refl) ts xs;
      rules = λ ts. replay_kept (λ a. a.travel) (λ w p t q a. refl) ts xs;
    }

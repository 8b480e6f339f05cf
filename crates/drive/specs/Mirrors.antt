-- What a mirrored axis keeps of a drive's laws, and how questions and changes go through it.
use Rattle.std.specs.Prelude.{◌≡◌, ℕ, zero, suc, ◌^◌, ◌<◌, ◌≤◌, ◌⊎◌, List, [], ◌∷◌, length, ℤ, pos, negsuc, neg_ℤ, Ok, Err, Result, ◌==◌, ◌≢◌, unsigned_abs, refl}
use Rattle.std.proofs.Common.{sym, ◌∙◌, ap, inl, inr, ⊎_elim, arith, w32, SFits}
use Rattle.std.proofs.Math.IntN.{neg_ℤ-neg_ℤ}
use Rattle.std.specs.Int.Signed.{mag}
use Rattle.std.specs.List.{AllByRecursion}
use Rattle.std.proofs.lemmas.Int.{ints}
use Rattle.std.proofs.lemmas.Bool.{cases_lt, cases_eq, cond-true, cond-false, eq-eqb, ne_eqb}
use Rattle.std.proofs.lemmas.Bool.Decides.{nat_tests}
use Rattle.std.specs.Int.{saturate_to_bits}
use Rattle.drive.specs.declared.profile.Profile.{Profile}
use Rattle.drive.specs.declared.refusal.DriveRefusal.{DriveRefusal}
use Rattle.drive.specs.Model.{Axis, Fair, SoundAxis, Sound, Change, ask, ask_axis, at, at_axis, same, power_on_axis, power_off_axis, start_axis, stop_axis, set_position_axis, tick_axis, tick_axes}
use Rattle.drive.specs.Mirror.{mirror, mirror_at, mirrored, facing, facing_answer}

-- ---- numbers

pub nat_abs_neg : (z : ℤ) → unsigned_abs (neg_ℤ z) ≡ unsigned_abs z
nat_abs_neg (pos zero) = refl
nat_abs_neg (pos (suc n)) = refl
nat_abs_neg (negsuc n) = refl

pub same_neg : (p t : ℤ) → same (neg_ℤ p) (neg_ℤ t) ≡ same p t
same_neg p t = grind (arith, ints)

-- the negation of a position within every reach is an i32
saturated_neg : (p : ℤ) → unsigned_abs p ≤ 2000000000 → saturate_to_bits 31 (neg_ℤ p) ≡ neg_ℤ p
saturated_neg (pos zero) h = refl
saturated_neg (pos (suc n)) h = ap negsuc (omega arith)
saturated_neg (negsuc n) h = ap pos (omega arith)

fair_neg : (p r t : ℤ) → Fair (neg_ℤ p) r (neg_ℤ t) → Fair p (neg_ℤ r) t
fair_neg p r t w =
    record {
      up = λ h. let k = w.down (omega (arith, ints)) in (omega (arith, ints, k), omega (arith, ints, k));
      down = λ h. let k = w.up (omega (arith, ints)) in (omega (arith, ints, k), omega (arith, ints, k));
      nearer_up = λ h. let k = w.nearer_down (omega (arith, ints)) in omega (arith, ints, k);
      nearer_down = λ h. let k = w.nearer_up (omega (arith, ints)) in omega (arith, ints, k);
    }

-- ---- the laws

mirror_sound : (a : Axis) → SoundAxis a → SoundAxis (mirror a)
mirror_sound a s =
    record {
      some_reach = s.some_reach;
      most_reach = s.most_reach;
      position_in = rw nat_abs_neg s.position_in;
      target_in = rw nat_abs_neg s.target_in;
      unpowered = λ off. ap neg_ℤ (s.unpowered off);
      fair = λ p t q hp ht. fair_neg p (a.travel (neg_ℤ p) (neg_ℤ t) q) t (s.fair (neg_ℤ p) (neg_ℤ t) q (rw nat_abs_neg hp) (rw nat_abs_neg ht));
    }

mirror_at_sound : (i : ℕ) (xs : List Axis) → AllByRecursion SoundAxis xs → AllByRecursion SoundAxis (mirror_at i xs)
mirror_at_sound i [] s = s
mirror_at_sound zero (a ∷ xs) s = (mirror_sound a s.0, s.1)
mirror_at_sound (suc i) (a ∷ xs) s = (s.0, mirror_at_sound i xs s.1)

length_mirror_at : (i : ℕ) (xs : List Axis) → length (mirror_at i xs) ≡ length xs
length_mirror_at i [] = refl
length_mirror_at zero (a ∷ xs) = refl
length_mirror_at (suc i) (a ∷ xs) = ap suc (length_mirror_at i xs)

pub length_mirrored : (n : ℕ) (xs : List Axis) → length (mirrored n xs) ≡ length xs
length_mirrored zero xs = refl
length_mirrored (suc i) xs = length_mirror_at i xs

pub mirrored_sound : (n : ℕ) (xs : List Axis) → Sound xs → Sound (mirrored n xs)
mirrored_sound zero xs s = s
mirrored_sound (suc i) xs s =
    record { least = rw length_mirror_at s.least; most = rw length_mirror_at s.most; each = mirror_at_sound i xs s.each }

-- ---- questions

-- an answer as it is seen through the mirror
abbrev pub turned_ok : Result ℤ DriveRefusal → Result ℤ DriveRefusal
turned_ok (Ok p) = Ok (neg_ℤ p)
turned_ok (Err e) = Err e

-- what the mirror keeps of an axis is answered as below
module _ {R : Type 0} (f : Axis → R) (kept : (a : Axis) → f (mirror a) ≡ f a) where
  ask_kept : (i j : ℕ) (xs : List Axis) → ask f i (mirror_at j xs) ≡ ask f i xs
  ask_kept i j [] = refl
  ask_kept zero zero (a ∷ xs) = ap Ok (kept a)
  ask_kept zero (suc j) (a ∷ xs) = refl
  ask_kept (suc i) zero (a ∷ xs) = refl
  ask_kept (suc i) (suc j) (a ∷ xs) = ask_kept i j xs

  pub told_kept : (n k : ℕ) (xs : List Axis) → ask_axis f n (mirrored k xs) ≡ ask_axis f n xs
  told_kept zero zero xs = refl
  told_kept zero (suc j) xs = refl
  told_kept (suc i) zero xs = refl
  told_kept (suc i) (suc j) xs = ask_kept i j xs

pub reach_kept : (n k : ℕ) (xs : List Axis) → ask_axis (λ a. a.reach) n (mirrored k xs) ≡ ask_axis (λ a. a.reach) n xs
reach_kept = told_kept (λ a. a.reach) (λ a. refl)

pub powered_kept : (n k : ℕ) (xs : List Axis) → ask_axis (λ a. a.powered) n (mirrored k xs) ≡ ask_axis (λ a. a.powered) n xs
powered_kept = told_kept (λ a. a.powered) (λ a. refl)

-- a position that is told lies within every reach
module _ (f : Axis → ℤ) (within : (a : Axis) → SoundAxis a → unsigned_abs (f a) ≤ 2000000000) where
  ask_small : (i : ℕ) (xs : List Axis) (p : ℤ) → AllByRecursion SoundAxis xs → ask f i xs ≡ Ok p → unsigned_abs p ≤ 2000000000
  ask_small i [] p s e = let z : ◌≡◌ {A = ℕ} 0 1 = cc in absurd (omega arith)
  ask_small zero (a ∷ xs) p s e = let k : f a ≡ p = cc in rw (sym k) (within a s.0)
  ask_small (suc i) (a ∷ xs) p s e = ask_small i xs p s.1 e

  pub told_small : (n : ℕ) (xs : List Axis) (p : ℤ) → Sound xs → ask_axis f n xs ≡ Ok p → unsigned_abs p ≤ 2000000000
  told_small zero xs p s e = let z : ◌≡◌ {A = ℕ} 0 1 = cc in absurd (omega arith)
  told_small (suc i) xs p s e = ask_small i xs p s.each e

faced_same : (k : ℕ) (r : Result ℤ DriveRefusal) → ((p : ℤ) → r ≡ Ok p → unsigned_abs p ≤ 2000000000) → facing_answer k k r ≡ turned_ok r
faced_same k (Ok p) small = ap Ok (cond-true (k == k) (saturate_to_bits 31 (neg_ℤ p)) p (eq-eqb k k refl) ∙ saturated_neg p (small p refl))
faced_same k (Err e) small = refl

faced_other : (n k : ℕ) (r : Result ℤ DriveRefusal) → (n ≢ k) → facing_answer k n r ≡ r
faced_other n k (Ok p) ne = ap Ok (cond-false (n == k) (saturate_to_bits 31 (neg_ℤ p)) p (ne_eqb n k ne))
faced_other n k (Err e) ne = refl

-- what the mirror negates is answered as below, negated for the axis that is mirrored
module _ (f : Axis → ℤ) (turned : (a : Axis) → f (mirror a) ≡ neg_ℤ (f a)) where
  ask_same : (i : ℕ) (xs : List Axis) → ask f i (mirror_at i xs) ≡ turned_ok (ask f i xs)
  ask_same i [] = refl
  ask_same zero (a ∷ xs) = ap Ok (turned a)
  ask_same (suc i) (a ∷ xs) = ask_same i xs

  ask_other : (i j : ℕ) (xs : List Axis) → (i ≢ j) → ask f i (mirror_at j xs) ≡ ask f i xs
  ask_other i j [] ne = refl
  ask_other zero zero (a ∷ xs) ne = absurd (ne refl)
  ask_other zero (suc j) (a ∷ xs) ne = refl
  ask_other (suc i) zero (a ∷ xs) ne = refl
  ask_other (suc i) (suc j) (a ∷ xs) ne = ask_other i j xs (λ e. ne (ap suc e))

  told_same : (n : ℕ) (xs : List Axis) → ask_axis f n (mirrored n xs) ≡ turned_ok (ask_axis f n xs)
  told_same zero xs = refl
  told_same (suc i) xs = ask_same i xs

  told_other : (n k : ℕ) (xs : List Axis) → (n ≢ k) → ask_axis f n (mirrored k xs) ≡ ask_axis f n xs
  told_other zero zero xs ne = refl
  told_other zero (suc j) xs ne = refl
  told_other (suc i) zero xs ne = refl
  told_other (suc i) (suc j) xs ne = ask_other i j xs (λ e. ne (ap suc e))

  -- what is told of an axis of the mirrored list is what the list tells, faced
  pub told_faced : (n k : ℕ) (xs : List Axis) → ((a : Axis) → SoundAxis a → unsigned_abs (f a) ≤ 2000000000) → Sound xs → facing_answer k n (ask_axis f n xs) ≡ ask_axis f n (mirrored k xs)
  told_faced n k xs within s =
      ⊎_elim
      (λ same-axis. rw same-axis (faced_same k (ask_axis f k xs) (λ p e. told_small f within k xs p s e) ∙ sym (told_same k xs)))
      (λ ne. faced_other n k (ask_axis f n xs) ne ∙ sym (told_other n k xs ne))
      (cases_eq n k)

pub position_faced : (n k : ℕ) (xs : List Axis) → Sound xs → facing_answer k n (ask_axis (λ a. a.position) n xs) ≡ ask_axis (λ a. a.position) n (mirrored k xs)
position_faced n k xs s = told_faced (λ a. a.position) (λ a. refl) n k xs (λ a s. omega arith) s

pub target_faced : (n k : ℕ) (xs : List Axis) → Sound xs → facing_answer k n (ask_axis (λ a. a.target) n xs) ≡ ask_axis (λ a. a.target) n (mirrored k xs)
target_faced n k xs s = told_faced (λ a. a.target) (λ a. refl) n k xs (λ a s. omega arith) s

-- ---- changes

-- an answer and the axis after it, as they are seen through the mirror
abbrev turned_axis : Result Unit DriveRefusal × Axis → Result Unit DriveRefusal × Axis
turned_axis r = (r.0, mirror r.1)

abbrev turned_all : ℕ → Result Unit DriveRefusal × List Axis → Result Unit DriveRefusal × List Axis
turned_all k r = (r.0, mirrored k r.1)

-- a change that goes through the mirror as it is
module _ (f : Change) (commutes : (a : Axis) → f (mirror a) ≡ turned_axis (f a)) where
  at_through : (i j : ℕ) (xs : List Axis) → at f i (mirror_at j xs) ≡ turned_all (suc j) (at f i xs)
  at_through i j [] = refl
  at_through zero zero (a ∷ xs) = ap (λ r. (r.0, r.1 ∷ xs)) (commutes a)
  at_through zero (suc j) (a ∷ xs) = refl
  at_through (suc i) zero (a ∷ xs) = refl
  at_through (suc i) (suc j) (a ∷ xs) = ap (λ r. (r.0, a ∷ r.1)) (at_through i j xs)

  pub change_through : (n k : ℕ) (xs : List Axis) → at_axis f n (mirrored k xs) ≡ turned_all k (at_axis f n xs)
  change_through zero zero xs = refl
  change_through zero (suc j) xs = refl
  change_through (suc i) zero xs = refl
  change_through (suc i) (suc j) xs = at_through i j xs

pub power_on_through : (n k : ℕ) (xs : List Axis) → at_axis power_on_axis n (mirrored k xs) ≡ ((at_axis power_on_axis n xs).0, mirrored k (at_axis power_on_axis n xs).1)
power_on_through = change_through power_on_axis (λ a. refl)

pub power_off_through : (n k : ℕ) (xs : List Axis) → at_axis power_off_axis n (mirrored k xs) ≡ ((at_axis power_off_axis n xs).0, mirrored k (at_axis power_off_axis n xs).1)
power_off_through = change_through power_off_axis (λ a. refl)

pub stop_through : (n k : ℕ) (xs : List Axis) → at_axis stop_axis n (mirrored k xs) ≡ ((at_axis stop_axis n xs).0, mirrored k (at_axis stop_axis n xs).1)
stop_through = change_through stop_axis (λ a. refl)

-- u is the position t negated, or both are past every reach
abbrev Opposite : ℤ → ℤ → Type 0
Opposite t u = (u ≡ neg_ℤ t) ⊎ ((2000000000 < unsigned_abs t) × (2000000000 < unsigned_abs u))

-- what `saturating_neg` gives
opposite : (t : ℤ) → mag t < 2 ^ 31 → Opposite t (saturate_to_bits 31 (neg_ℤ t))
opposite (pos zero) h = inl refl
opposite (pos (suc n)) h = inl (ap negsuc (omega arith))
opposite (negsuc n) h = ⊎_elim (λ l. inl (ap pos (omega arith))) (λ l. inr (omega arith, omega arith)) (cases_lt n 2147483647)

-- a change that names a position: the axis below is told the opposite one
module _ (f : ℤ → Change) (commutes : (t u : ℤ) (a : Axis) → Opposite t u → SoundAxis a → f t (mirror a) ≡ turned_axis (f u a)) where
  at_same : (t u : ℤ) (i : ℕ) (xs : List Axis) → Opposite t u → AllByRecursion SoundAxis xs → at (f t) i (mirror_at i xs) ≡ turned_all (suc i) (at (f u) i xs)
  at_same t u i [] o s = refl
  at_same t u zero (a ∷ xs) o s = ap (λ r. (r.0, r.1 ∷ xs)) (commutes t u a o s.0)
  at_same t u (suc i) (a ∷ xs) o s = ap (λ r. (r.0, a ∷ r.1)) (at_same t u i xs o s.1)

  at_other : (t : ℤ) (i j : ℕ) (xs : List Axis) → (i ≢ j) → at (f t) i (mirror_at j xs) ≡ turned_all (suc j) (at (f t) i xs)
  at_other t i j [] ne = refl
  at_other t zero zero (a ∷ xs) ne = absurd (ne refl)
  at_other t zero (suc j) (a ∷ xs) ne = refl
  at_other t (suc i) zero (a ∷ xs) ne = refl
  at_other t (suc i) (suc j) (a ∷ xs) ne = ap (λ r. (r.0, a ∷ r.1)) (at_other t i j xs (λ e. ne (ap suc e)))

  change_same : (t u : ℤ) (n : ℕ) (xs : List Axis) → Opposite t u → Sound xs → at_axis (f t) n (mirrored n xs) ≡ turned_all n (at_axis (f u) n xs)
  change_same t u zero xs o s = refl
  change_same t u (suc i) xs o s = at_same t u i xs o s.each

  change_other : (t : ℤ) (n k : ℕ) (xs : List Axis) → (n ≢ k) → at_axis (f t) n (mirrored k xs) ≡ turned_all k (at_axis (f t) n xs)
  change_other t zero zero xs ne = refl
  change_other t zero (suc j) xs ne = refl
  change_other t (suc i) zero xs ne = refl
  change_other t (suc i) (suc j) xs ne = at_other t i j xs (λ e. ne (ap suc e))

  change_faced : (t : ℤ) (n k : ℕ) (xs : List Axis) → mag t < 2 ^ 31 → Sound xs → at_axis (f t) n (mirrored k xs) ≡ turned_all k (at_axis (f (facing k n t)) n xs)
  change_faced t n k xs fits s =
      ⊎_elim
      (λ same-axis.
      let e : facing k n t ≡ saturate_to_bits 31 (neg_ℤ t) = cond-true (n == k) (saturate_to_bits 31 (neg_ℤ t)) t (eq-eqb n k same-axis) in
      rw e (rw same-axis (change_same t (saturate_to_bits 31 (neg_ℤ t)) k xs (opposite t fits) s)))
      (λ ne.
      let e : facing k n t ≡ t = cond-false (n == k) (saturate_to_bits 31 (neg_ℤ t)) t (ne_eqb n k ne) in
      rw e (change_other t n k xs ne))
      (cases_eq n k)

  -- what the drive below was told, seen from above
  pub call_faced : (t u : ℤ) (n k j : ℕ) (r : Result Unit DriveRefusal) (xs ys : List Axis) → mag t < 2 ^ 31 → Sound xs → u ≡ t → j ≡ k → (r, ys) ≡ at_axis (f (facing k n u)) n xs →
      (r, mirrored j ys) ≡ at_axis (f t) n (mirrored k xs)
  call_faced t u n k j r xs ys fits s is kept told =
      rw kept (ap (λ q. (q.0, mirrored k q.1)) (told ∙ ap (λ z. at_axis (f (facing k n z)) n xs) is) ∙ sym (change_faced t n k xs fits s))

pub start_faced : (q : Profile) (t u : ℤ) (a : Axis) → Opposite t u → SoundAxis a → start_axis t q (mirror a) ≡ turned_axis (start_axis u q a)
start_faced q t u a (inl e) s =
    let n : unsigned_abs u ≡ unsigned_abs t = ap unsigned_abs e ∙ nat_abs_neg t in
    let m : neg_ℤ u ≡ t = ap neg_ℤ e ∙ neg_ℤ-neg_ℤ t in
    grind (arith, nat_tests)
start_faced q t u a (inr h) s = grind (arith, nat_tests)

pub set_position_faced : (t u : ℤ) (a : Axis) → Opposite t u → SoundAxis a → set_position_axis t (mirror a) ≡ turned_axis (set_position_axis u a)
set_position_faced t u a (inl e) s =
    let n : unsigned_abs u ≡ unsigned_abs t = ap unsigned_abs e ∙ nat_abs_neg t in
    let m : neg_ℤ u ≡ t = ap neg_ℤ e ∙ neg_ℤ-neg_ℤ t in
    let k = same_neg a.position a.target in
    grind (arith, nat_tests)
set_position_faced t u a (inr h) s = let k = same_neg a.position a.target in grind (arith, nat_tests)

pub start_through : (t : ℤ) (q : Profile) (n k : ℕ) (xs : List Axis) → SFits w32 t → Sound xs → at_axis (start_axis t q) n (mirrored k xs) ≡ turned_all k (at_axis (start_axis (facing k n t) q) n xs)
start_through t q n k xs fits s = change_faced (λ t. start_axis t q) (start_faced q) t n k xs fits.sfits s

pub set_position_through : (t : ℤ) (n k : ℕ) (xs : List Axis) → SFits w32 t → Sound xs → at_axis (set_position_axis t) n (mirrored k xs) ≡ turned_all k (at_axis (set_position_axis (facing k n t)) n xs)
set_position_through t n k xs fits s = change_faced set_position_axis set_position_faced t n k xs fits.sfits s

-- ---- a tick

tick_through : (a : Axis) → tick_axis (mirror a) ≡ mirror (tick_axis a)
tick_through a = simp neg_ℤ-neg_ℤ

ticks_at : (i : ℕ) (xs : List Axis) → tick_axes (mirror_at i xs) ≡ mirror_at i (tick_axes xs)
ticks_at i [] = refl
ticks_at zero (a ∷ xs) = ap (λ b. b ∷ tick_axes xs) (tick_through a)
ticks_at (suc i) (a ∷ xs) = ap (λ bs. tick_axis a ∷ bs) (ticks_at i xs)

pub ticks_through : (n : ℕ) (xs : List Axis) → tick_axes (mirrored n xs) ≡ mirrored n (tick_axes xs)
ticks_through zero xs = refl
ticks_through (suc i) xs = ticks_at i xs

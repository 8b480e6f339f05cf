-- Ticks until an axis rests: every drive arrives.
use Rattle.std.proofs.Common.{◌≡◌, ℕ, zero, suc, ◌+◌, ◌-◌, ◌<◌, ◌≤◌, Bool, true, false, List, [], ◌∷◌, ◌-ℤ◌, nat_abs, Ok, Err, Result, sym, refl, ap, ◌∙◌, add-one, arith}
use Rattle.std.specs.List.{AllByRecursion}
use Rattle.drive.specs.declared.refusal.DriveRefusal.{DriveRefusal}
use Rattle.drive.specs.Model.{Axis, SoundAxis, Sound, ask, ask_axis, at_rest, tick_axes}
use Rattle.drive.specs.Settle.{rests, same_answers, settling, settled, way_left, Arrives}
use Rattle.drive.proofs.Numbers.{fair_nearer}
use Rattle.drive.proofs.Lasts.{ticks_sound}

-- ---- whether an axis rests

asks_both : (i : ℕ) (xs : List Axis) → same_answers (ask (λ a. a.position) i xs) (ask (λ a. a.target) i xs) ≡ ask at_rest i xs
asks_both i [] = refl
asks_both zero (a ∷ xs) = refl
asks_both (suc i) (a ∷ xs) = asks_both i xs

pub told_both : (n : ℕ) (xs : List Axis) → same_answers (ask_axis (λ a. a.position) n xs) (ask_axis (λ a. a.target) n xs) ≡ rests n xs
told_both zero xs = refl
told_both (suc i) xs = asks_both i xs

-- ---- arriving

-- a tick brings an axis that moves nearer
nearer_at : (i : ℕ) (xs : List Axis) (left : ℕ) → AllByRecursion SoundAxis xs → ask (λ a. nat_abs (a.target -ℤ a.position)) i xs ≡ Ok left → ask at_rest i xs ≡ Ok false →
    (less : ℕ) × ((ask (λ a. nat_abs (a.target -ℤ a.position)) i (tick_axes xs) ≡ Ok less) × (less < left))
nearer_at i [] left s w m = let z : ◌≡◌ {A = ℕ} 0 1 = cc in absurd (omega arith)
nearer_at zero (a ∷ xs) left s w m =
    let is : nat_abs (a.target -ℤ a.position) ≡ left = cc in
    let moves : at_rest a ≡ false = cc in
    let p = a.travel a.position a.target a.profile in
    let f = s.0.fair a.position a.target a.profile s.0.position_in s.0.target_in in
    (nat_abs (a.target -ℤ p), (refl, rw (sym is) (fair_nearer a.position p a.target f moves)))
nearer_at (suc i) (a ∷ xs) left s w m = nearer_at i xs left s.1 w m

nearer : (n : ℕ) (xs : List Axis) (left : ℕ) → Sound xs → way_left n xs ≡ Ok left → rests n xs ≡ Ok false → (less : ℕ) × ((way_left n (tick_axes xs) ≡ Ok less) × (less < left))
nearer zero xs left s w m = let z : ◌≡◌ {A = ℕ} 0 1 = cc in absurd (omega arith)
nearer (suc i) xs left s w m = nearer_at i xs left s.each w m

arriving : (k made : ℕ) (b : Result Bool DriveRefusal) (n : ℕ) (xs : List Axis) → Sound xs → rests n xs ≡ b → (left m : ℕ) → way_left n xs ≡ Ok left → (settling made k b n xs).0 ≡ Ok m →
    (m ≤ made + left) × (left ≤ k → rests n (settling made k b n xs).1 ≡ Ok true)
arriving k made (Err e) n xs s is left m w r = let z : ◌≡◌ {A = ℕ} 0 1 = cc in absurd (omega arith)
arriving zero made (Ok true) n xs s is left m w r = let e : made ≡ m = cc in (omega arith, λ h. is)
arriving (suc k) made (Ok true) n xs s is left m w r = let e : made ≡ m = cc in (omega arith, λ h. is)
arriving zero made (Ok false) n xs s is left m w r = let e : made ≡ m = cc in let near = nearer n xs left s w is in (omega arith, λ h. absurd (omega (arith, near.1.1)))
arriving (suc k) made (Ok false) n xs s is left m w r =
    let near = nearer n xs left s w is in
    let more = arriving k (suc made) (rests n (tick_axes xs)) n (tick_axes xs) (ticks_sound xs s) refl near.0 m near.1.0 r in
    (omega (arith, near.1.1, more.0), λ h. more.1 (omega (arith, near.1.1)))

pub arrives : (n limit : ℕ) (xs ys : List Axis) (r : Result ℕ DriveRefusal) → Sound xs → (r, ys) ≡ settled n limit xs → Arrives n limit xs r ys
arrives n limit xs ys r s e left m w is =
    let h = arriving limit 0 (rests n xs) n xs s refl left m w (sym (ap (λ q. q.0) e) ∙ is) in
    (omega (arith, h.0), λ k. ap (λ q. rests n q.1) e ∙ h.1 k)

-- ---- a turn of the loop

pub ticked_once : (made limit n : ℕ) (xs ys : List Axis) (r : Result Bool DriveRefusal) → made < limit → ys ≡ tick_axes xs → r ≡ rests n ys → settling (made + 1) (limit - (made + 1)) r n ys ≡ settling made (limit - made) (Ok false) n xs
ticked_once made limit n xs ys r lt is e =
    let k : limit - made ≡ suc (limit - (made + 1)) = omega arith in
    rw (k, add-one, is) (ap (λ b. settling (suc made) (limit - suc made) b n (tick_axes xs)) (e ∙ ap (rests n) is))

pub stopped_at : (made limit n : ℕ) (xs : List Axis) (b : Bool) → limit ≤ made → settling made (limit - made) (Ok b) n xs ≡ (Ok made, xs)
stopped_at made limit n xs true h = refl
stopped_at made limit n xs false h = let k : limit - made ≡ 0 = omega arith in rw k

-- the loop stands where the answer is known to be b, and goes on to the same end
pub at_flag : (made limit n : ℕ) (xs start : List Axis) (a b : Bool) → a ≡ b → settling made (limit - made) (Ok a) n xs ≡ settled n limit start → settling made (limit - made) (Ok b) n xs ≡ settled n limit start
at_flag made limit n xs start a b e inv = ap (λ f. settling made (limit - made) (Ok f) n xs) (sym e) ∙ inv

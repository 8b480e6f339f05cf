-- Loops by what is left to do. Assumes nothing.
use Rattle.std.proofs.Common.{◌≡◌, ℕ, zero, suc, ◌+◌, ◌-◌, ◌<◌, ◌≤◌, min, Bool, true, false, List, [], ◌∷◌, length, drop, ℤ, None, refl, sym, subst, ap, ◌∙◌, arith}
use Rattle.std.proofs.lemmas.Iterator.{YieldsList}
use Rattle.std.proofs.lemmas.Iterator.Consumers.{YieldsList-from_shown}
use Rattle.std.specs.Range.{range_inclusive_start, range_inclusive_end, range_inclusive_exhausted, range_inclusive_len, range_inclusive_left, range_inclusive_steps}
use Rattle.std.specs.declared.ops.RangeInclusive.{RangeInclusive}
use Rattle.std.specs.List.{slice_get}
use Rattle.drive.specs.declared.profile.Profile.{Profile}
use Rattle.rules.specs.World.{Core, numbers, numbers_from}
use Rattle.rules.specs.Deeds.{starts, first_waypoint, beat, beats, wait}

-- the numbers that are left, from i to n
pub numbers_more : (i n : ℕ) → i ≤ n → numbers_from i (n + 1 - i) ≡ i ∷ numbers_from (i + 1) (n + 1 - (i + 1))
numbers_more i n h =
    let e : n + 1 - i ≡ suc (n + 1 - (i + 1)) = omega arith in
    let next : suc i ≡ i + 1 = omega arith in
    ap (numbers_from i) e ∙ ap (λ j. i ∷ numbers_from j (n + 1 - (i + 1))) next

-- the numbers that a range has left, its end among them
abbrev numbers_left : RangeInclusive ℕ → List ℕ
numbers_left s = numbers_from (range_inclusive_start s) (range_inclusive_left (λ x y. y - x) s)

one_number : (i j n m : ℕ) (b : Bool) → m + 1 ≡ n → (b ≡ true → m ≡ 0) → (b ≡ false → j ≡ i + 1) → numbers_from i n ≡ i ∷ numbers_from j m
one_number i j n m true e z f =
    let d : n ≡ 1 = omega (arith, z refl) in
    ap (numbers_from i) d ∙ ap (λ k. i ∷ numbers_from j k) (sym (z refl))
one_number i j n m false e z f =
    let d : n ≡ suc m = omega arith in
    let next : suc i ≡ j = omega (arith, f refl) in
    ap (numbers_from i) d ∙ ap (λ k. i ∷ numbers_from k m) next

pub range_yields : (s : RangeInclusive ℕ) (n : ℕ) → range_inclusive_start s ≡ 1 → range_inclusive_end s ≡ n → range_inclusive_exhausted s ≡ false → YieldsList (range_inclusive_steps (λ x y. y - x) (λ x y. y ≡ x + 1)) (λ x. x) s (numbers n)
range_yields s n a b f =
    let len = range_inclusive_len (λ x y. y - x) in
    let l : range_inclusive_left (λ x y. y - x) s ≡ n = ap (len (range_inclusive_start s) (range_inclusive_end s)) f ∙ omega arith in
    let e : numbers_left s ≡ numbers n = ap (λ i. numbers_from i (range_inclusive_left (λ x y. y - x) s)) a ∙ ap (numbers_from 1) l in
    let P : List ℕ → Type 0 = λ xs. YieldsList (range_inclusive_steps (λ x y. y - x) (λ x y. y ≡ x + 1)) (λ x. x) s xs in
    subst P e
    (YieldsList-from_shown (range_inclusive_steps (λ x y. y - x) (λ x y. y ≡ x + 1)) (λ x. x) numbers_left
    (λ s t h. ap (λ m. length (numbers_from (range_inclusive_start s) m)) h.1.0)
    (λ s x t h. one_number (range_inclusive_start s) (range_inclusive_start t) _ _ (range_inclusive_exhausted t) h.1.1 (λ z. ap (len (range_inclusive_start t) (range_inclusive_end t)) z) h.1.2
    ∙ ap (λ y. y ∷ numbers_left t) (sym h.1.0))
    s)

-- no starts are left, where as many are made as there are axes or positions
pub starts_none : (q : Profile) (ns : List ℕ) → starts q ns [] ≡ []
starts_none q [] = refl
starts_none q (n ∷ ns) = refl

pub starts_all : (q : Profile) (ns : List ℕ) (zs : List ℤ) (k : ℕ) → min (length ns) (length zs) ≤ k → starts q (drop k ns) (drop k zs) ≡ []
starts_all q [] zs zero h = refl
starts_all q [] zs (suc k) h = refl
starts_all q (n ∷ ns) [] zero h = refl
starts_all q (n ∷ ns) [] (suc k) h = starts_none q (drop k ns)
starts_all q (n ∷ ns) (z ∷ zs) zero h = absurd (omega arith)
starts_all q (n ∷ ns) (z ∷ zs) (suc k) h = starts_all q ns zs k (omega arith)

-- where no waypoint waits, none is started
pub none_first : (q : Profile) (ns : List ℕ) (ws : List (List ℤ)) → None ≡ slice_get ws 0 → starts q ns (first_waypoint ws) ≡ []
none_first q ns [] e = starts_none q ns
none_first q ns (w ∷ ws) e = let z : ◌≡◌ {A = ℕ} 0 1 = cc in absurd (omega arith)

-- i of n beats are made
pub beats_more : (n i : ℕ) (k : Core) → i < n → (beats (n - i) k).core ≡ (beats (n - (i + 1)) (beat k).core).core
beats_more n i k h =
    let e : n - i ≡ suc (n - (i + 1)) = omega arith in
    ap (λ m. (beats m k).core) e

-- of a wait of n beats at most, i are made; the test passes now, or not
pub wait_over : (n : ℕ) (done : Core → Bool) (k : Core) → done k ≡ true → (wait n (done k) done k).core ≡ k
wait_over zero done k h = refl
wait_over (suc n) done k h = ap (λ b. (wait (suc n) b done k).core) h

pub wait_more : (n i : ℕ) (done : Core → Bool) (k : Core) → i < n → done k ≡ false → (wait (n - i) (done k) done k).core ≡ (wait (n - (i + 1)) (done (beat k).core) done (beat k).core).core
wait_more n i done k h f =
    let e : n - i ≡ suc (n - (i + 1)) = omega arith in
    ap (λ m. (wait m (done k) done k).core) e ∙ ap (λ b. (wait (suc (n - (i + 1))) b done k).core) f

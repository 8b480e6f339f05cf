-- What is asked and done, in a bank's array and in the list of axes that the bank means.
use Rattle.std.specs.Prelude.{◌≡◌, ℕ, zero, suc, ◌+◌, ◌<◌, ◌≤◌, ◌⊎◌, List, [], ◌∷◌, ◌++◌, map, length, get_or, take, drop, set, replicate, Ok, Err, Result, slice_index_or, slice_set, refl}
use Rattle.std.proofs.Common.{sym, ◌∙◌, ap, inl, inr, arith, add-one}
use Rattle.std.specs.Borrow.{MutBor}
use Rattle.std.specs.Fn.{Once, FnOnceReturnsAtMut}
use Rattle.std.specs.List.{AllByRecursion}
use Rattle.std.proofs.lemmas.List.{length-map, length-take-le, get_or-take, get_or-map, map-set, take_all, drop_all, append-nil}
use Rattle.std.proofs.lemmas.Result.{err_from_is_err_and}
use Rattle.std.specs.Result.{IsErrAnd}
use Rattle.std.proofs.lemmas.List.Edits.{map_over_more}
use Rattle.drive.specs.declared.refusal.DriveRefusal.{DriveRefusal}
use Rattle.drive.specs.declared.refusal.DriveRefusal.TheVariants.{NoSuchAxis}
use Rattle.drive.specs.Model.{Axis, SoundAxis, Sound, Change, ask, ask_axis, at, at_axis}

pub view_length : {X : Type 0} (m : X → Axis) (n : ℕ) (xs : List X) → n ≤ length xs → length (map m (take n xs)) ≡ n
view_length m n xs h = rw (length-map, length-take-le)

all_sound : {X : Type 0} (m : X → Axis) → ((x : X) → SoundAxis (m x)) → (xs : List X) → AllByRecursion SoundAxis (map m xs)
all_sound m s [] = tt
all_sound m s (x ∷ xs) = (s x, all_sound m s xs)

pub view_sound : {X : Type 0} (m : X → Axis) → ((x : X) → SoundAxis (m x)) → (n : ℕ) (xs : List X) → 2 ≤ n → n ≤ 12 → n ≤ length xs → Sound (map m (take n xs))
view_sound m s n xs least most h =
    let l = view_length m n xs h in
    record { least = rw l least; most = rw l most; each = all_sound m s (take n xs) }

-- of a table of 12 rows
pub table_sound : {X : Type 0} (m : X → Axis) → ((x : X) → SoundAxis (m x)) → (n : ℕ) (xs : List X) → 2 ≤ n → n ≤ 12 → length xs ≡ 12 → Sound (map m (take n xs))
table_sound m s n xs least most room = view_sound m s n xs least most (omega arith)

-- ---- no such axis

ask_past : {R : Type 0} (f : Axis → R) (i : ℕ) (xs : List Axis) → length xs ≤ i → ask f i xs ≡ Err NoSuchAxis
ask_past f i [] h = refl
ask_past f zero (a ∷ xs) h = absurd (omega arith)
ask_past f (suc i) (a ∷ xs) h = ask_past f i xs (omega arith)

ask_out : {R : Type 0} (f : Axis → R) (k : ℕ) (xs : List Axis) → (k < 1) ⊎ (length xs < k) → Err NoSuchAxis ≡ ask_axis f k xs
ask_out f zero xs h = refl
ask_out f (suc i) xs (inl h) = absurd (omega arith)
ask_out f (suc i) xs (inr h) = sym (ask_past f i xs (omega arith))

at_past : (f : Change) (i : ℕ) (xs : List Axis) → length xs ≤ i → at f i xs ≡ (Err NoSuchAxis, xs)
at_past f i [] h = refl
at_past f zero (a ∷ xs) h = absurd (omega arith)
at_past f (suc i) (a ∷ xs) h = ap (λ r. (r.0, a ∷ r.1)) (at_past f i xs (omega arith))

at_out : (f : Change) (k : ℕ) (xs : List Axis) → (k < 1) ⊎ (length xs < k) → (Err NoSuchAxis, xs) ≡ at_axis f k xs
at_out f zero xs h = refl
at_out f (suc i) xs (inl h) = absurd (omega arith)
at_out f (suc i) xs (inr h) = sym (at_past f i xs (omega arith))

-- ---- an axis of the bank

ask_here : {X R : Type 0} (m : X → Axis) (f : Axis → R) (n i : ℕ) (xs : List X) (x : X) → i < n → n ≤ length xs → ask f i (map m (take n xs)) ≡ Ok (f (m (slice_index_or xs i x)))
ask_here m f zero i xs x l h = absurd (omega arith)
ask_here m f (suc n) i [] x l h = absurd (omega arith)
ask_here m f (suc n) zero (y ∷ xs) x l h = refl
ask_here m f (suc n) (suc i) (y ∷ xs) x l h = ask_here m f n i xs x (omega arith) (omega arith)

at_here : {X : Type 0} (m : X → Axis) (f : Change) (n i : ℕ) (xs : List X) (x y : X) (r : Result Unit DriveRefusal) → i < n → n ≤ length xs → (r, m y) ≡ f (m (slice_index_or xs i x)) →
    at f i (map m (take n xs)) ≡ (r, map m (take n (slice_set xs i y)))
at_here m f zero i xs x y r l h e = absurd (omega arith)
at_here m f (suc n) i [] x y r l h e = absurd (omega arith)
at_here m f (suc n) zero (z ∷ xs) x y r l h e = ap (λ q. (q.0, q.1 ∷ map m (take n xs))) (sym e)
at_here m f (suc n) (suc i) (z ∷ xs) x y r l h e = ap (λ q. (q.0, m z ∷ q.1)) (at_here m f n i xs x y r (omega arith) (omega arith) e)

-- what the array answers is what the list answers, for the axis numbered k
module _ {X R : Type 0} (m : X → Axis) (f : Axis → R) (n : ℕ) (xs : List X) (k : ℕ) where
  pub told_none : n ≤ length xs → (k < 1) ⊎ (n < k) → Err NoSuchAxis ≡ ask_axis f k (map m (take n xs))
  told_none h out = ask_out f k (map m (take n xs)) (rw (view_length m n xs h) out)

  pub told_some : (i : ℕ) (x : X) (a : R) → n ≤ length xs → (i < n) × (k ≡ i + 1) → a ≡ f (m (slice_index_or xs i x)) → Ok a ≡ ask_axis f k (map m (take n xs))
  told_some i x a h at_i e = rw (at_i.1, add-one) (ap Ok e ∙ sym (ask_here m f n i xs x at_i.0 h))

-- what is done in the array is what is done in the list, to the axis numbered k
module _ {X : Type 0} (m : X → Axis) (f : Change) (n : ℕ) (xs : List X) (k : ℕ) where
  pub done_none : n ≤ length xs → (k < 1) ⊎ (n < k) → (Err NoSuchAxis, map m (take n xs)) ≡ at_axis f k (map m (take n xs))
  done_none h out = at_out f k (map m (take n xs)) (rw (view_length m n xs h) out)

  pub done_some : (i j : ℕ) (x y : X) (ys : List X) (r : Result Unit DriveRefusal) → n ≤ length xs → (i < n) × (k ≡ i + 1) → (r, m y) ≡ f (m (slice_index_or xs i x)) → ys ≡ slice_set xs i y → j ≡ n →
      (r, map m (take j ys)) ≡ at_axis f k (map m (take n xs))
  done_some i j x y ys r h at_i e put kept = rw (put, kept, at_i.1, add-one) (sym (at_here m f n i xs x y r at_i.0 h e))

-- ---- as the functions have them

-- a refusal that is passed up is that of the list
pub asked_err : {X R : Type 0} (m : X → Axis) (f : Axis → R) (n : ℕ) (xs : List X) (k : ℕ) (r : Result R DriveRefusal) (e : DriveRefusal) →
    n ≤ length xs → (e ≡ NoSuchAxis) × ((k < 1) ⊎ (n < k)) → IsErrAnd r (λ y. y ≡ e) → r ≡ ask_axis f k (map m (take n xs))
asked_err m f n xs k r e h out is =
    let p = err_from_is_err_and r is in
    rw (p.1, p.2, out.0) (told_none m f n xs k h out.1)

pub changed_err : {X : Type 0} (m : X → Axis) (f : Change) (n : ℕ) (xs : List X) (k : ℕ) (r : Result Unit DriveRefusal) (e : DriveRefusal) →
    n ≤ length xs → (e ≡ NoSuchAxis) × ((k < 1) ⊎ (n < k)) → IsErrAnd r (λ y. y ≡ e) → (r, map m (take n xs)) ≡ at_axis f k (map m (take n xs))
changed_err m f n xs k r e h out is =
    let p = err_from_is_err_and r is in
    rw (p.1, p.2, out.0) (done_none m f n xs k h out.1)

-- a call at a `&mut` to the axis in place i, which leaves in that place what it leaves there
pub changed_ok : {X F : Type 0} (m : X → Axis) (f : Change) (n : ℕ) (xs : List X) (k i j : ℕ) (x : X) (ys : List X) (g : Once F (MutBor X × Unit {0}) (Result Unit DriveRefusal × (MutBor X × Unit {0}))) (call : F) (p q : MutBor X) (r : Result Unit DriveRefusal) →
    ((y z : X) (e : Result Unit DriveRefusal) → FnOnceReturnsAtMut g call y e z → (e, m z) ≡ f (m y)) → g.post call (p, tt) (r, (q, tt)) → p.now ≡ slice_index_or xs i x →
    n ≤ length xs → (i < n) × (k ≡ i + 1) → ys ≡ slice_set xs i q.now → j ≡ n → (r, map m (take j ys)) ≡ at_axis f k (map m (take n xs))
changed_ok m f n xs k i j x ys g call p q r met post at_x h at_i put kept =
    done_some m f n xs k i j x q.now ys r h at_i (met (slice_index_or xs i x) q.now r (record { shown = p; shows = at_x; left = q; met = post; leaves = refl })) put kept

-- ---- a tick

-- one more of a slice has ticked
pub tick_next : {X : Type 0} (m : X → Axis) (f : Axis → Axis) (i : ℕ) (old xs : List X) (x y : X) → i < length xs → length xs ≡ length old →
    map m xs ≡ map f (take i (map m old)) ++ drop i (map m old) → m y ≡ f (m (slice_index_or xs i x)) →
    map m (slice_set xs i y) ≡ map f (take (i + 1) (map m old)) ++ drop (i + 1) (map m old)
tick_next m f i old xs x y l same inv e =
    let is : m (get_or xs i x) ≡ get_or (map m xs) i (m (get_or xs i x)) = sym (get_or-map m xs i x (m (get_or xs i x)) l) in
    let lt : i < length (map m old) = rw length-map (omega arith) in
    map-set m xs i y ∙ ap (set (map m xs) i) e ∙ map_over_more f (map m old) (map m xs) i (m (get_or xs i x)) lt inv is

put_map : {X Y : Type 0} (m : X → Y) (n i : ℕ) (xs : List X) (y : X) → i < n → map m (take n (slice_set xs i y)) ≡ slice_set (map m (take n xs)) i (m y)
put_map m zero i xs y l = absurd (omega arith)
put_map m (suc n) i [] y l = refl
put_map m (suc n) zero (x ∷ xs) y l = refl
put_map m (suc n) (suc i) (x ∷ xs) y l = ap (λ zs. m x ∷ zs) (put_map m n i xs y (omega arith))

-- one more of the first n axes has ticked
pub tick_more : {X : Type 0} (m : X → Axis) (f : Axis → Axis) (n i : ℕ) (old xs : List X) (x y : X) → i < n → n ≤ length xs → n ≤ length old →
    map m (take n xs) ≡ map f (take i (map m (take n old))) ++ drop i (map m (take n old)) → m y ≡ f (m (slice_index_or xs i x)) →
    map m (take n (slice_set xs i y)) ≡ map f (take (i + 1) (map m (take n old))) ++ drop (i + 1) (map m (take n old))
tick_more m f n i old xs x y l h h' inv e =
    let z = get_or xs i x in
    let is : m z ≡ get_or (map m (take n xs)) i (m z) = sym (get_or-map m (take n xs) i x (m z) (rw length-take-le l) ∙ ap m (get_or-take n xs i x l)) in
    let lt : i < length (map m (take n old)) = rw (length-map, length-take-le) l in
    put_map m n i xs y l ∙ ap (set (map m (take n xs)) i) e ∙ map_over_more f (map m (take n old)) (map m (take n xs)) i (m z) lt inv is

-- all have ticked
pub tick_all : {X : Type 0} (m : X → Axis) (f : Axis → Axis) (n i : ℕ) (old : List X) → n ≤ i → n ≤ length old → map f (take i (map m (take n old))) ++ drop i (map m (take n old)) ≡ map f (map m (take n old))
tick_all m f n i old h l =
    let k : length (map m (take n old)) ≤ i = rw (length-map, length-take-le) h in
    rw (take_all i (map m (take n old)) k, drop_all i (map m (take n old)) k, append-nil)

-- ---- a bank of equal axes

pub view_equal : {X Y : Type 0} (m : X → Y) (n k : ℕ) (x : X) → n ≤ k → map m (take n (replicate k x)) ≡ replicate n (m x)
view_equal m zero k x h = refl
view_equal m (suc n) zero x h = absurd (omega arith)
view_equal m (suc n) (suc k) x h = ap (λ ys. m x ∷ ys) (view_equal m n k x (omega arith))

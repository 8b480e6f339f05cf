-- On tables that are changed at one row, on tests, and on what a drive is told.
use Rattle.std.proofs.Common.{◌≡◌, ℕ, zero, suc, ◌<◌, ◌≤◌, Bool, true, false, cond, not, ◌&&◌, ◌||◌, T, eqb, leb, ◌⊎◌, List, [], ◌∷◌, ◌++◌, map, length, get_or, Some, None, sym, refl, ap, ◌∙◌, subst, inl, inr, le_of_suc-le-suc, not-suc-le-zero, arith, eqb→eq, leb→le}
use lib.Dec.{eqb_refl}
use Rattle.std.specs.List.{AllByRecursion, list_all}
use Rattle.drive.specs.Model.{Axis, Change, at, at_axis, start_axis, stop_axis, power_on_axis, power_off_axis, set_position_axis, tick_axis}
use Rattle.drive.specs.Calls.{Told, power_on, power_off, start, stop, set_position, tick, done, replay}
use Rattle.queue.specs.declared.error_entry.ErrorEntry.{ErrorEntry}
use Rattle.groups.specs.Groups.{has}
use Rattle.desk.specs.Tables.{there, row_or, changed, alter}
use Rattle.rules.specs.World.{no_drive_axis}
use Rattle.rules.specs.Refusals.{Test, needs, refusal}

-- ---- tables

module _ {X : Type 0} where
  changed_length : (f : X → X) (i : ℕ) (xs : List X) → length (changed f i xs) ≡ length xs
  changed_length f i [] = refl
  changed_length f zero (x ∷ xs) = refl
  changed_length f (suc i) (x ∷ xs) = ap suc (changed_length f i xs)

  pub alter_length : (f : X → X) (n : ℕ) (xs : List X) → length (alter f n xs) ≡ length xs
  alter_length f zero xs = refl
  alter_length f (suc i) xs = changed_length f i xs

  changed_keeps : (P : ℕ → X → Type 0) (f : X → X) (i : ℕ) (xs : List X) (d : X) → ((k : ℕ) → P k (get_or xs k d)) → P i (f (get_or xs i d)) → (k : ℕ) → P k (get_or (changed f i xs) k d)
  changed_keeps P f i [] d each here k = each k
  changed_keeps P f zero (x ∷ xs) d each here zero = here
  changed_keeps P f zero (x ∷ xs) d each here (suc k) = each (suc k)
  changed_keeps P f (suc i) (x ∷ xs) d each here zero = each zero
  changed_keeps P f (suc i) (x ∷ xs) d each here (suc k) = changed_keeps (λ m. P (suc m)) f i xs d (λ m. each (suc m)) here k

  -- what holds of each row still does, if it holds of the new one
  pub alter_keeps : (P : ℕ → X → Type 0) (f : X → X) (n : ℕ) (xs : List X) (d : X) → ((k : ℕ) → P k (row_or d k xs)) → P n (f (row_or d n xs)) → (k : ℕ) → P k (row_or d k (alter f n xs))
  alter_keeps P f zero xs d each here k = each k
  alter_keeps P f (suc i) xs d each here zero = each zero
  alter_keeps P f (suc i) xs d each here (suc k) = changed_keeps (λ m. P (suc m)) f i xs d (λ m. each (suc m)) here k

  changed_gives : (P : ℕ → X → Type 0) (f : X → X) (i : ℕ) (xs : List X) (d : X) → i < length xs → ((k : ℕ) → (k ≡ i → ⊥) → P k (get_or xs k d)) → P i (f (get_or xs i d)) → (k : ℕ) → P k (get_or (changed f i xs) k d)
  changed_gives P f i [] d h each here k = absurd (not-suc-le-zero h)
  changed_gives P f zero (x ∷ xs) d h each here zero = here
  changed_gives P f zero (x ∷ xs) d h each here (suc k) = each (suc k) (λ e. omega arith)
  changed_gives P f (suc i) (x ∷ xs) d h each here zero = each zero (λ e. omega arith)
  changed_gives P f (suc i) (x ∷ xs) d h each here (suc k) = changed_gives (λ m. P (suc m)) f i xs d (le_of_suc-le-suc h) (λ m e. each (suc m) (λ q. e (omega arith))) here k

  -- the same where the row is there and the old one need not have held
  pub alter_gives : (P : ℕ → X → Type 0) (f : X → X) (n : ℕ) (xs : List X) (d : X) → 1 ≤ n → n ≤ length xs → ((k : ℕ) → (k ≡ n → ⊥) → P k (row_or d k xs)) → P n (f (row_or d n xs)) → (k : ℕ) → P k (row_or d k (alter f n xs))
  alter_gives P f zero xs d low high each here k = absurd (omega arith)
  alter_gives P f (suc i) xs d low high each here zero = each zero (λ e. omega arith)
  alter_gives P f (suc i) xs d low high each here (suc k) = changed_gives (λ m. P (suc m)) f i xs d (omega arith) (λ m e. each (suc m) (λ q. e (omega arith))) here k

  mapped_keeps : (P : ℕ → X → Type 0) (f : X → X) (xs : List X) (d : X) → ((k : ℕ) → P k (get_or xs k d)) → ((k : ℕ) → P k (f (get_or xs k d))) → (k : ℕ) → P k (get_or (map f xs) k d)
  mapped_keeps P f [] d each here k = each k
  mapped_keeps P f (x ∷ xs) d each here zero = here zero
  mapped_keeps P f (x ∷ xs) d each here (suc k) = mapped_keeps (λ m. P (suc m)) f xs d (λ m. each (suc m)) (λ m. here (suc m)) k

  pub map_keeps : (P : ℕ → X → Type 0) (f : X → X) (xs : List X) (d : X) → ((k : ℕ) → P k (row_or d k xs)) → ((k : ℕ) → P k (f (row_or d k xs))) → (k : ℕ) → P k (row_or d k (map f xs))
  map_keeps P f xs d each here zero = each zero
  map_keeps P f xs d each here (suc k) = mapped_keeps (λ m. P (suc m)) f xs d (λ m. each (suc m)) (λ m. here (suc m)) k

-- ---- truths

pub and_l : (a b : Bool) → T (a && b) → T a
and_l true b h = tt
and_l false b h = h

pub and_r : (a b : Bool) → T (a && b) → T b
and_r true b h = h
and_r false b h = absurd h

pub and_both : (a b : Bool) → T a → T b → T (a && b)
and_both true b h k = k
and_both false b h k = h

pub or_r : (a b : Bool) → T b → T (a || b)
or_r true b h = tt
or_r false b h = h

pub or_l : (a b : Bool) → T a → T (a || b)
or_l true b h = tt
or_l false b h = absurd h

pub or_case : {P : Type 0} (a b : Bool) → (T a → P) → (T b → P) → T (a || b) → P
or_case true b f g h = f tt
or_case false b f g h = g h

pub true_of : (b : Bool) → T b → b ≡ true
true_of true h = refl
true_of false h = absurd h

pub not_both : (b : Bool) → T (not b) → T b → ⊥
not_both true h k = h
not_both false h k = k

pub there_low : {X : Type 0} (n : ℕ) (xs : List X) → T (there n xs) → 1 ≤ n
there_low n xs h = leb→le 1 n (and_l (leb 1 n) (leb n (length xs)) h)

pub there_high : {X : Type 0} (n : ℕ) (xs : List X) → T (there n xs) → n ≤ length xs
there_high n xs h = leb→le n (length xs) (and_r (leb 1 n) (leb n (length xs)) h)

-- one of two, by a test
pub picked : {X Y : Type 0} (b : Bool) (P : Y → Type 0) (u v : X × Y) → P u.1 → P v.1 → P (cond {A = X × Y} b u v).1
picked true P u v h k = h
picked false P u v h k = k

pub picked_when : {X Y : Type 0} (b : Bool) (P : Y → Type 0) (u v : X × Y) → (T b → P u.1) → P v.1 → P (cond {A = X × Y} b u v).1
picked_when true P u v h k = h tt
picked_when false P u v h k = k

pub picked_so : {X Y : Type 0} (b : Bool) (u v : X × Y) → T b → (cond {A = X × Y} b u v).1 ≡ u.1
picked_so true u v h = refl
picked_so false u v h = absurd h

-- ---- lists

pub has_case : {P : Type 0} (n m : ℕ) (ms : List ℕ) → (m ≡ n → P) → (T (has n ms) → P) → T (has n (m ∷ ms)) → P
has_case n m ms f g h = or_case (eqb m n) (has n ms) (λ e. f (eqb→eq m n e)) g h

pub has_first : (m : ℕ) (ms : List ℕ) → T (has m (m ∷ ms))
has_first m ms = or_l (eqb m m) (has m ms) (eqb_refl m)

pub has_later : (n m : ℕ) (ms : List ℕ) → T (has n ms) → T (has n (m ∷ ms))
has_later n m ms h = or_r (eqb m n) (has n ms) h

pub all_pass_has : (f : ℕ → Bool) (ns : List ℕ) (n : ℕ) → T (list_all f ns) → T (has n ns) → T (f n)
all_pass_has f [] n h e = absurd e
all_pass_has f (m ∷ ns) n h e = has_case n m ns (λ q. subst (λ k. T (f k)) q (and_l (f m) (list_all f ns) h)) (all_pass_has f ns n (and_r (f m) (list_all f ns) h)) e

module _ {X : Type 0} where
  pub all_weaker : (P Q : X → Type 0) → ((x : X) → P x → Q x) → (xs : List X) → AllByRecursion P xs → AllByRecursion Q xs
  all_weaker P Q f [] h = tt
  all_weaker P Q f (x ∷ xs) h = (f x h.0, all_weaker P Q f xs h.1)

  pub all_append : (P : X → Type 0) (xs ys : List X) → AllByRecursion P xs → AllByRecursion P ys → AllByRecursion P (xs ++ ys)
  all_append P [] ys h k = k
  all_append P (x ∷ xs) ys h k = (h.0, all_append P xs ys h.1 k)

  pub all_map : {Y : Type 0} (P : Y → Type 0) (f : X → Y) → ((x : X) → P (f x)) → (xs : List X) → AllByRecursion P (map f xs)
  all_map P f h [] = tt
  all_map P f h (x ∷ xs) = (h x, all_map P f h xs)

-- ---- tests

abbrev pub Passed : List Test → Type 0
Passed [] = Unit {0}
Passed (needs b e ∷ more) = T b × Passed more

-- a command is refused, or every test passed
pub judged : (ts : List Test) → ((e : ErrorEntry) × (refusal ts ≡ Some e)) ⊎ (Passed ts × (refusal ts ≡ None))
judged [] = inr (tt, refl)
judged (needs true e ∷ more) = elim (judged more) [ inl h ↦ inl h | inr h ↦ inr ((tt, h.0), h.1) ]
judged (needs false e ∷ more) = inl (e, refl)

pub passed_l : (ts us : List Test) → Passed (ts ++ us) → Passed ts
passed_l [] us h = tt
passed_l (needs b e ∷ ts) us h = (h.0, passed_l ts us h.1)

pub passed_r : (ts us : List Test) → Passed (ts ++ us) → Passed us
passed_r [] us h = h
passed_r (needs b e ∷ ts) us h = passed_r ts us h.1

-- ---- what is told

-- what one axis becomes that is told
abbrev pub effect : Told → Axis → Axis
effect (power_on n) a = (power_on_axis a).1
effect (power_off n) a = (power_off_axis a).1
effect (start n t q) a = (start_axis t q a).1
effect (stop n) a = (stop_axis a).1
effect (set_position n p) a = (set_position_axis p a).1
effect tick a = tick_axis a

-- the axis that is told; a tick is told to all
abbrev pub Touches : Told → ℕ → Type 0
Touches (power_on n) k = n ≡ k
Touches (power_off n) k = n ≡ k
Touches (start n t q) k = n ≡ k
Touches (stop n) k = n ≡ k
Touches (set_position n p) k = n ≡ k
Touches tick k = Unit {0}

pub at_alter : (f : Change) (n : ℕ) (xs : List Axis) → (at_axis f n xs).1 ≡ alter (λ a. (f a).1) n xs
at_alter f zero xs = refl
at_alter f (suc i) xs = go i xs
  where
    go : (i : ℕ) (xs : List Axis) → (at f i xs).1 ≡ changed (λ a. (f a).1) i xs
    go i [] = refl
    go zero (a ∷ xs) = refl
    go (suc i) (a ∷ xs) = ap (λ ys. a ∷ ys) (go i xs)

at_keeps : (P : ℕ → Axis → Type 0) (f : Change) (n : ℕ) (xs : List Axis) → ((k : ℕ) → P k (row_or no_drive_axis k xs)) → P n (f (row_or no_drive_axis n xs)).1 → (k : ℕ) → P k (row_or no_drive_axis k (at_axis f n xs).1)
at_keeps P f n xs each here k = subst (λ ys. P k (row_or no_drive_axis k ys)) (sym (at_alter f n xs)) (alter_keeps P (λ a. (f a).1) n xs no_drive_axis each here k)

-- what holds of each axis still does after it was told, if it holds of those that are told
pub done_keeps : (P : ℕ → Axis → Type 0) (t : Told) (xs : List Axis) → ((k : ℕ) → P k (row_or no_drive_axis k xs)) → ((k : ℕ) → Touches t k → P k (effect t (row_or no_drive_axis k xs))) → (k : ℕ) → P k (row_or no_drive_axis k (done t xs))
done_keeps P (power_on n) xs each here = at_keeps P power_on_axis n xs each (here n refl)
done_keeps P (power_off n) xs each here = at_keeps P power_off_axis n xs each (here n refl)
done_keeps P (start n t q) xs each here = at_keeps P (start_axis t q) n xs each (here n refl)
done_keeps P (stop n) xs each here = at_keeps P stop_axis n xs each (here n refl)
done_keeps P (set_position n p) xs each here = at_keeps P (set_position_axis p) n xs each (here n refl)
done_keeps P tick xs each here = map_keeps P tick_axis xs no_drive_axis each (λ k. here k tt)

pub replay_keeps : (P : ℕ → Axis → Type 0) (ts : List Told) (xs : List Axis) → AllByRecursion (λ t. (k : ℕ) (a : Axis) → Touches t k → P k a → P k (effect t a)) ts → ((k : ℕ) → P k (row_or no_drive_axis k xs)) → (k : ℕ) → P k (row_or no_drive_axis k (replay ts xs))
replay_keeps P [] xs h each = each
replay_keeps P (t ∷ ts) xs h each = replay_keeps P ts (done t xs) h.1 (done_keeps P t xs each (λ k e. h.0 k (row_or no_drive_axis k xs) e (each k)))

pub map_count : {X Y : Type 0} (f : X → Y) (xs : List X) → length (map f xs) ≡ length xs
map_count f [] = refl
map_count f (x ∷ xs) = ap suc (map_count f xs)

at_count : (f : Change) (n : ℕ) (xs : List Axis) → length (at_axis f n xs).1 ≡ length xs
at_count f n xs = ap length (at_alter f n xs) ∙ alter_length (λ a. (f a).1) n xs

done_count : (t : Told) (xs : List Axis) → length (done t xs) ≡ length xs
done_count (power_on n) xs = at_count power_on_axis n xs
done_count (power_off n) xs = at_count power_off_axis n xs
done_count (start n t q) xs = at_count (start_axis t q) n xs
done_count (stop n) xs = at_count stop_axis n xs
done_count (set_position n p) xs = at_count (set_position_axis p) n xs
done_count tick xs = map_count tick_axis xs

pub replay_count : (ts : List Told) (xs : List Axis) → length (replay ts xs) ≡ length xs
replay_count [] xs = refl
replay_count (t ∷ ts) xs = replay_count ts (done t xs) ∙ done_count t xs

pub replay_append : (ts us : List Told) (xs : List Axis) → replay (ts ++ us) xs ≡ replay us (replay ts xs)
replay_append [] us xs = refl
replay_append (t ∷ ts) us xs = replay_append ts us (done t xs)

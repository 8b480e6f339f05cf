-- The members of a group, the groups of an axis, and what a desk opens with.
use Rattle.std.proofs.Common.{◌≡◌, ℕ, zero, suc, ◌+◌, ◌<◌, ◌≤◌, Bool, true, false, not, cond, ltb, List, [], ◌∷◌, map, length, get_or, drop, replicate, Some, None, Option, refl, ap, arith}
use Rattle.std.specs.List.{prefix_len, position}
use Rattle.std.proofs.lemmas.List.{drop_more, drop_all}
use Rattle.std.proofs.lemmas.Bool.Decides.{nat_tests}
use Rattle.setup.specs.declared.record.SetupRecord.{SetupRecord}
use Rattle.drive.specs.declared.profile.Profile.{Profile}
use Rattle.desk.specs.declared.axis_settings.AxisSettings.{AxisSettings}
use Rattle.desk.specs.Axes.{opened_axis, short, own_of}
use Rattle.groups.specs.declared.group.Group.{Group}
use Rattle.groups.specs.Profiles.{lesser, least}
use Rattle.groups.specs.Groups.{group_model, members_of, has}
use Rattle.desk.specs.Desks.{first_with}

-- the smallest of the own profiles, one more at a time
pub least_more : (axes : List AxisSettings) (ms : List ℕ) (k : ℕ) (p : Profile) → k < length ms →
    least p (map (own_of axes) (drop k ms)) ≡ least (lesser p (own_of axes (get_or ms k 0))) (map (own_of axes) (drop (k + 1) ms))
least_more axes ms k p lt = rw (drop_more ms k 0 lt)

pub least_all : (axes : List AxisSettings) (ms : List ℕ) (k : ℕ) (p : Profile) → length ms ≤ k → least p (map (own_of axes) (drop k ms)) ≡ p
least_all axes ms k p h = rw (drop_all k ms h)

-- the first group with an axis
abbrev pub with_axis : ℕ → Group → Bool
with_axis axis g = has axis (members_of g.members)

first_step : (b : Bool) (k n m : ℕ) (o : Option ℕ) → o ≡ cond (ltb n m) (Some (suc k + n)) None →
    cond b (Some k) o ≡ cond (ltb (cond (not b) (1 + n) 0) (suc m)) (Some (k + cond (not b) (1 + n) 0)) None
first_step true k n m o e = grind (arith, nat_tests)
first_step false k n m o e = grind (arith, nat_tests)

first_from : (axis k : ℕ) (gs : List Group) →
    first_with axis k (map group_model gs) ≡ cond (ltb (prefix_len (λ g. not (with_axis axis g)) gs) (length gs)) (Some (k + prefix_len (λ g. not (with_axis axis g)) gs)) None
first_from axis k [] = refl
first_from axis k (g ∷ gs) = first_step (with_axis axis g) k (prefix_len (λ h. not (with_axis axis h)) gs) (length gs) _ (first_from axis (suc k) gs)

pub first_some : (axis : ℕ) (gs : List Group) (i : ℕ) → Some i ≡ position (with_axis axis) gs → first_with axis 1 (map group_model gs) ≡ Some (i + 1)
first_some axis gs i e = let f = first_from axis 1 gs in grind (arith, nat_tests)

pub first_none : (axis : ℕ) (gs : List Group) → None ≡ position (with_axis axis) gs → first_with axis 1 (map group_model gs) ≡ None
first_none axis gs e = let f = first_from axis 1 gs in grind (arith, nat_tests)

-- free groups, and the axes of an opening
pub map_replicate : {X Y : Type 0} (f : X → Y) (n : ℕ) (x : X) → map f (replicate n x) ≡ replicate n (f x)
map_replicate f zero x = refl
map_replicate f (suc n) x = ap (λ zs. f x ∷ zs) (map_replicate f n x)

pub opened_short : (rs : List SetupRecord) → short (map opened_axis rs) ≡ true
opened_short [] = refl
opened_short (r ∷ rs) = opened_short rs

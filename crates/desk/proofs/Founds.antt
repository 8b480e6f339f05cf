-- A group that is there, and one that is not.
use Rattle.std.proofs.Common.{◌≡◌, ℕ, suc, zero, ◌+◌, ◌-◌, ◌/◌, ◌≤◌, List, [], ◌∷◌, true, map, length, set, Some, None, Option, refl, sym, ap, ◌∙◌, arith}
use Rattle.std.specs.List.{slice_get}
use Rattle.std.proofs.lemmas.List.{length-map, map-set}
use Rattle.std.proofs.lemmas.Bool.{cond-true}
use Rattle.fixed.specs.Lists.{held}
use Rattle.desk.specs.declared.desk_state.Desk.{Desk}
use Rattle.groups.specs.declared.group.Group.{Group}
use Rattle.groups.specs.Groups.{GroupModel, group_model, free_group}
use Rattle.desk.specs.Desks.{model_of, group_at, in_use, at_group, on_group}
use Rattle.desk.specs.Tables.{row}
use Rattle.desk.specs.Found.{Found, Missing}
use Rattle.desk.proofs.Changes.{row_before, alter_set, alter_missing, there_some, there_none, row_or_some, row_or_none}

pub groups_length : (d : Desk) → length (model_of d).groups ≡ length (model_of d).axes / 2
groups_length d = length-map (held d.groups) group_model ∙ d.half

row_map_some : {X Y : Type 0} (g : X → Y) (n : ℕ) (xs : List X) (x : X) → Some x ≡ row n xs → Some (g x) ≡ row n (map g xs)
row_map_some g zero xs x e = absurd cc
row_map_some g (suc i) [] x e = absurd cc
row_map_some g (suc zero) (y ∷ ys) x e = let s : x ≡ y = cc in ap (λ z. Some (g z)) s
row_map_some g (suc (suc i)) (y ∷ ys) x e = row_map_some g (suc i) ys x e

row_map_none : {X Y : Type 0} (g : X → Y) (n : ℕ) (xs : List X) → None ≡ row n xs → None ≡ row n (map g xs)
row_map_none g zero xs e = refl
row_map_none g (suc i) [] e = refl
row_map_none g (suc zero) (y ∷ ys) e = absurd cc
row_map_none g (suc (suc i)) (y ∷ ys) e = row_map_none g (suc i) ys e

pub found_there : (d : Desk) (n : ℕ) (g : Group) → 1 ≤ n → Some g ≡ row n (held d.groups) → Found d n g
found_there d n g low e =
    let e' = row_map_some group_model n (held d.groups) g e in
    let is : group_at n (model_of d) ≡ group_model g = row_or_some free_group n (model_of d).groups (group_model g) e' in
    record {
      is_there = there_some n (model_of d).groups (group_model g) e';
      low = low;
      is = is;
      members = ap (λ m. m.members) is;
      profile = ap (λ m. m.profile) is;
      waiting = ap (λ m. m.waypoints) is;
      change = λ f. alter_set f free_group (model_of d).groups n low;
      stored = λ y. map-set group_model (held d.groups) (n - 1) y;
    }

pub found_missing : (d : Desk) (n : ℕ) → None ≡ row n (held d.groups) → Missing d n
found_missing d n e =
    let e' = row_map_none group_model n (held d.groups) e in
    let no = there_none n (model_of d).groups e' in
    record { not_there = no; free = row_or_none free_group n (model_of d).groups e'; change = λ f. alter_missing f (model_of d).groups n no }

pub found_at : (d : Desk) (n m : ℕ) (r : Option Group) → n ≡ m + 1 → r ≡ slice_get (held d.groups) m → elim r as (λ o. Type 0) [ Some g ↦ Found d n g | None ↦ Missing d n ]
found_at d n m (Some g) e is = found_there d n g (omega arith) (is ∙ sym (row_before (held d.groups) n m e))
found_at d n m None e is = found_missing d n (is ∙ sym (row_before (held d.groups) n m e))

-- a group that is stored in its place is changed as f changes it
pub group_changed : (f : GroupModel → GroupModel) (d : Desk) (n : ℕ) (a b : Group) (gs : List Group) → Found d n a → in_use n (model_of d) ≡ true → group_model b ≡ f (group_model a) → gs ≡ set (held d.groups) (n - 1) b →
    (true, record { axes = held d.axes; groups = map group_model gs }) ≡ on_group f n (model_of d)
group_changed f d n a b gs found used is done =
    let new : map group_model gs ≡ (at_group f n (model_of d)).groups =
    ap (λ z. map group_model z) done ∙ found.stored b ∙ ap (λ z. set (model_of d).groups (n - 1) z) (is ∙ ap f (sym found.is)) ∙ sym (found.change f)
    in
    ap (λ z. (true, record { axes = held d.axes; groups = z })) new ∙ sym (cond-true _ _ _ used)

-- Rows of tables that are numbered from 1.
use Rattle.std.proofs.Common.{◌≡◌, ℕ, zero, suc, ◌/◌, ◌<◌, ◌≤◌, min, true, false, cond, ◌||◌, List, [], ◌∷◌, length, get_or, take, is_some, Some, None, sym, refl, ap, ◌∙◌, ⊎_elim, arith}
use Rattle.std.proofs.lemmas.List.{get_or_past, length-take, length-map}
use Rattle.std.proofs.lemmas.Bool.{cases_lt}
use Rattle.std.specs.Result.{result_unwrap_or}
use Rattle.drive.specs.Model.{Axis, ask, ask_axis}
use Rattle.groups.specs.Groups.{GroupModel, group_model, has}
use Rattle.desk.specs.Tables.{row, row_or}
use Rattle.desk.specs.declared.desk_state.Desk.{Desk}
use Rattle.desk.specs.Desks.{model_of, first_with}
use Rattle.rules.specs.World.{no_drive_axis, taken_groups}

-- a question answered is what the row says
asked_index : {R : Type 0} (f : Axis → R) (i : ℕ) (axes : List Axis) → result_unwrap_or (ask f i axes) (f no_drive_axis) ≡ f (get_or axes i no_drive_axis)
asked_index f i [] = refl
asked_index f zero (a ∷ axes) = refl
asked_index f (suc i) (a ∷ axes) = asked_index f i axes

pub asked_row : {R : Type 0} (f : Axis → R) (n : ℕ) (axes : List Axis) → result_unwrap_or (ask_axis f n axes) (f no_drive_axis) ≡ f (row_or no_drive_axis n axes)
asked_row f zero axes = refl
asked_row f (suc i) axes = asked_index f i axes

-- a row that is found, and one that is not
pub row_some : {X : Type 0} (d : X) (n : ℕ) (xs : List X) (x : X) → row n xs ≡ Some x → row_or d n xs ≡ x
row_some d zero xs x e = absurd (grind arith)
row_some d (suc i) [] x e = absurd (grind arith)
row_some d (suc zero) (y ∷ xs) x e = cc
row_some d (suc (suc i)) (y ∷ xs) x e = row_some d (suc i) xs x e

pub row_none : {X : Type 0} (d : X) (n : ℕ) (xs : List X) → row n xs ≡ None → row_or d n xs ≡ d
row_none d zero xs e = refl
row_none d (suc i) [] e = refl
row_none d (suc zero) (y ∷ xs) e = absurd (grind arith)
row_none d (suc (suc i)) (y ∷ xs) e = row_none d (suc i) xs e

pub row_past : {X : Type 0} (d : X) (n : ℕ) (xs : List X) → length xs < n → row_or d n xs ≡ d
row_past d zero xs h = refl
row_past d (suc i) xs h = get_or_past xs i d (omega arith)

-- rows numbered from 1000 on are not there, where there are fewer
pub row_capped : {X : Type 0} (d : X) (n : ℕ) (xs : List X) → length xs < 1000 → row_or d (min n 1000) xs ≡ row_or d n xs
row_capped d n xs h =
    ⊎_elim (λ l. ap (λ m. row_or d m xs) (omega arith)) (λ g. row_past d (min n 1000) xs (omega arith) ∙ sym (row_past d n xs (omega arith))) (cases_lt n 1000)

-- an axis is in the first group that has it, if any has
pub taken_first : (n k : ℕ) (gs : List GroupModel) → is_some (first_with n k gs) ≡ taken_groups n gs
taken_first n k [] = refl
taken_first n k (g ∷ gs) =
    elim (has n g.members) as (λ b. is_some (cond b (Some k) (first_with n (suc k) gs)) ≡ (b || taken_groups n gs)) [ true ↦ refl | false ↦ taken_first n (suc k) gs ]

-- a desk has 12 axes and groups at most
pub twelve_axes : (d : Desk) → length (model_of d).axes ≤ 12
twelve_axes d = let a = length-take d.axes.len d.axes.items in let f = d.axes.few in omega arith

pub twelve_groups : (d : Desk) → length (model_of d).groups ≤ 12
twelve_groups d = let a = length-take d.groups.len d.groups.items in let b = length-map (take d.groups.len d.groups.items) group_model in let f = d.groups.few in omega arith

-- far fewer than the numbers that prefixes may say
pub few_axes : (d : Desk) → length (model_of d).axes < 1000
few_axes d = let t = twelve_axes d in omega arith

pub few_groups : (d : Desk) → length (model_of d).groups < 1000
few_groups d = let t = twelve_groups d in omega arith

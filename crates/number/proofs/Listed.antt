-- One item of a list after another.
use Rattle.std.proofs.Common.{◌≡◌, ℕ, Bool, true, false, List, [], ◌∷◌, ◌++◌, map, sym, refl, ap, ◌∙◌}
use Rattle.std.proofs.lemmas.List.{append_assoc, append-nil, map-append}
use Rattle.std.specs.Borrow.{Bor}
use Rattle.number.specs.Texts.{when, after_comma, list_text}
use Rattle.number.specs.Writer.{wrote}
use Rattle.number.specs.declared.writer.Writer.{Writer}
use Rattle.number.proofs.Wrote.{wrote_nothing, wrote_after}

-- whether there is an item
abbrev pub some : {A : Type 0} → List A → Bool
some [] = false
some (x ∷ xs) = true

some_map : {A B : Type 0} (f : A → B) (xs : List A) → some (map f xs) ≡ some xs
some_map f [] = refl
some_map f (x ∷ xs) = refl

after_push : (xs : List (List ℕ)) (y : List ℕ) → after_comma (xs ++ (y ∷ [])) ≡ after_comma xs ++ (44 ∷ y)
after_push [] y = ap (λ l. 44 ∷ l) (append-nil y)
after_push (x ∷ xs) y = ap (λ l. 44 ∷ l) (ap (λ l. x ++ l) (after_push xs y) ∙ sym (append_assoc x (after_comma xs) (44 ∷ y)))

-- a comma stands in front of each text but the first
list_push : (xs : List (List ℕ)) (y : List ℕ) → list_text (xs ++ (y ∷ [])) ≡ list_text xs ++ (when (some xs) 44 ++ y)
unfolding list_text
list_push [] y = append-nil y
list_push (x ∷ xs) y = ap (λ l. x ++ l) (after_push xs y) ∙ sym (append_assoc x (after_comma xs) (44 ∷ y))

-- one item more
pub item_more : {A : Type 0} {r v u : Writer} {b : Bool} (text : A → List ℕ) (w : Writer) (xs : List A) (x : A) → r ≡ wrote w (list_text (map text xs)) → b ≡ some xs → v ≡ wrote r (when b 44) → u ≡ wrote v (text x) → u ≡ wrote w (list_text (map text (xs ++ (x ∷ []))))
item_more {A} {r} {v} {u} {b} text w xs x e be f g =
    let all : List (List ℕ) = map text xs in
    let comma : List ℕ = when b 44 in
    let first : some all ≡ b = some_map text xs ∙ sym be in
    g ∙ ap (λ y. wrote y (text x)) (f ∙ ap (λ y. wrote y comma) e) ∙ wrote_after (wrote w (list_text all)) comma (text x)
    ∙ wrote_after w (list_text all) (comma ++ text x)
    ∙ ap (wrote w) (ap (λ c. list_text all ++ (when c 44 ++ text x)) (sym first) ∙ sym (list_push all (text x)) ∙ ap list_text (sym (map-append text xs (x ∷ []))))

pub some_now : {A : Type 0} (xs : List A) (x : A) → true ≡ some (xs ++ (x ∷ []))
some_now [] x = refl
some_now (y ∷ xs) x = refl

-- the texts of what references point at
pub read_now : {A : Type 0} (text : A → List ℕ) (rs : List (Bor A)) → map (λ r. text r.now) rs ≡ map text (map (λ r. r.now) rs)
read_now text [] = refl
read_now text (r ∷ rs) = ap (λ l. text r.now ∷ l) (read_now text rs)

-- no item yet
pub list_none : (w : Writer) → wrote w (list_text []) ≡ w
unfolding list_text
list_none w = wrote_nothing w

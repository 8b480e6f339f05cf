-- Parts of a line, as they are read.
use Rattle.std.proofs.Common.{◌≡◌, ℕ, suc, ◌+◌, ◌<◌, ◌≤◌, true, false, cond, ltb, List, [], ◌∷◌, length, take, drop, Some, None, sym, refl, ap, ◌∙◌, one-add, arith}
use Rattle.std.specs.List.{prefix_len}
use Rattle.std.proofs.lemmas.Bool.{cond_both, ltb-true, ltb-false}
use Rattle.command.specs.Lines.{apart, front, past, behind, up_to, begun, later, parts, parts_left}

pub up_to_is : (s : ℕ) (xs : List ℕ) → up_to s xs ≡ take (prefix_len (apart s) xs) xs
up_to_is s [] = refl
up_to_is s (x ∷ xs) =
    let step = one-add (prefix_len (apart s) xs) in
    elim (apart s x) as (λ b. cond b (x ∷ up_to s xs) [] ≡ take (cond b (1 + prefix_len (apart s) xs) 0) (x ∷ xs)) [
      | true ↦ ap (λ l. x ∷ l) (up_to_is s xs) ∙ ap (λ n. take n (x ∷ xs)) (sym step)
      | false ↦ refl
    ]

later_more : (s c : ℕ) (xs : List ℕ) → prefix_len (apart s) xs < length xs → later s c xs ≡ parts s (c + prefix_len (apart s) xs + 1) (drop (prefix_len (apart s) xs + 1) xs)
later_more s c [] h = absurd (omega arith)
later_more s c (x ∷ xs) h =
    let n = prefix_len (apart s) xs in
    let on : c + 1 + n + 1 ≡ c + (1 + n) + 1 = omega arith in
    let past : suc (n + 1) ≡ 1 + n + 1 = omega arith in
    let here : c + 1 ≡ c + 0 + 1 = omega arith in
    (elim (apart s x) as (λ b. cond b (1 + n) 0 < suc (length xs) → begun b (c + 1, up_to s xs) (later s (c + 1) xs) ≡ parts s (c + cond b (1 + n) 0 + 1) (drop (cond b (1 + n) 0 + 1) (x ∷ xs))) [
      | true ↦ λ g. later_more s (c + 1) xs (omega arith) ∙ (λ i. parts s (on i) (drop (past i) (x ∷ xs)))
      | false ↦ λ g. ap (λ k. parts s k xs) here
    ]) h

later_none : (s c : ℕ) (xs : List ℕ) → length xs ≤ prefix_len (apart s) xs → later s c xs ≡ []
later_none s c [] h = refl
later_none s c (x ∷ xs) h = let more = later_none s (c + 1) xs in grind arith

-- the first part, and the parts of what follows its separator; n bytes stand before that
pub parts_more : (s c n : ℕ) (xs : List ℕ) → n ≡ prefix_len (apart s) xs → n < length xs → parts s c xs ≡ (c, take n xs) ∷ parts s (c + n + 1) (drop (n + 1) xs)
parts_more s c n xs e h =
    let m = later_more s c xs (omega arith) in
    (λ i. (c, up_to_is s xs i) ∷ m i) ∙ ap (λ k. (c, take k xs) ∷ parts s (c + k + 1) (drop (k + 1) xs)) (sym e)

-- the last part
pub parts_last : (s c n : ℕ) (xs : List ℕ) → n ≡ prefix_len (apart s) xs → length xs ≤ n → parts s c xs ≡ (c, take n xs) ∷ []
parts_last s c n xs e h = (λ i. (c, up_to_is s xs i) ∷ later_none s c xs (omega arith) i) ∙ ap (λ k. (c, take k xs) ∷ []) (sym e)

-- the first part, and the parts of what stands behind it
pub parts_cut : (s c n : ℕ) (xs : List ℕ) → n ≡ prefix_len (apart s) xs → parts s c xs ≡ front n (c, xs) ∷ parts_left s (behind n (c, xs))
parts_cut s c n xs e =
    cond_both (ltb n (length xs)) (Some (past (n + 1) (c, xs))) None (λ o. parts s c xs ≡ front n (c, xs) ∷ parts_left s o)
    (λ t. let on : c + n + 1 ≡ c + (n + 1) = omega arith in parts_more s c n xs e (ltb-true n (length xs) t) ∙ ap (λ k. (c, take n xs) ∷ parts s k (drop (n + 1) xs)) on)
    (λ t. parts_last s c n xs e (ltb-false n (length xs) t))

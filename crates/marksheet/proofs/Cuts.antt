-- The first line of a text, and what stands behind it, by the number of bytes before the first that ends a line.
use Rattle.std.proofs.Common.{◌≡◌, ℕ, zero, suc, ◌+◌, ◌<◌, ◌≤◌, Bool, true, false, cond, not, eqb, List, [], ◌∷◌, length, get_or, take, drop, sym, refl, ap, subst, arith}
use Rattle.std.specs.List.{position_or_len}
use Rattle.std.proofs.lemmas.Bool.{or_parts}
use Rattle.std.proofs.lemmas.List.Sums.{position_or_len_is}
use Rattle.marksheet.specs.Cutting.{ends_line, first_line, without_lf, behind_line}

one_more : (n : ℕ) → 1 + n ≡ suc n
one_more n = omega arith

line_at : (text : List ℕ) → first_line text ≡ take (position_or_len ends_line text) text
line_at [] = refl
line_at (b ∷ bs) =
    elim (ends_line b) as (λ v. cond v [] (b ∷ first_line bs) ≡ take (cond (not v) (1 + position_or_len ends_line bs) 0) (b ∷ bs))
    [ true ↦ refl | false ↦ rw (one_more (position_or_len ends_line bs)) (ap (λ (xs : List ℕ). b ∷ xs) (line_at bs)) ]

behind_more : (b : ℕ) (bs : List ℕ) (v : Bool) → ends_line b ≡ v
    → behind_line bs ≡ behind_line (drop (position_or_len ends_line bs) bs)
    → behind_line (b ∷ bs) ≡ behind_line (drop (cond (not v) (1 + position_or_len ends_line bs) 0) (b ∷ bs))
behind_more b bs true e rest = refl
behind_more b bs false e rest =
    let parts = or_parts (eqb b 10) (eqb b 13) e in
    rw (one_more (position_or_len ends_line bs))
    (subst (λ (v : Bool). cond v (without_lf bs) (cond (eqb b 10) bs (behind_line bs)) ≡ behind_line (drop (position_or_len ends_line bs) bs)) (sym parts.1)
    (subst (λ (v : Bool). cond v bs (behind_line bs) ≡ behind_line (drop (position_or_len ends_line bs) bs)) (sym parts.0) rest))

behind_at : (text : List ℕ) → behind_line text ≡ behind_line (drop (position_or_len ends_line text) text)
behind_at [] = refl
behind_at (b ∷ bs) = behind_more b bs (ends_line b) refl (behind_at bs)

pub line_front : (text : List ℕ) (k : ℕ) → k ≤ length text → ((j : ℕ) → j < k → ends_line (get_or text j 0) ≡ false)
    → (k < length text → ends_line (get_or text k 0) ≡ true) → take k text ≡ first_line text
line_front text k within plain stops =
    let e : position_or_len ends_line text ≡ k = position_or_len_is ends_line text k 0 within plain stops in
    rw (← e) (sym (line_at text))

pub behind_stopped : (text : List ℕ) (k : ℕ) → k ≤ length text → ((j : ℕ) → j < k → ends_line (get_or text j 0) ≡ false)
    → (k < length text → ends_line (get_or text k 0) ≡ true) → behind_line (drop k text) ≡ behind_line text
behind_stopped text k within plain stops =
    let e : position_or_len ends_line text ≡ k = position_or_len_is ends_line text k 0 within plain stops in
    rw (← e) (sym (behind_at text))

-- no byte below an index ends a line
abbrev pub Plain : List ℕ → ℕ → Type 0
Plain text k = (j : ℕ) → j < k → ends_line (get_or text j 0) ≡ false

-- what stands behind the first line is found from any index below its end
pub behind_front : (text : List ℕ) (k : ℕ) → Plain text k → k ≤ length text → behind_line text ≡ behind_line (drop k text)
behind_front [] zero plain h = refl
behind_front [] (suc k) plain h = refl
behind_front (b ∷ bs) zero plain h = refl
behind_front (b ∷ bs) (suc k) plain h =
    let e : ends_line b ≡ false = plain 0 (omega arith) in
    let parts = or_parts (eqb b 10) (eqb b 13) e in
    let rest : behind_line bs ≡ behind_line (drop k bs) = behind_front bs k (λ j l. plain (suc j) (omega arith)) (omega arith) in
    subst (λ (v : Bool). cond v (without_lf bs) (cond (eqb b 10) bs (behind_line bs)) ≡ behind_line (drop k bs)) (sym parts.1)
    (subst (λ (v : Bool). cond v bs (behind_line bs) ≡ behind_line (drop k bs)) (sym parts.0) rest)

abbrev nothing : List ℕ
nothing = []

-- a text of one byte at most has nothing behind its first line
pub behind_short : (text : List ℕ) → length text < 2 → behind_line text ≡ drop (length text) text
behind_short [] h = refl
behind_short (b ∷ []) h =
    elim (eqb b 13) as (λ v. cond v nothing (cond (eqb b 10) nothing nothing) ≡ nothing)
    [ true ↦ refl | false ↦ elim (eqb b 10) as (λ v. cond v nothing nothing ≡ nothing) [ true ↦ refl | false ↦ refl ] ]
behind_short (b ∷ (d ∷ bs)) h = absurd (omega arith)

pub no_bytes : (text : List ℕ) → length text ≡ 0 → text ≡ []
no_bytes [] h = refl
no_bytes (b ∷ bs) h = absurd (omega arith)

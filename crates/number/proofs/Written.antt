-- One write after another.
use Rattle.std.proofs.Common.{◌≡◌, ℕ, suc, ◌+◌, ◌-◌, ◌<◌, ◌≤◌, List, [], ◌∷◌, ◌++◌, length, take, drop, set, sym, ap, ◌∙◌, ⊎_elim, add-one, arith}
use Rattle.std.proofs.lemmas.List.{append_assoc, length-append, length-take, length-drop, take-append-drop, take-append-le, take_all, take_at, drop_at, drop-drop, set_split}
use Rattle.std.proofs.lemmas.Bool.{cases_lt}
use Rattle.number.specs.Writing.{fitting, write}

-- where there is room
pub write_room : (was : List ℕ) (at : ℕ) (bytes : List ℕ) → at + length bytes ≤ length was → write was at bytes ≡ (at + length bytes, take at was ++ (bytes ++ drop (at + length bytes) was))
unfolding write
write_room was at bytes h =
    let all : fitting was at bytes ≡ bytes = take_all (length was - at) bytes (omega arith) in
    (λ i. (at + length (all i), take at was ++ (all i ++ drop (at + length (all i)) was)))

-- where there is none
pub write_full : (was : List ℕ) (at : ℕ) (bytes : List ℕ) → length was ≤ at → write was at bytes ≡ (at, was)
unfolding write
write_full was at bytes h =
    let no : length was - at ≡ 0 = omega arith in
    let end : at + 0 ≡ at = omega arith in
    (λ i. (at + length (take (no i) bytes), take at was ++ (take (no i) bytes ++ drop (at + length (take (no i) bytes)) was)))
    ∙ (λ i. (end i, take at was ++ drop (end i) was)) ∙ (λ i. (at, take-append-drop at was i))

pub write_nothing : (was : List ℕ) (at : ℕ) → write was at [] ≡ (at, was)
write_nothing was at =
    let end : at + 0 ≡ at = omega arith in
    ⊎_elim
    (λ h. write_room was at [] (omega arith) ∙ (λ i. (end i, take at was ++ drop (end i) was)) ∙ (λ i. (at, take-append-drop at was i)))
    (λ h. write_full was at [] h)
    (cases_lt at (length was))

pub write_one : (was : List ℕ) (at b : ℕ) → at < length was → (at + 1, set was at b) ≡ write was at (b ∷ [])
write_one was at b h = sym (write_room was at (b ∷ []) (omega arith) ∙ (λ i. (at + 1, (ap (λ k. take at was ++ b ∷ drop k was) (add-one at) ∙ sym (set_split was at b h)) i)))

take_past : (xs ys : List ℕ) (k : ℕ) → take (length xs + k) (xs ++ ys) ≡ xs ++ take k ys
take_past [] ys k = let e : 0 + k ≡ k = omega arith in ap (λ j. take j ys) e
take_past (x ∷ xs) ys k =
    let e : suc (length xs) + k ≡ suc (length xs + k) = omega arith in
    ap (λ j. take j (x ∷ (xs ++ ys))) e ∙ ap (λ l. x ∷ l) (take_past xs ys k)

-- a buffer keeps its length
pub length_write : (was : List ℕ) (at : ℕ) (bytes : List ℕ) → length (write was at bytes).1 ≡ length was
unfolding write
length_write was at bytes = simp (length-append, length-take, length-drop) (omega arith)

module _ (was : List ℕ) (at : ℕ) (xs ys : List ℕ) where
  -- what is behind the end is left out
  cut_off : length was ≤ at + length xs → write was at (xs ++ ys) ≡ write was at xs
  unfolding write
  cut_off h =
      let same : fitting was at (xs ++ ys) ≡ fitting was at xs = take-append-le (length was - at) xs ys (omega arith) in
      (λ i. (at + length (same i), take at was ++ (same i ++ drop (at + length (same i)) was)))

  ends_full : length was ≤ at + length xs → length was ≤ (write was at xs).0
  unfolding write
  ends_full h = simp length-take (omega arith)

  joined : at + length xs ≤ length was → write was at (xs ++ ys) ≡ write (take at was ++ (xs ++ drop (at + length xs) was)) (at + length xs) ys
  unfolding write
  joined h =
      let mid : ℕ = at + length xs in
      let is : List ℕ = take at was ++ (xs ++ drop mid was) in
      let f : List ℕ = take (length was - mid) ys in
      let long : length is ≡ length was = simp (length-append, length-take, length-drop) (omega arith) in
      let begin : length (take at was ++ xs) ≡ mid = simp (length-append, length-take) (omega arith) in
      let whole : is ≡ (take at was ++ xs) ++ drop mid was = sym (append_assoc (take at was) xs (drop mid was)) in
      let up : take mid is ≡ take at was ++ xs = ap (take mid) whole ∙ take_at _ (drop mid was) mid begin in
      let rest : drop mid is ≡ drop mid was = ap (drop mid) whole ∙ drop_at _ (drop mid was) mid begin in
      let after : (k : ℕ) → drop (mid + k) is ≡ drop (mid + k) was = (λ k. sym (drop-drop k mid is) ∙ ap (drop k) rest ∙ drop-drop k mid was) in
      let split : length was - at ≡ length xs + (length was - mid) = omega arith in
      let bytes : fitting was at (xs ++ ys) ≡ xs ++ f = ap (λ k. take k (xs ++ ys)) split ∙ take_past xs ys (length was - mid) in
      let end : at + length (xs ++ f) ≡ mid + length f = simp length-append (omega arith) in
      (λ i. (at + length (bytes i), take at was ++ (bytes i ++ drop (at + length (bytes i)) was)))
      ∙ (λ i. (end i, take at was ++ ((xs ++ f) ++ drop (end i) was)))
      ∙ (λ i. (mid + length f, (ap (λ l. take at was ++ l) (append_assoc xs f (drop (mid + length f) was)) ∙ sym (append_assoc (take at was) xs (f ++ drop (mid + length f) was))) i))
      ∙ (λ i. (mid + length (take (sym long i - mid) ys), sym up i ++ (take (sym long i - mid) ys ++ drop (mid + length (take (sym long i - mid) ys)) was)))
      ∙ (λ i. (mid + length (take (length is - mid) ys), take mid is ++ (take (length is - mid) ys ++ sym (after (length (take (length is - mid) ys))) i)))

-- one write behind another is one write of both
pub write_after : {is then : List ℕ} {mid stop : ℕ} (was : List ℕ) (at : ℕ) (xs ys : List ℕ) → (mid, is) ≡ write was at xs → (stop, then) ≡ write is mid ys → (stop, then) ≡ write was at (xs ++ ys)
write_after {is} {then} {mid} {stop} was at xs ys f g =
    ⊎_elim
    (λ h. let full : length is ≤ mid = omega (arith, ends_full was at xs ys (omega arith), ap (λ p. p.0) f, ap (λ p. length p.1) f, length_write was at xs) in
    g ∙ write_full is mid ys full ∙ f ∙ sym (cut_off was at xs ys (omega arith)))
    (λ h. let here = f ∙ write_room was at xs h in
    g ∙ (λ i. write (here i).1 (here i).0 ys) ∙ sym (joined was at xs ys h))
    (cases_lt (length was) (at + length xs))

-- One write behind another.
use Rattle.std.proofs.Common.{◌≡◌, ℕ, ◌+◌, ◌*◌, ◌<◌, ◌≤◌, List, [], ◌++◌, length, get_or, take, drop, sym, ap, ◌∙◌, append_assoc, arith}
use borrow.Rule.Slice.PartMut.{put_mid}
use Rattle.std.specs.List.{flat_map}
use Rattle.std.proofs.lemmas.List.{take_at, take_more, drop_at, drop-drop, flat_map_more, length-append, length-take-le}
use Rattle.setup.specs.declared.record.SetupRecord.{SetupRecord}
use Rattle.setup.specs.Records.{u32_bytes, bytes_of}
use Rattle.setup.specs.Encoding.{written}

pub written_twice : (at next : ℕ) (a b xs : List ℕ) → at + length a ≡ next → next ≤ length xs → written next b (written at a xs) ≡ written at (a ++ b) xs
written_twice at next a b xs e h =
    let l : at ≤ length xs = omega arith in
    let t : length (take at xs ++ a) ≡ next = length-append (take at xs) a ∙ ap (λ n. n + length a) (length-take-le at xs l) ∙ e in
    let whole : written at a xs ≡ (take at xs ++ a) ++ drop (at + length a) xs = sym (append_assoc (take at xs) a (drop (at + length a) xs)) in
    let front : take next (written at a xs) ≡ take at xs ++ a = ap (λ z. take next z) whole ∙ take_at (take at xs ++ a) _ next t in
    let back : drop (next + length b) (written at a xs) ≡ drop (at + length (a ++ b)) xs =
    sym (drop-drop (length b) next (written at a xs)) ∙ ap (λ z. drop (length b) z) (ap (λ z. drop next z) whole ∙ drop_at (take at xs ++ a) _ next t)
    ∙ drop-drop (length b) (at + length a) xs ∙ ap (λ n. drop n xs) (omega (arith, length-append a b))
    in
    ap (λ z. z ++ (b ++ drop (next + length b) (written at a xs))) front ∙ ap (λ z. (take at xs ++ a) ++ (b ++ z)) back
    ∙ append_assoc (take at xs) a _ ∙ ap (λ z. take at xs ++ z) (sym (append_assoc a b _))

-- what a write to a part of a slice leaves
pub put_is : (at k : ℕ) (xs ys bs : List ℕ) → ys ≡ bs → k ≡ length bs → put_mid at k xs ys ≡ written at bs xs
put_is at k xs ys bs e n =
    ap (λ z. take at xs ++ (z ++ drop k (drop at xs))) e ∙ ap (λ z. take at xs ++ (bs ++ z)) (drop-drop k at xs ∙ ap (λ m. drop (at + m) xs) n)

-- the five parts of a record, one behind the other
pub parts_written : (at : ℕ) (n v a l r x₀ x₁ x₂ x₃ x₄ x₅ : List ℕ) (i j k m : ℕ) → length n ≡ 32 → v ≡ u32_bytes i → a ≡ u32_bytes j → l ≡ u32_bytes k → r ≡ u32_bytes m →
    at + 48 ≤ length x₀ → x₁ ≡ written at n x₀ → x₂ ≡ written (at + 32) v x₁ → x₃ ≡ written (at + 36) a x₂ → x₄ ≡ written (at + 40) l x₃ → x₅ ≡ written (at + 44) r x₄ →
    x₅ ≡ written at (n ++ (u32_bytes i ++ (u32_bytes j ++ (u32_bytes k ++ u32_bytes m)))) x₀
parts_written at n v a l r x₀ x₁ x₂ x₃ x₄ x₅ i j k m size ev ea el er h e₁ e₂ e₃ e₄ e₅ =
    let s₂ : length (n ++ u32_bytes i) ≡ 36 = length-append n (u32_bytes i) ∙ ap (λ z. z + 4) size in
    let s₃ : length ((n ++ u32_bytes i) ++ u32_bytes j) ≡ 40 = length-append (n ++ u32_bytes i) (u32_bytes j) ∙ ap (λ z. z + 4) s₂ in
    let s₄ : length (((n ++ u32_bytes i) ++ u32_bytes j) ++ u32_bytes k) ≡ 44 = length-append ((n ++ u32_bytes i) ++ u32_bytes j) (u32_bytes k) ∙ ap (λ z. z + 4) s₃ in
    let t₂ : x₂ ≡ written at (n ++ u32_bytes i) x₀ =
    e₂ ∙ ap (λ z. written (at + 32) z x₁) ev ∙ ap (λ z. written (at + 32) (u32_bytes i) z) e₁ ∙ written_twice at (at + 32) n (u32_bytes i) x₀ (ap (λ z. at + z) size) (omega arith)
    in
    let t₃ : x₃ ≡ written at ((n ++ u32_bytes i) ++ u32_bytes j) x₀ =
    e₃ ∙ ap (λ z. written (at + 36) z x₂) ea ∙ ap (λ z. written (at + 36) (u32_bytes j) z) t₂ ∙ written_twice at (at + 36) (n ++ u32_bytes i) (u32_bytes j) x₀ (ap (λ z. at + z) s₂) (omega arith)
    in
    let t₄ : x₄ ≡ written at (((n ++ u32_bytes i) ++ u32_bytes j) ++ u32_bytes k) x₀ =
    e₄ ∙ ap (λ z. written (at + 40) z x₃) el ∙ ap (λ z. written (at + 40) (u32_bytes k) z) t₃ ∙ written_twice at (at + 40) ((n ++ u32_bytes i) ++ u32_bytes j) (u32_bytes k) x₀ (ap (λ z. at + z) s₃) (omega arith)
    in
    let t₅ : x₅ ≡ written at ((((n ++ u32_bytes i) ++ u32_bytes j) ++ u32_bytes k) ++ u32_bytes m) x₀ =
    e₅ ∙ ap (λ z. written (at + 44) z x₄) er ∙ ap (λ z. written (at + 44) (u32_bytes m) z) t₄
    ∙ written_twice at (at + 44) (((n ++ u32_bytes i) ++ u32_bytes j) ++ u32_bytes k) (u32_bytes m) x₀ (ap (λ z. at + z) s₄) (omega arith)
    in
    t₅ ∙ ap (λ z. written at z x₀) (append_assoc ((n ++ u32_bytes i) ++ u32_bytes j) (u32_bytes k) _ ∙ append_assoc (n ++ u32_bytes i) (u32_bytes j) _ ∙ append_assoc n (u32_bytes i) _)

-- one more record behind the others
pub record_written : (k : ℕ) (rs : List SetupRecord) (d : SetupRecord) (x₀ x₁ x₂ : List ℕ) → k < length rs → 48 * k + 48 ≤ length x₀ →
    x₁ ≡ written 0 (flat_map bytes_of (take k rs)) x₀ → length (flat_map bytes_of (take k rs)) ≡ 48 * k → x₂ ≡ written (48 * k) (bytes_of (get_or rs k d)) x₁ → length (bytes_of (get_or rs k d)) ≡ 48 →
    (x₂ ≡ written 0 (flat_map bytes_of (take (k + 1) rs)) x₀) × (length (flat_map bytes_of (take (k + 1) rs)) ≡ 48 * (k + 1))
record_written k rs d x₀ x₁ x₂ lt h e₁ size e₂ one =
    let r = get_or rs k d in
    let more : flat_map bytes_of (take (k + 1) rs) ≡ flat_map bytes_of (take k rs) ++ bytes_of r =
    ap (λ z. flat_map bytes_of z) (take_more rs k d lt) ∙ sym (flat_map_more bytes_of [] (take k rs) r)
    in (
      e₂ ∙ ap (λ z. written (48 * k) (bytes_of r) z) e₁ ∙ written_twice 0 (48 * k) (flat_map bytes_of (take k rs)) (bytes_of r) x₀ (omega arith) (omega arith)
          ∙ ap (λ z. written 0 z x₀) (sym more),
      ap length more ∙ length-append (flat_map bytes_of (take k rs)) (bytes_of r) ∙ omega arith,
    )

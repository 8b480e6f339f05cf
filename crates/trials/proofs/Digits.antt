-- What the hex decoder answers, place by place.
use Rattle.std.proofs.Common.{◌≡◌, ℕ, zero, suc, ◌+◌, ◌*◌, ◌/◌, ◌%◌, ◌<◌, ◌⊎◌, inl, inr, List, [], ◌∷◌, length, slice_index, zero-add, Option, Some, None, is_some, false, Result, Ok, Err, refl, sym, ap, ◌∙◌, arith}
use Rattle.std.specs.Result.{result_unwrap_or}
use Rattle.std.specs.Char.{is_ascii_hexdigit}
use Rattle.hex.specs.Hex.{decode_of, decode_pairs, digit_or_error, hex_digit_value, pair_value, value_at, ◌>>=◌}
use Rattle.hex.specs.declared.error.FromHexError.{FromHexError}
use Rattle.hex.specs.declared.error.FromHexError.TheVariants.{OutOfMemory}
use Rattle.hex.proofs.HexLemmas.{decode_of-err, decode_of-even, decode_of-ok}
use Rattle.trials.specs.Hex.{Spells, Wrong, fault_of}

-- what an `Ok` after `>>=` shows
bind_ok : {A B : Type 0} (r : Result A FromHexError) (f : A → Result B FromHexError) (y : B)
    → (r >>= f) ≡ Ok y → (x : A) × (r ≡ Ok x) × (f x ≡ Ok y)
bind_ok (Ok x) f y h = (x, refl, h)
bind_ok (Err e) f y h = cc h

-- the value of a digit that read
digit_read : (c i : ℕ) (o : Option ℕ) (v : ℕ) → digit_or_error c i o ≡ Ok v → o ≡ Some v
digit_read c i (Some w) v h = ap Some (ap (λ (r : Result ℕ FromHexError). result_unwrap_or r 0) h)
digit_read c i None v h = cc h

-- a digit's value is below 16
small : (c v : ℕ) → hex_digit_value c ≡ Some v → v < 16
small c v h = grind (arith)

high_in_front : (a b : ℕ) (rest : List ℕ) (byte : ℕ) (bytes : List ℕ) → hex_digit_value a ≡ Some (byte / 16) → Spells rest bytes
    → (k : ℕ) → k < suc (length bytes) → hex_digit_value (slice_index (a ∷ b ∷ rest) (2 * k)) ≡ Some (slice_index (byte ∷ bytes) k / 16)
high_in_front a b rest byte bytes ha s zero h = ha
high_in_front a b rest byte bytes ha s (suc j) h =
    let e : 2 * suc j ≡ suc (suc (2 * j)) = omega arith in
    rw e (s.high j (omega arith))

low_in_front : (a b : ℕ) (rest : List ℕ) (byte : ℕ) (bytes : List ℕ) → hex_digit_value b ≡ Some (byte % 16) → Spells rest bytes
    → (k : ℕ) → k < suc (length bytes) → hex_digit_value (slice_index (a ∷ b ∷ rest) (2 * k + 1)) ≡ Some (slice_index (byte ∷ bytes) k % 16)
low_in_front a b rest byte bytes hb s zero h = hb
low_in_front a b rest byte bytes hb s (suc j) h =
    let e : 2 * suc j + 1 ≡ suc (suc (2 * j + 1)) = omega arith in
    rw e (s.low j (omega arith))

-- pairs of digits that decode spell the bytes
pairs_spell : (i : ℕ) (text bytes : List ℕ) → decode_pairs i text ≡ Ok bytes → Spells text bytes
unfolding decode_pairs
pairs_spell i [] bytes h =
    let e : [] ≡ bytes = ap (λ (r : Result (List ℕ) FromHexError). result_unwrap_or r []) h in
    rw (← e) record { twice = refl; high = λ k l. absurd (omega arith); low = λ k l. absurd (omega arith) }
pairs_spell i (a ∷ []) bytes h = cc h
pairs_spell i (a ∷ b ∷ rest) bytes h =
    let pair = bind_ok (pair_value a b i) _ bytes h in
    let first = bind_ok (value_at a i) _ pair.0 pair.1 in
    let second = bind_ok (value_at b (i + 1)) _ pair.0 first.2 in
    let others = bind_ok (decode_pairs (i + 2) rest) _ bytes pair.2 in
    let s = pairs_spell (i + 2) rest others.0 others.1 in
    let e : pair.0 ∷ others.0 ≡ bytes = ap (λ (r : Result (List ℕ) FromHexError). result_unwrap_or r []) others.2 in
    let va = digit_read a i (hex_digit_value a) first.0 first.1 in
    let vb = digit_read b (i + 1) (hex_digit_value b) second.0 second.1 in
    let low = small b second.0 vb in
    let byte : first.0 * 16 + second.0 ≡ pair.0 = ap (λ (r : Result ℕ FromHexError). result_unwrap_or r 0) second.2 in
    let quotient : first.0 ≡ pair.0 / 16 = omega (arith, low, byte) in
    let remainder : second.0 ≡ pair.0 % 16 = omega (arith, low, byte) in
    rw (← e) record {
      twice = omega (arith, s.twice);
      high = high_in_front a b rest pair.0 others.0 (va ∙ ap Some quotient) s;
      low = low_in_front a b rest pair.0 others.0 (vb ∙ ap Some remainder) s;
    }

-- a text that decodes spells the bytes
pub decoded : (text bytes : List ℕ) → decode_of text ≡ Ok bytes → Spells text bytes
decoded text bytes h = pairs_spell 0 text bytes (sym (decode_of-even text (decode_of-ok text bytes h).0) ∙ h)

-- what is no ASCII hex digit has no value
pub no_digit : (b : ℕ) → is_ascii_hexdigit b ≡ false → hex_digit_value b ≡ None
no_digit b h = grind (arith)

not_read : (o : Option ℕ) → is_some o ≡ false → o ≡ None
not_read (Some v) h = cc h
not_read None h = refl

-- what is wrong with a text that does not
pub refused : (text : List ℕ) (e : FromHexError) → (e ≡ OutOfMemory) ⊎ (decode_of text ≡ Err e) → Wrong text (fault_of e)
refused text e (inl memory) = rw memory tt
refused text e (inr h) =
    elim (decode_of-err text e h) [
      | inl odd ↦ rw odd.1 odd.0
      | inr bad ↦
          let k = bad.0 in
          let here : 0 + k ≡ k = zero-add k in
          rw (bad.1, here) (bad.2, not_read (hex_digit_value (slice_index text k)) bad.3)
    ]

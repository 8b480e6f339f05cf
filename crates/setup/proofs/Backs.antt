-- Reading what was written gives it back.
use Rattle.std.proofs.Common.{◌≡◌, ℕ, ◌+◌, ◌*◌, ◌/◌, ◌%◌, ◌<◌, true, ◌&&◌, leb, List, [], ◌∷◌, ◌++◌, length, get_or, take, drop, ℤ, Ok, sym, refl, ap, ◌∙◌, append_assoc, arith, w32, Fits, to_z, of_z}
use native.Mathlib.Nat.{div-div-eq-div-mul}
use lib.Signed.{le_z}
use mir.Facts.{Fits-of_z}
use Rattle.std.specs.List.{flat_map, AllByRecursion, list_all}
use Rattle.std.proofs.lemmas.List.{take_at, drop_at, get_or-append_right, length-append}
use Rattle.std.proofs.lemmas.Bool.{and_parts, and_from, leb-true, cond-true}
use Rattle.std.proofs.lemmas.Int.{to_z-of_z}
use Rattle.std.proofs.lemmas.Bool.Decides.{nat_tests}
use Rattle.setup.specs.declared.record.SetupRecord.{SetupRecord}
use Rattle.setup.specs.Records.{u32_at, u32_bytes, record_of, bytes_of, name_ok, in_range, lawful}
use Rattle.setup.specs.Setups.{records_of, count_ok, decoded}
use Rattle.setup.specs.Encoding.{Encodable, written, ReadsBack}

-- four bytes make the number again
pub bytes_back : (n : ℕ) → n < 4294967296 → n % 256 + n / 256 % 256 * 256 + n / 65536 % 256 * 65536 + n / 16777216 % 256 * 16777216 ≡ n
bytes_back n h =
    let a : n / 65536 ≡ n / 256 / 256 = sym (div-div-eq-div-mul n 256 256) in
    let b : n / 16777216 ≡ n / 65536 / 256 = sym (div-div-eq-div-mul n 65536 256) in
    let top : n / 16777216 < 256 = omega arith in
    let x : n / 16777216 % 256 ≡ n / 16777216 = omega arith in
    let y : n / 65536 ≡ n / 65536 % 256 + n / 16777216 * 256 = rw b (omega arith) in
    let z : n / 256 ≡ n / 256 % 256 + n / 65536 * 256 = rw a (omega arith) in
    let w : n ≡ n % 256 + n / 256 * 256 = omega arith in
    omega arith

-- the word at i of a list that begins with xs
pub word_at : (xs ys : List ℕ) (n i j : ℕ) → length xs ≡ n → n + j ≡ i → u32_at (xs ++ ys) i ≡ u32_at ys j
word_at xs ys n i j h e =
    let at : (k : ℕ) → get_or (xs ++ ys) (i + k) 0 ≡ get_or ys (j + k) 0 =
    λ k. get_or-append_right xs ys n (i + k) 0 h (omega arith) ∙ ap (λ m. get_or ys m 0) (omega arith)
    in
    let first : get_or (xs ++ ys) i 0 ≡ get_or ys j 0 = get_or-append_right xs ys n i 0 h (omega arith) ∙ ap (λ m. get_or ys m 0) (omega arith) in
    let one = at 1 in
    let two = at 2 in
    let three = at 3 in
    cc

abbrev made : List ℕ → ℕ → ℕ → ℤ → ℤ → SetupRecord
made n v a l r = record { name = n; max_velocity = v; max_acceleration = a; left = l; right = r }

pub record_back : (r : SetupRecord) (rest : List ℕ) → Encodable r → record_of (bytes_of r ++ rest) ≡ r
record_back r rest s =
    let parts = and_parts (name_ok r.name && in_range r.max_velocity && in_range r.max_acceleration) (le_z r.left r.right) s.keeps in
    let maxima = and_parts (name_ok r.name && in_range r.max_velocity) (in_range r.max_acceleration) parts.0 in
    let v : r.max_velocity < 4294967296 =
    let h = leb-true _ _ (and_parts (leb 1 r.max_velocity) (leb r.max_velocity 2000000000) (and_parts (name_ok r.name) _ maxima.0).1).1 in omega arith
    in
    let a : r.max_acceleration < 4294967296 =
    let h = leb-true _ _ (and_parts (leb 1 r.max_acceleration) (leb r.max_acceleration 2000000000) maxima.1).1 in omega arith
    in
    let fl : Fits w32 (of_z w32 r.left) = Fits-of_z s.left in
    let fr : Fits w32 (of_z w32 r.right) = Fits-of_z s.right in
    let ys = (u32_bytes r.max_velocity ++ (u32_bytes r.max_acceleration ++ (u32_bytes (of_z w32 r.left) ++ u32_bytes (of_z w32 r.right)))) ++ rest in
    let at = λ (i j : ℕ) (e : 32 + j ≡ i). word_at r.name ys 32 i j s.size e in
    let ev : u32_at (r.name ++ ys) 32 ≡ r.max_velocity = at 32 0 refl ∙ bytes_back r.max_velocity v in
    let ea : u32_at (r.name ++ ys) 36 ≡ r.max_acceleration = at 36 4 refl ∙ bytes_back r.max_acceleration a in
    let el : to_z w32 (u32_at (r.name ++ ys) 40) ≡ r.left = ap (λ n. to_z w32 n) (at 40 8 refl ∙ bytes_back (of_z w32 r.left) (omega arith)) ∙ to_z-of_z w32 r.left s.left in
    let er : to_z w32 (u32_at (r.name ++ ys) 44) ≡ r.right = ap (λ n. to_z w32 n) (at 44 12 refl ∙ bytes_back (of_z w32 r.right) (omega arith)) ∙ to_z-of_z w32 r.right s.right in
    let en : take 32 (r.name ++ ys) ≡ r.name = take_at r.name ys 32 s.size in
    ap record_of (append_assoc r.name _ rest)
    ∙ ap (λ z. made z (u32_at (r.name ++ ys) 32) (u32_at (r.name ++ ys) 36) (to_z w32 (u32_at (r.name ++ ys) 40)) (to_z w32 (u32_at (r.name ++ ys) 44))) en
    ∙ ap (λ z. made r.name z (u32_at (r.name ++ ys) 36) (to_z w32 (u32_at (r.name ++ ys) 40)) (to_z w32 (u32_at (r.name ++ ys) 44))) ev
    ∙ ap (λ z. made r.name r.max_velocity z (to_z w32 (u32_at (r.name ++ ys) 40)) (to_z w32 (u32_at (r.name ++ ys) 44))) ea
    ∙ ap (λ z. made r.name r.max_velocity r.max_acceleration z (to_z w32 (u32_at (r.name ++ ys) 44))) el
    ∙ ap (λ z. made r.name r.max_velocity r.max_acceleration r.left z) er

pub length_record : (r : SetupRecord) → length r.name ≡ 32 → length (bytes_of r) ≡ 48
length_record r h = length-append r.name _ ∙ ap (λ n. n + 16) h

pub length_file : (rs : List SetupRecord) → AllByRecursion Encodable rs → length (flat_map bytes_of rs) ≡ 48 * length rs
length_file [] s = refl
length_file (r ∷ rs) s = length-append (bytes_of r) (flat_map bytes_of rs) ∙ omega (arith, length_record r s.0.size, length_file rs s.1)

pub records_back : (rs : List SetupRecord) → AllByRecursion Encodable rs → records_of (length rs) (flat_map bytes_of rs) ≡ rs
records_back [] s = refl
records_back (r ∷ rs) s =
    ap (λ z. z ∷ records_of (length rs) (drop 48 (bytes_of r ++ flat_map bytes_of rs))) (record_back r (flat_map bytes_of rs) s.0)
    ∙ ap (λ z. r ∷ records_of (length rs) z) (drop_at (bytes_of r) (flat_map bytes_of rs) 48 (length_record r s.0.size)) ∙ ap (λ z. r ∷ z) (records_back rs s.1)

pub all_lawful : (rs : List SetupRecord) → AllByRecursion Encodable rs → list_all lawful rs ≡ true
all_lawful [] s = refl
all_lawful (r ∷ rs) s = and_from (lawful r) (list_all lawful rs) s.0.keeps (all_lawful rs s.1)

pub decodes_back : (rs : List SetupRecord) → ReadsBack rs (flat_map bytes_of rs)
decodes_back rs two twelve s =
    let size = length_file rs s in
    let count : length (flat_map bytes_of rs) / 48 ≡ length rs = omega arith in
    let whole : count_ok (length (flat_map bytes_of rs)) ≡ true = grind (arith, nat_tests) in
    let back : records_of (length (flat_map bytes_of rs) / 48) (flat_map bytes_of rs) ≡ rs = ap (λ n. records_of n (flat_map bytes_of rs)) count ∙ records_back rs s in
    cond-true _ _ _ whole ∙ cond-true _ _ _ (ap (λ z. list_all lawful z) back ∙ all_lawful rs s) ∙ ap Ok back

-- what stands at the front of the buffer
pub front_back : (rs : List SetupRecord) (out out' : List ℕ) → out' ≡ written 0 (flat_map bytes_of rs) out → length (flat_map bytes_of rs) ≡ 48 * length rs → ReadsBack rs (take (48 * length rs) out')
front_back rs out out' e size two twelve s =
    ap decoded (ap (λ z. take (48 * length rs) z) e ∙ take_at (flat_map bytes_of rs) _ (48 * length rs) size) ∙ decodes_back rs two twelve s

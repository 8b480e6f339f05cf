-- The records of a file, one more at a time.
use Rattle.std.proofs.Common.{◌≡◌, ℕ, suc, ◌+◌, ◌/◌, ◌<◌, ◌≤◌, Bool, true, false, ◌&&◌, List, [], ◌∷◌, ◌++◌, length, get_or, take, drop, sym, ap, ◌∙◌, append_assoc, arith, to_z, w32}
use Rattle.std.specs.List.{list_all}
use Rattle.std.proofs.lemmas.Bool.Decides.{nat_tests}
use Rattle.std.proofs.lemmas.List.{take-append-le, append-nil, drop_at, length-append}
use Rattle.std.proofs.Math.ListN.{get_or-append}
use Rattle.setup.specs.declared.record.SetupRecord.{SetupRecord}
use Rattle.setup.specs.Records.{u32_at, record_of, lawful}
use Rattle.setup.specs.Setups.{records_of, one_more}

-- the records that are read and the rest of the file make the whole file
pub record Read (rs : List SetupRecord) (rest bs : List ℕ) : Type 0 where
  pub all : rs ++ records_of (length rest / 48) rest ≡ records_of (length bs / 48) bs
  pub count : length rs + length rest / 48 ≡ length bs / 48
  pub laws : list_all lawful (records_of (length rest / 48) rest) ≡ list_all lawful (records_of (length bs / 48) bs)

pub word_front : (xs ys : List ℕ) (i : ℕ) → i + 4 ≤ length xs → u32_at (xs ++ ys) i ≡ u32_at xs i
word_front xs ys i h =
    let at : (k : ℕ) → k < 4 → get_or (xs ++ ys) (i + k) 0 ≡ get_or xs (i + k) 0 = λ k lt. get_or-append xs ys 0 (i + k) (omega arith) in
    let first : get_or (xs ++ ys) i 0 ≡ get_or xs i 0 = get_or-append xs ys 0 i (omega arith) in
    let one = at 1 (omega arith) in
    let two = at 2 (omega arith) in
    let three = at 3 (omega arith) in
    cc

abbrev made : List ℕ → ℕ → ℕ → ℕ → ℕ → SetupRecord
made n v a l r = record { name = n; max_velocity = v; max_acceleration = a; left = to_z w32 l; right = to_z w32 r }

-- a record is read from its own 48 bytes
pub record_front : (xs ys : List ℕ) → length xs ≡ 48 → record_of (xs ++ ys) ≡ record_of xs
record_front xs ys h =
    let n : take 32 (xs ++ ys) ≡ take 32 xs = take-append-le 32 xs ys (omega arith) in
    let v = word_front xs ys 32 (omega arith) in
    let a = word_front xs ys 36 (omega arith) in
    let l = word_front xs ys 40 (omega arith) in
    let r = word_front xs ys 44 (omega arith) in
    let z : made (take 32 (xs ++ ys)) (u32_at (xs ++ ys) 32) (u32_at (xs ++ ys) 36) (u32_at (xs ++ ys) 40) (u32_at (xs ++ ys) 44) ≡ made (take 32 xs) (u32_at xs 32) (u32_at xs 36) (u32_at xs 40) (u32_at xs 44) = cc in
    z

pub records_next : (x rest rest' : List ℕ) → rest ≡ x ++ rest' → length x ≡ 48 → records_of (length rest / 48) rest ≡ record_of x ∷ records_of (length rest' / 48) rest'
records_next x rest rest' e h =
    let n : length rest / 48 ≡ suc (length rest' / 48) = let k = ap length e ∙ length-append x rest' in omega arith in
    ap (λ m. records_of m rest) n ∙ ap (λ z. record_of z ∷ records_of (length rest' / 48) (drop 48 z)) e
    ∙ ap (λ z. z ∷ records_of (length rest' / 48) (drop 48 (x ++ rest'))) (record_front x rest' h)
    ∙ ap (λ z. record_of x ∷ records_of (length rest' / 48) z) (drop_at x rest' 48 h)

pub records_none : (rest : List ℕ) → length rest < 48 → records_of (length rest / 48) rest ≡ []
records_none rest h = ap (λ m. records_of m rest) (let z : length rest / 48 ≡ 0 = omega arith in z)

pub read_start : (rs : List SetupRecord) (rest bs : List ℕ) → rs ≡ [] → rest ≡ bs → Read rs rest bs
read_start rs rest bs e e' =
    let n : length rs ≡ 0 = ap length e in
    let same : length rest ≡ length bs = ap length e' in record {
      all = ap (λ z. z ++ records_of (length rest / 48) rest) e ∙ ap (λ z. records_of (length z / 48) z) e';
      count = omega arith;
      laws = ap (λ z. list_all lawful (records_of (length z / 48) z)) e';
    }

-- a lawful record more
pub read_more : (rs rs' : List SetupRecord) (b : Bool) (x rest rest' bs : List ℕ) (r : SetupRecord) → rest ≡ x ++ rest' → length x ≡ 48 → length bs ≤ 576 → r ≡ record_of x → lawful r ≡ true →
    (b, rs') ≡ one_more rs r → Read rs rest bs → Read rs' rest' bs
read_more rs rs' b x rest rest' bs r e h most is ok added read =
    let next : records_of (length rest / 48) rest ≡ r ∷ records_of (length rest' / 48) rest' = records_next x rest rest' e h ∙ ap (λ z. z ∷ records_of (length rest' / 48) rest') (sym is) in
    let size : length rest ≡ 48 + length rest' = ap length e ∙ length-append x rest' ∙ ap (λ n. n + length rest') h in
    let count = read.count in
    let few : length rs < 12 = omega arith in
    let whole : rs' ≡ rs ++ r ∷ [] = grind (arith, nat_tests) in
    let longer : length rs' ≡ length rs + 1 = ap length whole ∙ length-append rs (r ∷ []) in record {
      all = ap (λ z. z ++ records_of (length rest' / 48) rest') whole ∙ append_assoc rs (r ∷ []) _ ∙ ap (λ z. rs ++ z) (sym next) ∙ read.all;
      count = omega arith;
      laws = sym (ap (λ z. z && list_all lawful (records_of (length rest' / 48) rest')) ok) ∙ sym (ap (λ z. list_all lawful z) next) ∙ read.laws;
    }

-- one that breaks the layout
pub read_broken : (rs : List SetupRecord) (x rest rest' bs : List ℕ) (r : SetupRecord) → rest ≡ x ++ rest' → length x ≡ 48 → r ≡ record_of x → lawful r ≡ false →
    Read rs rest bs → list_all lawful (records_of (length bs / 48) bs) ≡ false
read_broken rs x rest rest' bs r e h is bad read =
    sym read.laws ∙ ap (λ z. list_all lawful z) (records_next x rest rest' e h) ∙ ap (λ z. lawful z && list_all lawful (records_of (length rest' / 48) rest')) (sym is)
    ∙ ap (λ z. z && list_all lawful (records_of (length rest' / 48) rest')) bad

-- all are read
pub read_end : (rs : List SetupRecord) (rest bs : List ℕ) → length rest < 48 → Read rs rest bs →
    (rs ≡ records_of (length bs / 48) bs) × (list_all lawful (records_of (length bs / 48) bs) ≡ true)
read_end rs rest bs h read =
    let none = records_none rest h in (sym (append-nil rs) ∙ ap (λ z. rs ++ z) (sym none) ∙ read.all, sym read.laws ∙ ap (λ z. list_all lawful z) none)

-- A setup record: 48 bytes that say what an axis is. Assumes nothing.
use Rattle.std.specs.Prelude.{ℕ, ◌+◌, ◌*◌, ◌/◌, ◌%◌, Bool, ◌&&◌, List, [], ◌∷◌, ◌++◌, take, drop, ℤ, int_le, nat_eq, nat_le, slice_index}
use Rattle.std.specs.Int.{w32}
use Rattle.std.proofs.Common.{to_z, of_z}
use Rattle.std.specs.List.{list_all, prefix_len}
use Rattle.setup.specs.declared.record.SetupRecord.{SetupRecord}

-- the four bytes from i on as a number, the lowest byte first
abbrev pub u32_at : List ℕ → ℕ → ℕ
u32_at bs i = slice_index bs i + slice_index bs (i + 1) * 256 + slice_index bs (i + 2) * 65536 + slice_index bs (i + 3) * 16777216

-- the same with a sign: in two's complement
abbrev pub i32_at : List ℕ → ℕ → ℤ
i32_at bs i = to_z w32 (u32_at bs i)

-- what the first 48 bytes say
abbrev pub record_of : List ℕ → SetupRecord
record_of bs = record { name = take 32 bs; max_velocity = u32_at bs 32; max_acceleration = u32_at bs 36; left = i32_at bs 40; right = i32_at bs 44 }

-- a byte from 32 to 126
abbrev pub printable : ℕ → Bool
printable b = nat_le 32 b && nat_le b 126

-- how many bytes stand before the first that is not
abbrev pub text_length : List ℕ → ℕ
text_length bs = prefix_len printable bs

abbrev pub all_zero : List ℕ → Bool
all_zero bs = list_all (λ b. nat_eq b 0) bs

-- a stage name: 1 to 30 bytes from 32 to 126, then zero bytes alone
abbrev pub name_ok : List ℕ → Bool
name_ok bs = nat_le 1 (text_length bs) && nat_le (text_length bs) 30 && all_zero (drop (text_length bs) bs)

-- a maximum velocity or acceleration
abbrev pub in_range : ℕ → Bool
in_range n = nat_le 1 n && nat_le n 2000000000

-- the layout is kept: name, both maxima, and left not above right
abbrev pub lawful : SetupRecord → Bool
lawful r = name_ok r.name && in_range r.max_velocity && in_range r.max_acceleration && int_le r.left r.right

-- a number as four bytes, the lowest first
abbrev pub u32_bytes : ℕ → List ℕ
u32_bytes n = (n % 256) ∷ (n / 256 % 256) ∷ (n / 65536 % 256) ∷ (n / 16777216 % 256) ∷ []

-- a record as 48 bytes
abbrev pub bytes_of : SetupRecord → List ℕ
bytes_of r =
    r.name ++ (u32_bytes r.max_velocity ++ (u32_bytes r.max_acceleration ++ (u32_bytes (of_z w32 r.left) ++ u32_bytes (of_z w32 r.right))))

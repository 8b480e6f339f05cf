-- Worked lines: what the definitions give for them. Assumes nothing.
use Rattle.std.specs.Prelude.{◌≡◌, ℕ, List, [], ◌∷◌, ◌++◌, map, take, replicate, pos, negsuc, Some, codes, slice_index}
use Rattle.std.specs.List.{flat_map}
use Rattle.drive.specs.Model.{Axis}
use Rattle.stage.specs.Stages.{fresh_axis}
use Rattle.stage.specs.Travel.{instant_travel}
use Rattle.number.specs.Decimals.{read_decimal}
use Rattle.number.specs.Texts.{position_text}
use Rattle.queue.specs.Faults.{code_of}
use Rattle.setup.specs.declared.record.SetupRecord.{SetupRecord}
use Rattle.setup.specs.Records.{bytes_of}
use Rattle.rules.specs.World.{World}
use Rattle.rules.specs.Calls.{Answer, unopened, open_call, line_call}

-- ---- three axes with maxima of 10 and 50 units and limits of -20 and 20, over an instant drive

abbrev pub sample_record : SetupRecord
sample_record = record { name = codes "STAGE" ++ replicate 27 0; max_velocity = 10000000; max_acceleration = 50000000; left = negsuc 19999999; right = pos 20000000 }

abbrev pub sample_drive : List Axis
sample_drive = replicate 3 (fresh_axis instant_travel 2000000000)

abbrev pub sample_open : Answer × World
sample_open = open_call (unopened sample_drive) (flat_map bytes_of (replicate 3 sample_record))

-- ---- lines in turn

-- the line call with the line, its CR, and a buffer of 4,096 bytes
abbrev pub call : World → List ℕ → Answer × (World × List ℕ)
call w line = line_call w (line ++ 13 ∷ []) (replicate 4096 0)

-- the bytes that it wrote
abbrev pub wrote : Answer × (World × List ℕ) → List ℕ
wrote r = take (slice_index r.0.values 1) r.1.1

-- lines run in turn: all that is replied, and the codes that wait then
abbrev pub lines_run : World → List (List ℕ) → List ℕ × List ℕ
lines_run w [] = ([], map (λ e. code_of e.fault) w.errors)
lines_run w (l ∷ ls) = let r = call w l in let more = lines_run r.1.0 ls in (wrote r ++ more.0, more.1)

-- the same after a fresh opening
abbrev pub row : List (List ℕ) → List ℕ × List ℕ
row ls = lines_run sample_open.1 ls

-- a reply
abbrev pub said : List ℕ → List ℕ
said text = text ++ 13 ∷ 10 ∷ []

pub record Samples : Type 0 where
  pub opens : sample_open.0.number ≡ 0
  pub minus_ten : read_decimal (codes "-10") ≡ Some (negsuc 9999999)
  pub half : read_decimal (codes ".5") ≡ Some (pos 500000)
  pub rounded_up : position_text 4 (pos 5000050) ≡ codes "5.0001"
  pub rounded_down : position_text 2 (pos 5000050) ≡ codes "5.00"
  pub no_minus : position_text 4 (negsuc 3) ≡ codes "0.0000"
  pub velocity : row (codes "1VA10;1VA?" ∷ codes "1VA10.000001" ∷ codes "1VA0" ∷ []) ≡ (said (codes "10"), 110 ∷ 124 ∷ [])
  pub move : row (codes "1MO;1PA20;1WS;1TP" ∷ codes "1MO;1PA20.000001" ∷ []) ≡ (said (codes "20.0000"), 106 ∷ [])
  pub limits : row (codes "1PA5" ∷ codes "1SL1" ∷ codes "1SR0" ∷ []) ≡ ([], 113 ∷ 101 ∷ [])
  pub group_figures : row (codes "HN1,2;1VA4;HV?;HX;1VA?" ∷ []) ≡ (said (codes "10") ++ said (codes "4"), [])
  pub group_axes : row (codes "HN1,1" ∷ codes "HN1,4" ∷ codes "HN1" ∷ []) ≡ ([], 19 ∷ 17 ∷ 29 ∷ [])
  pub naming : row (codes "HN1,2;1MO" ∷ codes "PA5" ∷ codes "4PA5" ∷ codes "1QQ" ∷ []) ≡ ([], 131 ∷ 37 ∷ 9 ∷ 6 ∷ [])
  pub long_enough : row (replicate 80 32 ∷ []) ≡ ([], [])
  pub too_long : row (replicate 81 32 ∷ []) ≡ ([], 91 ∷ [])

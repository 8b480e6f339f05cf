-- The words that options are given in. Assumes nothing.
use Rattle.std.specs.Prelude.{◌≡◌, ◌≢◌, ℕ, true, List, ◌++◌, ◌≤◌, IfErr, IfOk, MatchResult, Result, Ok, Some, codes, Float}
use Rattle.std.specs.Float.Ieee as Ieee
use Rattle.std.specs.Float.{binary64}
use Rattle.std.specs.Float.Parse.{parse_float}
use Rattle.std.specs.Str.Parse.{IsNumeral, digits_value, without_leading_plus}
use Rattle.stage.specs.Easing.{f64_zero, f64_one}
use Rattle.marksheet.specs.declared.drive_choice.DriveChoice.{DriveChoice}
use Rattle.marksheet.specs.declared.drive_choice.DriveChoice.TheVariants.{Instant, Stepping, Stride, Share}
use Rattle.marksheet.specs.declared.flag.Flag.{Flag}
use Rattle.marksheet.specs.declared.flag.Flag.TheVariants.{Setup, Drive, Reversed}
use Rattle.marksheet.specs.declared.words.UnknownWord.{UnknownWord}

-- the number that a text of digits writes; a plus may stand in front
abbrev pub number_in : List ℕ → ℕ
number_in text = digits_value 10 (without_leading_plus text)

-- a text writes a number from 1 to the most
abbrev pub WritesUpTo : ℕ → List ℕ → Type 0
WritesUpTo most text = IsNumeral 10 (without_leading_plus text) × (1 ≤ number_in text) × (number_in text ≤ most)

-- a share is above 0 and at most 1
abbrev pub IsShare : Float → Type 0
IsShare x = (Ieee.lt f64_zero x ≡ true) × (Ieee.le x f64_one ≡ true)

-- a stride is in the range in which a drive takes it as it is, and so is a share
abbrev pub Taken : DriveChoice → Type 0
Taken Instant = Unit {0}
Taken Stepping = Unit {0}
Taken (Stride n) = (1 ≤ n) × (n ≤ 2000000000)
Taken (Share x) = IsShare x

-- a word names a choice
abbrev pub Names : List ℕ → DriveChoice → Type 0
Names word Instant = word ≡ codes "instant"
Names word Stepping = word ≡ codes "stepping"
Names word (Stride n) = (text : List ℕ) × (word ≡ codes "stride=" ++ text) × WritesUpTo 2000000000 text × (n ≡ number_in text)
Names word (Share x) = (text : List ℕ) × (word ≡ codes "share=" ++ text) × (parse_float binary64 text ≡ Some x) × IsShare x

-- what a word chooses as a drive
pub record Chooses (word : List ℕ) (choice : Result DriveChoice UnknownWord) : Type 0 where
  pub instant : word ≡ codes "instant" → choice ≡ Ok Instant
  pub stepping : word ≡ codes "stepping" → choice ≡ Ok Stepping
  pub taken : IfOk choice Taken
  pub named : IfOk choice (Names word)
  pub no_stride : IfErr choice (λ _. (text : List ℕ) → word ≡ codes "stride=" ++ text → ¬ WritesUpTo 2000000000 text)
  pub no_share : IfErr choice (λ _. (text : List ℕ) (x : Float) → word ≡ codes "share=" ++ text → parse_float binary64 text ≡ Some x → ¬ IsShare x)

-- how an option is written
abbrev pub flag_text : Flag → List ℕ
flag_text Setup = codes "--setup"
flag_text Drive = codes "--drive"
flag_text Reversed = codes "--reversed"

-- the option that a word is; else it is none of them
abbrev pub Flags : List ℕ → Result Flag UnknownWord → Type 0
Flags word r = MatchResult r (λ flag. word ≡ flag_text flag) (λ _. (flag : Flag) → word ≢ flag_text flag)

-- How long texts are at most.
use Rattle.std.proofs.Common.{◌≡◌, ℕ, suc, ◌+◌, ◌*◌, ◌<◌, ◌≤◌, Bool, true, false, List, [], ◌∷◌, map, length, get_or, Some, None, Option, suc-mul, arith}
use Rattle.std.proofs.lemmas.List.{length-append, length-take}
use Rattle.number.specs.Texts.{whole_text, after_comma, list_text}
use Rattle.number.proofs.Lengths.{whole_short}
use Rattle.queue.specs.declared.error_entry.ErrorEntry.{ErrorEntry}
use Rattle.queue.specs.declared.fault.Fault.{Fault}
use Rattle.queue.specs.declared.fault.Fault.TheVariants.{UnknownCommand, ParameterOutOfRange, AxisOutOfRange, GroupMissing, GroupOutOfRange, GroupNotAssigned, GroupAlreadyAssigned, GroupAxisOutOfRange, GroupAxisAlreadyAssigned, GroupAxisDuplicated, GroupParameterMissing, GroupParameterOutOfRange, GroupVelocityExceeded, GroupAccelerationExceeded, GroupDecelerationExceeded, AxisMissing, ParameterMissing, LineTooLong, WaypointsFull, AxisParameterOutOfRange, PositiveLimitExceeded, NegativeLimitExceeded, VelocityExceeded, AccelerationExceeded, MotorNotEnabled, VelocityOutOfRange, ChangeNotAllowed, InGroup}
use Rattle.queue.specs.Faults.{message_of, told_message}
use Rattle.setup.specs.Records.{text_length}
use Rattle.desk.specs.declared.axis_settings.AxisSettings.{AxisSettings}
use Rattle.desk.specs.Axes.{name_text}
use Rattle.rules.specs.Replies.{flag_text, oldest, code_text, message_text}

-- a flag is one digit
pub flag_short : (b : Bool) → length (flag_text b) ≤ 1
flag_short true = whole_short 1 1 (omega arith) (omega arith) (omega arith)
flag_short false = whole_short 1 0 (omega arith) (omega arith) (omega arith)

-- a number of 16 bits has at most five digits
pub number_short : (n : ℕ) → n < 65536 → length (whole_text n) ≤ 5
number_short n low = whole_short 5 n (omega arith) (omega arith) (omega arith)

-- a name that lies in 32 bytes
pub name_short : (r a : AxisSettings) → r ≡ a → length a.name ≤ 32 → length (name_text r) ≤ 32
name_short r a e low = rw e (omega (arith, length-take (text_length a.name) a.name))

-- a list of texts, each with its comma
after_short : (f : ℕ → List ℕ) (b : ℕ) (xs : List ℕ) → ((i : ℕ) → length (f (get_or xs i 0)) ≤ b) → length (after_comma (map f xs)) ≤ length xs * (b + 1)
after_short f b [] each = omega arith
after_short f b (x ∷ xs) each =
    let here = each 0 in
    let more = after_short f b xs (λ i. each (suc i)) in
    let all : length (after_comma (map f (x ∷ xs))) ≡ 1 + (length (f x) + length (after_comma (map f xs))) = simp length-append (omega arith) in
    let times : suc (length xs) * (b + 1) ≡ length xs * (b + 1) + (b + 1) = suc-mul (length xs) (b + 1) in
    omega (arith, here, more, all, times)

list_after : (xs : List (List ℕ)) → length (list_text xs) ≤ length (after_comma xs)
unfolding list_text
list_after [] = omega arith
list_after (x ∷ xs) = omega arith

pub list_short : (f : ℕ → List ℕ) (b : ℕ) (xs : List ℕ) → ((i : ℕ) → length (f (get_or xs i 0)) ≤ b) → length (list_text (map f xs)) ≤ length xs * (b + 1)
list_short f b xs each = omega (arith, list_after (map f xs), after_short f b xs each)

-- the numbers of up to 12 axes
pub numbers_short : (xs : List ℕ) → length xs ≤ 12 → ((i : ℕ) → get_or xs i 0 < 256) → length (list_text (map whole_text xs)) ≤ 48
numbers_short xs few low =
    omega (arith, few, list_short whole_text 3 xs (λ i. whole_short 3 (get_or xs i 0) (omega arith) (omega (arith, low i)) (omega (arith, low i))))

-- the longest message has 43 bytes
message_short : (f : Fault) → length (message_of f) ≤ 43
message_short UnknownCommand = omega arith
message_short ParameterOutOfRange = omega arith
message_short AxisOutOfRange = omega arith
message_short GroupMissing = omega arith
message_short GroupOutOfRange = omega arith
message_short GroupNotAssigned = omega arith
message_short GroupAlreadyAssigned = omega arith
message_short GroupAxisOutOfRange = omega arith
message_short GroupAxisAlreadyAssigned = omega arith
message_short GroupAxisDuplicated = omega arith
message_short GroupParameterMissing = omega arith
message_short GroupParameterOutOfRange = omega arith
message_short GroupVelocityExceeded = omega arith
message_short GroupAccelerationExceeded = omega arith
message_short GroupDecelerationExceeded = omega arith
message_short AxisMissing = omega arith
message_short ParameterMissing = omega arith
message_short LineTooLong = omega arith
message_short WaypointsFull = omega arith
message_short (AxisParameterOutOfRange axis) = omega arith
message_short (PositiveLimitExceeded axis) = omega arith
message_short (NegativeLimitExceeded axis) = omega arith
message_short (VelocityExceeded axis) = omega arith
message_short (AccelerationExceeded axis) = omega arith
message_short (MotorNotEnabled axis) = omega arith
message_short (VelocityOutOfRange axis) = omega arith
message_short (ChangeNotAllowed axis) = omega arith
message_short (InGroup axis) = omega arith

told_short : (f : Option Fault) → length (told_message f) ≤ 43
told_short (Some f) = message_short f
told_short None = omega arith

pub message_text_short : (es : List ErrorEntry) → length (code_text es) ≤ 5 → length (message_text es) ≤ 50
message_text_short es low = simp length-append (omega (arith, told_short (oldest es)))

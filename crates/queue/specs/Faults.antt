-- The code and the message of each fault. Assumes nothing.
use Rattle.std.specs.Prelude.{ℕ, ◌+◌, ◌*◌, List, Some, None, codes, Option}
use Rattle.queue.specs.declared.fault.Fault.{Fault}
use Rattle.queue.specs.declared.fault.Fault.TheVariants.{UnknownCommand, ParameterOutOfRange, AxisOutOfRange, GroupMissing, GroupOutOfRange, GroupNotAssigned, GroupAlreadyAssigned, GroupAxisOutOfRange, GroupAxisAlreadyAssigned, GroupAxisDuplicated, GroupParameterMissing, GroupParameterOutOfRange, GroupVelocityExceeded, GroupAccelerationExceeded, GroupDecelerationExceeded, AxisMissing, ParameterMissing, LineTooLong, WaypointsFull, AxisParameterOutOfRange, PositiveLimitExceeded, NegativeLimitExceeded, VelocityExceeded, AccelerationExceeded, MotorNotEnabled, VelocityOutOfRange, ChangeNotAllowed, InGroup}

-- the code of a fault of one axis: the axis's number, then two digits
abbrev pub of_axis : ℕ → ℕ → ℕ
of_axis axis digits = 100 * axis + digits

abbrev pub code_of : Fault → ℕ
code_of UnknownCommand = 6
code_of ParameterOutOfRange = 7
code_of AxisOutOfRange = 9
code_of GroupMissing = 13
code_of GroupOutOfRange = 14
code_of GroupNotAssigned = 15
code_of GroupAlreadyAssigned = 16
code_of GroupAxisOutOfRange = 17
code_of GroupAxisAlreadyAssigned = 18
code_of GroupAxisDuplicated = 19
code_of GroupParameterMissing = 29
code_of GroupParameterOutOfRange = 30
code_of GroupVelocityExceeded = 31
code_of GroupAccelerationExceeded = 32
code_of GroupDecelerationExceeded = 33
code_of AxisMissing = 37
code_of ParameterMissing = 38
code_of LineTooLong = 91
code_of WaypointsFull = 92
code_of (AxisParameterOutOfRange axis) = of_axis axis 1
code_of (PositiveLimitExceeded axis) = of_axis axis 6
code_of (NegativeLimitExceeded axis) = of_axis axis 7
code_of (VelocityExceeded axis) = of_axis axis 10
code_of (AccelerationExceeded axis) = of_axis axis 11
code_of (MotorNotEnabled axis) = of_axis axis 13
code_of (VelocityOutOfRange axis) = of_axis axis 24
code_of (ChangeNotAllowed axis) = of_axis axis 26
code_of (InGroup axis) = of_axis axis 31

-- the text that goes with the code
abbrev pub message_of : Fault → List ℕ
message_of UnknownCommand = codes "COMMAND DOES NOT EXIST"
message_of ParameterOutOfRange = codes "PARAMETER OUT OF RANGE"
message_of AxisOutOfRange = codes "AXIS NUMBER OUT OF RANGE"
message_of GroupMissing = codes "GROUP NUMBER MISSING"
message_of GroupOutOfRange = codes "GROUP NUMBER OUT OF RANGE"
message_of GroupNotAssigned = codes "GROUP NUMBER NOT ASSIGNED"
message_of GroupAlreadyAssigned = codes "GROUP NUMBER ALREADY ASSIGNED"
message_of GroupAxisOutOfRange = codes "GROUP AXIS OUT OF RANGE"
message_of GroupAxisAlreadyAssigned = codes "GROUP AXIS ALREADY ASSIGNED"
message_of GroupAxisDuplicated = codes "GROUP AXIS DUPLICATED"
message_of GroupParameterMissing = codes "GROUP PARAMETER MISSING"
message_of GroupParameterOutOfRange = codes "GROUP PARAMETER OUT OF RANGE"
message_of GroupVelocityExceeded = codes "GROUP MAXIMUM VELOCITY EXCEEDED"
message_of GroupAccelerationExceeded = codes "GROUP MAXIMUM ACCELERATION EXCEEDED"
message_of GroupDecelerationExceeded = codes "GROUP MAXIMUM DECELERATION EXCEEDED"
message_of AxisMissing = codes "AXIS NUMBER MISSING"
message_of ParameterMissing = codes "COMMAND PARAMETER MISSING"
message_of LineTooLong = codes "LINE TOO LONG"
message_of WaypointsFull = codes "WAYPOINT BUFFER FULL"
message_of (AxisParameterOutOfRange axis) = codes "PARAMETER OUT OF RANGE"
message_of (PositiveLimitExceeded axis) = codes "POSITIVE SOFTWARE LIMIT EXCEEDED"
message_of (NegativeLimitExceeded axis) = codes "NEGATIVE SOFTWARE LIMIT EXCEEDED"
message_of (VelocityExceeded axis) = codes "MAXIMUM VELOCITY EXCEEDED"
message_of (AccelerationExceeded axis) = codes "MAXIMUM ACCELERATION EXCEEDED"
message_of (MotorNotEnabled axis) = codes "MOTOR NOT ENABLED"
message_of (VelocityOutOfRange axis) = codes "SPEED OUT OF RANGE"
message_of (ChangeNotAllowed axis) = codes "PARAMETER CHANGE NOT ALLOWED"
message_of (InGroup axis) = codes "COMMAND NOT ALLOWED DUE TO GROUP ASSIGNMENT"

-- what is told where there may be no fault: then the code is 0
abbrev pub told_code : Option Fault → ℕ
told_code (Some f) = code_of f
told_code None = 0

abbrev pub told_message : Option Fault → List ℕ
told_message (Some f) = message_of f
told_message None = codes "NO ERROR DETECTED"

-- Runs in which each law has something to say: three axes with maxima of 10 and 50 units and limits of -20 and 20, over an instant drive.
-- Assumes nothing.
use Rattle.std.specs.Prelude.{◌≡◌, ℕ, List, [], ◌∷◌, ◌++◌, replicate, pos, codes}
use Rattle.drive.specs.declared.profile.Profile.{Profile}
use Rattle.drive.specs.Calls.{start, tick}
use Rattle.setup.specs.declared.record.SetupRecord.{SetupRecord}
use Rattle.command.specs.Commands.{Command, commands_of}
use Rattle.rules.specs.World.{World, settings, axis_at}
use Rattle.rules.specs.Deeds.{beats}
use Rattle.rules.specs.Runs.{Call, line_sent, run, moment}
use Rattle.rules.specs.Samples.{sample_record, sample_open}
use Rattle.laws.specs.Ledger.{greatest_of, due}
use Rattle.laws.specs.Laws.{ledger_at, Lawful}

abbrev pub records : List SetupRecord
records = replicate 3 sample_record

abbrev pub opened_world : World
opened_world = sample_open.1

-- a line sent, with its CR and a reply buffer of 4,096 bytes
abbrev pub sent : List ℕ → List Call
sent line = line_sent (line ++ 13 ∷ []) 4096 ∷ []

-- Axes 1 and 2 form a group and set off for 5; 6 waits; then the own velocity of axis 1 becomes 4. The next command line frees the group.
abbrev pub waiting : List Call
waiting = sent (codes "HN1,2;HO;HL5,5;HL6,6;1VA4")

abbrev pub freed : List Command
freed = commands_of (codes "HX;1PA3")

abbrev pub group_profile : Profile
group_profile = record { velocity = 10000000; acceleration = 50000000; deceleration = 50000000 }

abbrev pub own_profile : Profile
own_profile = record { velocity = 4000000; acceleration = 50000000; deceleration = 50000000 }

-- axis 1 has power and is sent to its right limit
abbrev pub bound : List Call
bound = sent (codes "1MO;1PA20")

pub record Instances : Type 0 where
  -- the run is lawful: the laws speak of it
  pub lawful : Lawful records opened_world
  -- the beat after it starts the waypoint, with the group's figures, not with the own ones
  pub waypoint_told : (beats 1 (run opened_world waiting).core).told ≡ tick ∷ start 1 (pos 6000000) group_profile ∷ start 2 (pos 6000000) group_profile ∷ []
  pub group_due : due (ledger_at records opened_world waiting []) 1 ≡ group_profile
  pub own_changed : (ledger_at records opened_world waiting []).own 1 ≡ own_profile
  -- the group's figures are the maxima themselves: the bound is reached
  pub at_most : greatest_of records 1 ≡ group_profile
  -- one more taken than freed while in the group, and none of it for axis 3
  pub taken_once : (ledger_at records opened_world waiting []).taken 1 ≡ 1
  pub not_freed : (ledger_at records opened_world waiting []).freed 1 ≡ 0
  pub never_taken : (ledger_at records opened_world waiting []).taken 3 ≡ 0
  -- the drive keeps the profile of the latest start, though the own velocity is another
  pub profile_stays : (axis_at (moment opened_world waiting [] 0) 1).profile ≡ group_profile
  -- after HX the axis is freed once, and a start carries its own figures
  pub freed_once : (ledger_at records opened_world waiting freed).freed 1 ≡ 1
  pub own_carried : (axis_at (moment opened_world waiting freed 0) 1).profile ≡ own_profile
  pub own_due : due (ledger_at records opened_world waiting freed) 1 ≡ own_profile
  -- a limit is reached, and not passed
  pub at_limit : (axis_at (moment opened_world bound [] 1) 1).position ≡ pos 20000000
  pub the_limit : (settings (moment opened_world bound [] 1) 1).right ≡ pos 20000000

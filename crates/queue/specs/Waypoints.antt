-- The waypoints that wait, the first to be started first; each is a list of positions. Assumes nothing.
use Rattle.std.specs.Prelude.{cond, List, map, length, ℤ, Some, None, Option, nat_le}
use Rattle.fixed.specs.Lists.{held}
use Rattle.queue.specs.declared.waypoint.Waypoint.{Waypoint}
use Rattle.queue.specs.declared.route.Route.{Route}
use Rattle.queue.specs.Queue.{waiting}

abbrev pub positions_of : Waypoint → List ℤ
positions_of w = held w.list

-- the positions of a waypoint, if there is one
abbrev pub shown : Option Waypoint → Option (List ℤ)
shown (Some w) = Some (positions_of w)
shown None = None

-- a waypoint of 12 positions at most
abbrev pub waypoint_from : List ℤ → Option (List ℤ)
waypoint_from ps = cond (nat_le (length ps) 12) (Some ps) None

abbrev pub waypoints : Route → List (List ℤ)
waypoints r = map positions_of (waiting r.slots r.len)

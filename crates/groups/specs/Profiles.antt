-- Profiles: single figures, and the smallest of several. Assumes nothing.
use Rattle.std.specs.Prelude.{ℕ, min, List, [], ◌∷◌}
use Rattle.drive.specs.declared.profile.Profile.{Profile}

-- no figures
abbrev pub no_profile : Profile
no_profile = record { velocity = 0; acceleration = 0; deceleration = 0 }

-- another velocity, acceleration or deceleration; the rest kept
abbrev pub velocity_in : ℕ → Profile → Profile
velocity_in v p = record { velocity = v; acceleration = p.acceleration; deceleration = p.deceleration }

abbrev pub acceleration_in : ℕ → Profile → Profile
acceleration_in v p = record { velocity = p.velocity; acceleration = v; deceleration = p.deceleration }

abbrev pub deceleration_in : ℕ → Profile → Profile
deceleration_in v p = record { velocity = p.velocity; acceleration = p.acceleration; deceleration = v }

-- the lesser of two profiles, figure by figure
abbrev pub lesser : Profile → Profile → Profile
lesser p q = record { velocity = min p.velocity q.velocity; acceleration = min p.acceleration q.acceleration; deceleration = min p.deceleration q.deceleration }

-- the smallest of p and the others
abbrev pub least : Profile → List Profile → Profile
least p [] = p
least p (q ∷ qs) = least (lesser p q) qs

-- Whether an axis is a member, as the test of each member.
use Rattle.std.proofs.Common.{◌≡◌, ℕ, ◌||◌, eqb, List, [], ◌∷◌, refl, ap}
use Rattle.std.specs.List.{list_any}
use Rattle.groups.specs.Groups.{has}

pub has_any : (axis : ℕ) (ms : List ℕ) → has axis ms ≡ list_any (λ m. eqb m axis) ms
has_any axis [] = refl
has_any axis (m ∷ ms) = ap (λ b. eqb m axis || b) (has_any axis ms)

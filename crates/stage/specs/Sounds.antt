-- Each rule of travel is fair, and each kind of axis is sound.
use Rattle.std.proofs.Common.{arith}
use Rattle.std.specs.Prelude.{◌/◌, ℤ}
use Rattle.std.proofs.lemmas.Int.{ints}
use Rattle.drive.specs.declared.profile.Profile.{Profile}
use Rattle.drive.specs.Model.{Fair, SoundAxis}
use Rattle.stage.specs.declared.axis.SingleAxis.{SingleAxis}
use Rattle.stage.specs.declared.coordinate.Coordinate.{Ghosts}
use Rattle.stage.specs.declared.rule.Rule.{Rule}
use Rattle.stage.specs.declared.rule.Rule.TheVariants.{Instant, Stepping}
use Rattle.stage.specs.declared.ease.Ease.{Ease}
use Rattle.stage.specs.declared.kind.AxisKind.{AxisKind}
use Rattle.stage.specs.declared.kind.AxisKind.TheVariants.{Whole, Easing}
use Rattle.stage.specs.Axes.{axis_of}
use Rattle.stage.specs.Kinds.{kind_axis}
use Rattle.stage.specs.Rules.{travel_by}
use Rattle.stage.specs.Travel.{way}
use Rattle.stage.specs.Easing.{asked, easing_travel}
use Rattle.stage.specs.Steps.{toward_fair}

pub rule_fair : (r : Rule) (p t : ℤ) (q : Profile) → Fair p (travel_by r p t q) t
rule_fair Instant p t q =
    record {
      up = λ h. (h, omega (arith, ints));
      down = λ h. (omega (arith, ints), h);
      nearer_up = λ h. h;
      nearer_down = λ h. h;
    }
rule_fair Stepping p t q = toward_fair p t (q.velocity / 1000)

pub ease_fair : (e : Ease) (p t : ℤ) (q : Profile) → Fair p (easing_travel e p t q) t
ease_fair e p t q = toward_fair p t (asked e (way p t))

module _ {P R : Type 0} {p : Ghosts P} (travel : R → ℤ → ℤ → Profile → ℤ) (fair : (r : R) (p t : ℤ) (q : Profile) → Fair p (travel r p t q) t) where
  pub axis_sound : (a : SingleAxis P R p) → SoundAxis (axis_of travel a)
  axis_sound a =
      record {
        some_reach = a.some_reach;
        most_reach = a.most_reach;
        position_in = a.position_in;
        target_in = a.target_in;
        unpowered = a.unpowered;
        fair = λ p t q hp ht. fair a.rule p t q;
      }

pub kind_sound : (a : AxisKind) → SoundAxis (kind_axis a)
kind_sound (Whole a) = axis_sound travel_by rule_fair a
kind_sound (Easing a) = axis_sound easing_travel ease_fair a

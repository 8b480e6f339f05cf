use Rattle.std.proofs.Common.{rules}
use Rattle.drive.proofs.Waits.{told_both}
use Rattle.drive.proofs.waiting.at_rest.Goals as goal

pub returns : goal.returns
returns g c = search (rules, told_both)

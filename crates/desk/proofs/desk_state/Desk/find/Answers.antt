use Rattle.std.proofs.Common.{arith}
use Rattle.desk.proofs.Founds.{found_at}
use Rattle.desk.proofs.desk_state.Desk.find.Goals as goal

pub returns : goal.returns
returns c =
    found_at c.args.self.now c.args.group c.in_ok-checked_sub.field-0 c.get.result (let e = c.in_ok-checked_sub.ensures in omega arith) c.get.ensures

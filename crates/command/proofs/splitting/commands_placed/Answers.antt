use Rattle.command.proofs.Placing.{commands_placed}
use Rattle.command.proofs.splitting.commands_placed.Goals as goal

pub returns : goal.returns
returns c = commands_placed c.args.line.now

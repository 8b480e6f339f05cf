use Rattle.std.proofs.Common.{rules}
use Rattle.setup.proofs.Writes.{put_is}
use Rattle.setup.proofs.writing.put.Goals as goal

pub returns : goal.returns
returns c = search (rules, put_is)

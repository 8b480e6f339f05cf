use Rattle.std.proofs.Common.{ap, ◌∙◌, arith}
use Rattle.std.proofs.lemmas.Int.{to_z-of_z}
use Rattle.number.specs.Writer.{wrote}
use Rattle.number.proofs.Spelled.{setting_is}
use Rattle.number.proofs.writer.Writer.setting.Goals as goal

pub returns-clause-text : goal.returns-clause-text
returns-clause-text c =
    c.signed.ensures
    ∙ ap (wrote c.args.self.now) (setting_is c.args.millionths _ c.unsigned_abs.result _ _ (grind (arith, to_z-of_z)) (grind (arith, to_z-of_z)) c.shorten-places.ensures.value)

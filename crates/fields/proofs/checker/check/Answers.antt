use Rattle.std.proofs.Common.{◌≡◌, is_ok, Ok, ap, arith}
use Rattle.std.proofs.lemmas.Grind.{common_steps}
use Rattle.std.proofs.lemmas.Bool.Decides.{Decides-at}
use Rattle.fields.specs.Rules.{checked}
use Rattle.fields.proofs.FirstFault.{checked_sound}
use Rattle.fields.proofs.checker.check.Goals as goal

pub returns-clause-sound : goal.returns-clause-sound
returns-clause-sound c =
    let first : Ok tt ≡ checked c.args.context.now c.args.row.now c.args.table.now = grind (arith, common_steps) in
    Decides-at _ _ (ap is_ok first) (checked_sound _ _ c.args.table.now)

-- The outcome of a file, done exactly where its delivery is read, and of several: done only if each is done.
use Rattle.std.specs.Prelude.{Result, Ok, Err}
use Rattle.intake.specs.declared.status.Status.{Status}
use Rattle.intake.specs.declared.status.Status.TheVariants.{Done, Failed}

abbrev pub outcome : {A B : Type 0} → Result A B → Status
outcome (Ok _) = Done
outcome (Err _) = Failed

abbrev pub both : Status → Status → Status
both Done s = s
both Failed s = Failed

use Rattle.std.proofs.Common.{sym, ◌∙◌}
use Rattle.deliveries.proofs.reading.check_file.Goals as goal

pub returns-clause-index : goal.returns-clause-index
returns-clause-index g c ok room = c.read_file.ensures.index (sym c.map_err.ensures.variant ∙ ok) room

use Rattle.std.proofs.Common.{refl}
use Rattle.kinds.proofs.Types.{differing_signs, same_series_type}
use Rattle.kinds.proofs.series.SeriesKind.marks.Goals as goal

pub returns : goal.returns
returns c = simp (c.ne.ensures, c.ne-2.ensures, c.ne-3.ensures, same_series_type, differing_signs) refl

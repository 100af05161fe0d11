use Rattle.repair.proofs.FromSegments.{help_makes}
use Rattle.repair.proofs.theorems.help_makes_segments.Goals as goal

pub returns : goal.returns
returns g c = help_makes g.met.F.Field.laws

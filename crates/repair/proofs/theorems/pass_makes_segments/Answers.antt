use Rattle.repair.proofs.FromSegments.{pass_makes}
use Rattle.repair.proofs.theorems.pass_makes_segments.Goals as goal

pub returns : goal.returns
returns g c = pass_makes g.met.F.Field.laws

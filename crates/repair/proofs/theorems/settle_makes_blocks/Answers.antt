use Rattle.repair.proofs.FromSegments.{settle_makes}
use Rattle.repair.proofs.theorems.settle_makes_blocks.Goals as goal

pub returns : goal.returns
returns g c = settle_makes g.met.F.Field.laws

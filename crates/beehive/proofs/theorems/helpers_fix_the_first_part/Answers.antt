use Rattle.beehive.proofs.Repair.{helpers_fix}
use Rattle.beehive.proofs.theorems.helpers_fix_the_first_part.Goals as goal

pub returns : goal.returns
returns g c = helpers_fix g.met.F.Field.laws

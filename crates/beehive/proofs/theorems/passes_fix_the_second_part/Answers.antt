use Rattle.beehive.proofs.Passes.{passes_fix}
use Rattle.beehive.proofs.theorems.passes_fix_the_second_part.Goals as goal

pub returns : goal.returns
returns g c = passes_fix g.met.F.Field.laws

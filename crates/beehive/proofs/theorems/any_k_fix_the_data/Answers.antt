use Rattle.beehive.proofs.Unique.{any_k}
use Rattle.beehive.proofs.theorems.any_k_fix_the_data.Goals as goal

pub returns : goal.returns
returns g c = any_k g.met.F.Field.laws

use Rattle.algebra.proofs.Roots.{root_count}
use Rattle.algebra.proofs.theorems.root_count_stands.Goals as goal

pub returns : goal.returns
returns g c = root_count g.met.F.Field.laws

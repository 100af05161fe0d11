use Rattle.algebra.proofs.Interpolation.{existence}
use Rattle.algebra.proofs.theorems.polynomial_exists.Goals as goal

pub returns : goal.returns
returns g c = existence g.met.F.Field.laws

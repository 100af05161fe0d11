use Rattle.algebra.proofs.Interpolation.{uniqueness}
use Rattle.algebra.proofs.theorems.polynomial_unique.Goals as goal

pub returns : goal.returns
returns g c = uniqueness g.met.F.Field.laws

use Rattle.algebra.proofs.Interpolation.{vandermonde}
use Rattle.algebra.proofs.theorems.vandermonde_inverted.Goals as goal

pub returns : goal.returns
returns g c = vandermonde g.met.F.Field.laws

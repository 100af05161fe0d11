use Rattle.algebra.proofs.Interpolation.{interpolation}
use Rattle.algebra.proofs.theorems.interpolation_stands.Goals as goal

pub returns : goal.returns
returns g c = interpolation g.met.F.Field.laws

use Rattle.blocks.proofs.FromBoxes.{read_makes}
use Rattle.blocks.proofs.theorems.read_makes_data.Goals as goal

pub returns : goal.returns
returns g c = read_makes g.met.F.Field.laws

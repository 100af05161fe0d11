use Rattle.blocks.proofs.FromBoxes.{load_makes}
use Rattle.blocks.proofs.theorems.load_makes_blocks.Goals as goal

pub returns : goal.returns
returns g c = load_makes g.met.F.Field.laws

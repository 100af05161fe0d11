use Rattle.blocks.proofs.FromBoxes.{boxes_make}
use Rattle.blocks.proofs.theorems.boxes_make_blocks.Goals as goal

pub returns : goal.returns
returns g c = boxes_make g.met.F.Field.laws

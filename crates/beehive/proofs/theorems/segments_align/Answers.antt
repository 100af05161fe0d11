use Rattle.beehive.proofs.Parts.{segments_align}
use Rattle.beehive.proofs.theorems.segments_align.Goals as goal

pub returns : goal.returns
returns g c = segments_align g.met.F.Field.laws

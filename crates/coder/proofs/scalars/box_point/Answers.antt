use Rattle.std.proofs.Common.{arith}
use Rattle.beehive.proofs.Elements.{element_low}
use Rattle.coder.proofs.scalars.box_point.Goals as goal

-- Also where the code takes the low 16 bits of the node: so an edit of these is refused for the bits that it takes alone.
pub returns : goal.returns
returns g c =
    let low = element_low g.met.F.Field.laws g.met.F.Field.range.1 c.node_of.result in
    grind (arith, low)

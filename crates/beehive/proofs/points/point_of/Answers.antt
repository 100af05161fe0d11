use Rattle.std.proofs.Common.{◌∙◌}
use Rattle.beehive.proofs.Elements.{element_low}
use Rattle.beehive.proofs.points.point_of.Goals as goal

pub returns : goal.returns
returns g c = c.element.ensures ∙ element_low g.met.F.Field.laws g.met.F.Field.range.1 c.args.s

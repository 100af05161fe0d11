use Rattle.std.proofs.Common.{◌≡◌}
use Rattle.algebra.specs.Poly.{power}
use Rattle.beehive.proofs.points.raised.Given as goal

abbrev pub invariant-loop-i : goal.invariant-loop-i
invariant-loop-i g l = l.all ≡ power g.F.Field.ops l.x l._i

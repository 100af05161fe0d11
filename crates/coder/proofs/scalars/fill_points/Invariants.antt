use Rattle.algebra.proofs.Writes.{Written}
use Rattle.coder.specs.Points.{listed, chosen_point}
use Rattle.coder.proofs.scalars.fill_points.Given as goal

abbrev pub invariant-loop-i : goal.invariant-loop-i
invariant-loop-i g l = Written g.F.Field.ops.zero (chosen_point g.F.Field.ops l.numbers (listed l.list)) l.initial.points l.points l.i

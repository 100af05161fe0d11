use Rattle.std.proofs.Common.{length}
use Rattle.algebra.specs.Poly.{Same}
use Rattle.algebra.specs.Cells.{entry}
use Rattle.coder.specs.Points.{lagrange}
use Rattle.repair.proofs.settle.fill_weights.Given as goal

abbrev pub invariant-loop-m : goal.invariant-loop-m
invariant-loop-m g l = Same l.m (entry g.F.Field.ops l.weights) (λ m. lagrange g.F.Field.ops (length l.points) (entry g.F.Field.ops l.points) m l.q)

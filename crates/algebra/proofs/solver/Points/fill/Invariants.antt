use Rattle.std.proofs.Common.{length}
use Rattle.algebra.specs.Cells.{entry}
use Rattle.algebra.proofs.Solving.{Filled}
use Rattle.algebra.proofs.solver.Points.fill.Given as goal

abbrev pub invariant-loop-i : goal.invariant-loop-i
invariant-loop-i g l = Filled g.F.Field.ops (length l.self.all.now) (entry g.F.Field.ops l.self.all.now) l.cols l.initial.cells l.cells l.i

use Rattle.std.proofs.Common.{length}
use Rattle.algebra.specs.Cells.{entry}
use Rattle.algebra.proofs.Combining.{Partial}
use Rattle.algebra.proofs.solver.Points.combine.Given as goal

abbrev pub invariant-loop-i : goal.invariant-loop-i
invariant-loop-i g l = Partial g.F.Field.ops (length l.self.all.now) (entry g.F.Field.ops l.self.all.now) (entry g.F.Field.ops l.values) (entry g.F.Field.ops l.f) l.i

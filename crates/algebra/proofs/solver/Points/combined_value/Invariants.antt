use Rattle.std.proofs.Common.{◌≡◌, length}
use Rattle.algebra.specs.Cells.{entry}
use Rattle.algebra.proofs.Combining.{blend}
use Rattle.algebra.proofs.solver.Points.combined_value.Given as goal

abbrev pub invariant-loop-i : goal.invariant-loop-i
invariant-loop-i g l = l.sum ≡ blend g.met.F.Field.laws (length l.self.all.now) (entry g.F.Field.ops l.self.all.now) (entry g.F.Field.ops l.values) l.x l.i

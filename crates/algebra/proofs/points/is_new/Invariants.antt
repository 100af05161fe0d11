use Rattle.std.proofs.Common.{◌≢◌, ℕ, ◌<◌}
use Rattle.algebra.specs.Cells.{entry}
use Rattle.algebra.proofs.points.is_new.Given as goal

abbrev pub invariant-loop-p : goal.invariant-loop-p
invariant-loop-p g l = (k : ℕ) → k < l.p-index → entry g.F.Field.ops l.points k ≢ l.x

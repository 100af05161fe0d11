use Rattle.std.proofs.Common.{◌≡◌, ℕ, ◌<◌}
use Rattle.algebra.specs.Cells.{entry}
use Rattle.algebra.proofs.polynomial.set_zero.Given as goal

abbrev pub invariant-loop-cell : goal.invariant-loop-cell
invariant-loop-cell g l = (k : ℕ) → k < l.cell-index → entry g.F.Field.ops l.f k ≡ g.F.Field.ops.zero

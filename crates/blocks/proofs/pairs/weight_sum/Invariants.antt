use Rattle.std.proofs.Common.{◌≡◌, ◌+◌, ◌*◌, length}
use Rattle.algebra.specs.Poly.{sum, power}
use Rattle.algebra.specs.Cells.{entry}
use Rattle.blocks.proofs.pairs.weight_sum.Given as goal

abbrev pub invariant-loop-p : goal.invariant-loop-p
invariant-loop-p g l = l.total ≡ sum g.F.Field.ops (length l.yielded) (λ j. g.F.Field.ops.mul (entry g.F.Field.ops l.pairs (l.i * length l.points + j)) (power g.F.Field.ops (entry g.F.Field.ops l.points j) l.l))

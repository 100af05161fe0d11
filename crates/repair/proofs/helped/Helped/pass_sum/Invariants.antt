use Rattle.std.proofs.Common.{◌≡◌, length}
use Rattle.algebra.specs.Poly.{sum}
use Rattle.algebra.specs.Cells.{entry}
use Rattle.repair.specs.Repair.{pass_term}
use Rattle.repair.proofs.helped.Helped.pass_sum.Given as goal

abbrev pub invariant-loop-p : goal.invariant-loop-p
invariant-loop-p g l = l.total ≡ sum g.F.Field.ops (length l.yielded)
    (λ m. pass_term g.F.Field.ops l.self.numbers.now l.self.at (entry g.F.Field.ops l.share) (entry g.F.Field.ops l.points m) (entry g.F.Field.ops l.weights m))

use Rattle.algebra.specs.Poly.{Same}
use Rattle.algebra.specs.Cells.{entry}
use Rattle.coder.specs.Points.{listed}
use Rattle.repair.specs.Repair.{pass_weight}
use Rattle.repair.proofs.helped.Helped.fill_pass.Given as goal

abbrev pub invariant-loop-i : goal.invariant-loop-i
invariant-loop-i g l = Same l.i (entry g.F.Field.ops l.plan) (pass_weight g.F.Field.ops l.self.numbers.now l.self.at l.e (listed l.self.helpers.now))

use Rattle.algebra.specs.Poly.{Same}
use Rattle.algebra.specs.Cells.{entry}
use Rattle.coder.specs.Points.{listed}
use Rattle.repair.specs.Repair.{settle_first}
use Rattle.repair.proofs.helped.Helped.fill_first.Given as goal

abbrev pub invariant-loop-c : goal.invariant-loop-c
invariant-loop-c g l = Same l.c (entry g.F.Field.ops l.plan) (settle_first g.F.Field.ops l.self.numbers.now l.self.at (listed l.self.helpers.now) l.row)

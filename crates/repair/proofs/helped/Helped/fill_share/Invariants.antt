use Rattle.algebra.specs.Poly.{Same}
use Rattle.algebra.specs.Cells.{entry}
use Rattle.coder.specs.Points.{listed}
use Rattle.repair.specs.Repair.{helper_share}
use Rattle.repair.proofs.helped.Helped.fill_share.Given as goal

abbrev pub invariant-loop-k : goal.invariant-loop-k
invariant-loop-k g l = Same l.k (entry g.F.Field.ops l.share) (helper_share g.F.Field.ops l.self.numbers.now l.self.at (listed l.self.helpers.now) l.i)

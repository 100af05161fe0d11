use Rattle.algebra.specs.Poly.{Same}
use Rattle.algebra.specs.Cells.{entry}
use Rattle.repair.specs.Repair.{help_weight}
use Rattle.repair.proofs.help.help_plan.Given as goal

abbrev pub invariant-loop-r : goal.invariant-loop-r
invariant-loop-r g l = Same l.r (entry g.F.Field.ops l.cells) (help_weight g.F.Field.ops l.numbers l.from l.about)

use Rattle.algebra.specs.Poly.{Same}
use Rattle.algebra.specs.Cells.{entry}
use Rattle.beehive.specs.Numbers.{node}
use Rattle.beehive.specs.Points.{point}
use Rattle.coder.specs.Points.{listed}
use Rattle.repair.proofs.settle.fill_others.Given as goal

abbrev pub invariant-loop-m : goal.invariant-loop-m
invariant-loop-m g l = Same l.m (entry g.F.Field.ops l.points) (λ m. point g.F.Field.ops l.numbers (node l.numbers (listed l.list m)))

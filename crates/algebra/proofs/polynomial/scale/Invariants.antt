use Rattle.algebra.specs.Poly.{scaled}
use Rattle.algebra.specs.Cells.{entry}
use Rattle.algebra.proofs.Writes.{Written}
use Rattle.algebra.proofs.polynomial.scale.Given as goal

abbrev pub invariant-loop-coefficient : goal.invariant-loop-coefficient
invariant-loop-coefficient g l = Written g.F.Field.ops.zero (scaled g.F.Field.ops l.c (entry g.F.Field.ops l.initial.f)) l.initial.f l.f l.coefficient-index

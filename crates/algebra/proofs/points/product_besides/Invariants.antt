use Rattle.std.proofs.Common.{length}
use Rattle.algebra.specs.Poly.{Same, besides, factors}
use Rattle.algebra.specs.Cells.{entry}
use Rattle.algebra.proofs.points.product_besides.Given as goal

abbrev pub invariant-loop-c : goal.invariant-loop-c
invariant-loop-c g l = Same (length l.initial.f) (entry g.F.Field.ops l.f) (factors g.F.Field.ops (besides l.i l.j) (entry g.F.Field.ops l.points) l.c)

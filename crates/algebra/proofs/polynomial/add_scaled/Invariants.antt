use Rattle.algebra.specs.Poly.{plus}
use Rattle.algebra.specs.Cells.{entry}
use Rattle.algebra.proofs.Writes.{Written}
use Rattle.algebra.proofs.polynomial.add_scaled.Given as goal

abbrev pub invariant-loop-i : goal.invariant-loop-i
invariant-loop-i g l =
    Written g.F.Field.ops.zero (plus g.F.Field.ops (entry g.F.Field.ops l.initial.f) l.c (entry g.F.Field.ops l.g)) l.initial.f l.f l.i

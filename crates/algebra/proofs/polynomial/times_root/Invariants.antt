use Rattle.std.proofs.Common.{◌≡◌}
use Rattle.algebra.specs.Poly.{before, times}
use Rattle.algebra.specs.Cells.{entry}
use Rattle.algebra.proofs.Writes.{Written}
use Rattle.algebra.proofs.polynomial.times_root.Given as goal

abbrev pub invariant-loop-a : goal.invariant-loop-a
invariant-loop-a g l =
    Written g.F.Field.ops.zero (times g.F.Field.ops l.p (entry g.F.Field.ops l.initial.f)) l.initial.f l.f l.a-index ×
    (l.carry ≡ before g.F.Field.ops (entry g.F.Field.ops l.initial.f) l.a-index)

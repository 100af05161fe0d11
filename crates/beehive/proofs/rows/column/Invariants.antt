use Rattle.std.proofs.Common.{◌≡◌}
use Rattle.algebra.specs.Cells.{matrix}
use Rattle.algebra.specs.Poly.{power}
use Rattle.beehive.specs.Points.{dot, powers, point}
use Rattle.beehive.proofs.rows.column.Given as goal

abbrev pub invariant-loop-i : goal.invariant-loop-i
invariant-loop-i g l =
    let F = g.F.Field.ops in
    (l.sum ≡ dot F l.i (powers F l.numbers l.s) (λ i. matrix F l.cells l.cols i l.j)) × (l.power ≡ power F (point F l.numbers l.s) l.i)

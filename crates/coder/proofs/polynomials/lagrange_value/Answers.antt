use Rattle.std.proofs.Common.{◌≡◌, length, ap, ◌∙◌, arith}
use Rattle.algebra.specs.Poly.{poly}
use Rattle.algebra.specs.Cells.{entry}
use Rattle.algebra.proofs.Poly.{poly_cong}
use Rattle.coder.specs.Points.{cut_lagrange}
use Rattle.coder.proofs.polynomials.lagrange_value.Goals as goal

pub returns : goal.returns
returns g c =
    let F = g.F.Field.ops in
    let ps = c.args.points.now in
    let n = length c.args.row.now in
    let f = c.lagrange_row.new.row in
    let e : length f ≡ n = omega arith in
    c.value.ensures ∙ ap (λ n. poly F n (entry F f) c.args.x) e ∙
    poly_cong F n (entry F f) (cut_lagrange F n (length ps) (entry F ps) c.args.i) c.args.x c.lagrange_row.ensures

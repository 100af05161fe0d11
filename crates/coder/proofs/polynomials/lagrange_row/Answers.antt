use Rattle.std.proofs.Common.{◌≡◌, length, ◌∙◌, ap₂, arith}
use Rattle.algebra.specs.Poly.{poly}
use Rattle.algebra.specs.Cells.{entry}
use Rattle.coder.proofs.Formulas.{lagrange_made}
use Rattle.coder.proofs.polynomials.lagrange_row.Goals as goal

pub returns : goal.returns
returns g c =
    let F = g.F.Field.ops in
    let ps = c.args.points.now in
    let n = length c.args.row.now in
    let f = c.product_besides.new.f in
    let e : length f ≡ n = omega arith in
    lagrange_made F n (length ps) (entry F ps) c.args.i (entry F f) (entry F c.scale.new.f) c.value-height.result c.inverted.result c.product_besides.ensures
    (c.value-height.ensures ∙ ap₂ (λ n x. poly F n (entry F f) x) e c.coefficient.ensures)
    c.inverted.ensures (λ k b. c.scale.ensures k (omega arith))

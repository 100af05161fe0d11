use Rattle.std.proofs.Common.{◌≡◌, ◌<◌, length, ◌∙◌, ap₂, arith}
use Rattle.algebra.specs.Poly.{poly}
use Rattle.algebra.specs.Cells.{entry}
use Rattle.algebra.proofs.Products.{read_entry}
use Rattle.algebra.proofs.Solving.{height_nonzero, one_at}
use Rattle.algebra.proofs.solver.Points.lagrange.Goals as goal

pub returns-in-Some : goal.returns-in-Some
returns-in-Some g c =
    let F = g.F.Field.ops in
    let ps = c.args.self.now.all.now in
    let m = length ps in
    let i = c.args.i in
    let f = c.product_besides.new.f in
    let l : i < m = omega arith in
    let n : length f ≡ m = omega arith in
    let h : c.value-height.result ≡ poly F m (entry F f) (entry F ps i) =
    c.value-height.ensures ∙ ap₂ (λ n x. poly F n (entry F f) x) n (read_entry F ps i c.index-points-i.result l c.index-points-i.is) in
    one_at g.met.F.Field.laws m (entry F ps) i (entry F f) l (λ k b. c.product_besides.ensures k (omega arith)) c.args.self.now.distinct c.value-height.result c.in-Some.inverse
    (entry F c.scale.new.f) h c.in-Some.ensures.0 (λ k b. c.scale.ensures k (omega arith))

pub returns-in_default : goal.returns-in_default
returns-in_default g c =
    let F = g.F.Field.ops in
    let ps = c.args.self.now.all.now in
    let m = length ps in
    let i = c.args.i in
    let f = c.product_besides.new.f in
    let l : i < m = omega arith in
    let n : length f ≡ m = omega arith in
    let h : c.value-height.result ≡ poly F m (entry F f) (entry F ps i) =
    c.value-height.ensures ∙ ap₂ (λ n x. poly F n (entry F f) x) n (read_entry F ps i c.index-points-i.result l c.index-points-i.is) in
    absurd (height_nonzero g.met.F.Field.laws m (entry F ps) i (entry F f) l (λ k b. c.product_besides.ensures k (omega arith)) c.args.self.now.distinct c.value-height.result h c.in_default.ensures)

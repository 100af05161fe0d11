use Rattle.std.proofs.Common.{◌≡◌, ◌<◌, length, sym, ap, ◌∙◌, arith}
use Rattle.algebra.specs.Poly.{poly}
use Rattle.algebra.specs.Cells.{entry}
use Rattle.algebra.proofs.Products.{read_entry}
use Rattle.algebra.proofs.Combining.{blend, blend_none, blend_more, blend_all}
use Rattle.algebra.proofs.solver.Points.combined_value.Goals as goal

pub loop-i-init : goal.loop-i-init
loop-i-init g c =
    let F = g.F.Field.ops in
    c.zero-sum.ensures ∙ sym (blend_none g.met.F.Field.laws (length c.args.self.now.all.now) (entry F c.args.self.now.all.now) (entry F c.args.values.now) c.args.x)

pub loop-i-preserved : goal.loop-i-preserved
loop-i-preserved g c =
    let F = g.F.Field.ops in
    let ps = c.args.self.now.all.now in
    let ys = c.args.values.now in
    let row = c.lagrange.new.row in
    let i = c.loop-i.i in
    let l : i < length ys = omega arith in
    let n : length row ≡ length ps = omega arith in
    blend_more g.met.F.Field.laws (length ps) (entry F ps) (entry F ys) c.args.x i (entry F row) c.loop-i.sum c.index-values-i.result c.value.result c.mul.result
    c.add-sum.result c.args.self.now.distinct (omega arith) c.lagrange.ensures c.loop-i.invariant (read_entry F ys i c.index-values-i.result l c.index-values-i.is)
    (c.value.ensures ∙ ap (λ n. poly F n (entry F row) c.args.x) n) c.mul.ensures c.add-sum.ensures

pub returns : goal.returns
returns g c =
    let F = g.F.Field.ops in
    let ps = c.args.self.now.all.now in
    let ys = c.args.values.now in
    let e : c.loop-i.i ≡ length ps = omega arith in
    blend_all g.met.F.Field.laws (length ps) (entry F ps) (entry F ys) c.args.x c.loop-i.sum c.args.self.now.distinct
    (c.loop-i.invariant ∙ ap (blend g.met.F.Field.laws (length ps) (entry F ps) (entry F ys) c.args.x) e)

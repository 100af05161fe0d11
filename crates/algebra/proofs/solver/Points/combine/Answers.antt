use Rattle.std.proofs.Common.{◌<◌, length, arith}
use Rattle.algebra.specs.Cells.{entry}
use Rattle.algebra.proofs.Products.{read_entry}
use Rattle.algebra.proofs.Combining.{partial_none, partial_more}
use Rattle.algebra.proofs.solver.Points.combine.Goals as goal

pub loop-i-init : goal.loop-i-init
loop-i-init g c =
    let F = g.F.Field.ops in
    partial_none g.met.F.Field.laws (length c.args.self.now.all.now) (entry F c.args.self.now.all.now) (entry F c.args.values.now) (entry F c.set_zero.new.f)
    (λ k l. c.set_zero.ensures k (omega arith))

pub loop-i-preserved : goal.loop-i-preserved
loop-i-preserved g c =
    let F = g.F.Field.ops in
    let ps = c.args.self.now.all.now in
    let ys = c.args.values.now in
    let i = c.loop-i.i in
    let l : i < length ys = omega arith in
    partial_more g.met.F.Field.laws (length ps) (entry F ps) (entry F ys) (entry F c.loop-i.f) (entry F c.add_scaled.new.f) (entry F c.lagrange.new.row) i
    c.index-values-i.result (omega arith) (read_entry F ys i c.index-values-i.result l c.index-values-i.is) c.lagrange.ensures
    (λ k b. c.add_scaled.ensures k (omega arith)) c.loop-i.invariant

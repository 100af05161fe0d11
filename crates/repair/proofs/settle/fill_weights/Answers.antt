use Rattle.std.proofs.Common.{◌≡◌, length, ap, ◌∙◌, arith}
use Rattle.algebra.specs.Cells.{entry}
use Rattle.coder.specs.Points.{lagrange, cut_lagrange}
use Rattle.coder.proofs.Formulas.{lagrange_read}
use Rattle.repair.proofs.Settling.{filled_more}
use Rattle.repair.proofs.settle.fill_weights.Goals as goal

pub loop-m-preserved : goal.loop-m-preserved
loop-m-preserved g c =
    let F = g.F.Field.ops in
    let p = entry F c.args.points.now in
    let n = length c.args.points.now in
    let m = c.loop-m.m in
    let ml : length c.loop-m.line ≡ n = omega arith in
    filled_more F (λ m. lagrange F n p m c.args.q) c.loop-m.weights m c.coefficient.result (omega arith)
    (c.coefficient.ensures ∙ lagrange_read g.met.F.Field.laws n p m c.lagrange_row.new.row c.args.q (omega arith) (omega arith)
    (λ k b. c.lagrange_row.ensures k (omega arith) ∙ ap (λ a. cut_lagrange F a n p m k) ml))
    c.loop-m.invariant

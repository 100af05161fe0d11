use Rattle.std.proofs.Common.{◌+◌, ap, ◌∙◌, ap₂, arith}
use Rattle.algebra.specs.Cells.{entry}
use Rattle.beehive.specs.Numbers.{alpha, virtuals}
use Rattle.coder.specs.Points.{listed, chosen_point, lagrange, cut_lagrange}
use Rattle.coder.proofs.Formulas.{lagrange_same}
use Rattle.repair.proofs.helped.Helped.fill_polynomial.Goals as goal

pub returns : goal.returns
returns g c =
    let F = g.F.Field.ops in
    let h = c.args.self.now in
    let n = h.numbers.now in
    let p = entry F h.points.now in
    λ k l. c.lagrange_row.ensures k (omega arith) ∙ ap₂ (λ a m. cut_lagrange F a m p (c.virtuals.result + c.args.i) k) c.requires.coefficients h.count ∙
    ap (λ v. lagrange F (alpha n + alpha n) p (v + c.args.i) k) c.virtuals.ensures ∙
    lagrange_same F (alpha n + alpha n) p (chosen_point F n (listed h.helpers.now)) h.same (virtuals n + c.args.i) k (omega arith)

use Rattle.std.proofs.Common.{◌≡◌, ◌+◌, length, ap₂, ◌∙◌, arith}
use Rattle.algebra.specs.Poly.{poly}
use Rattle.algebra.specs.Cells.{entry}
use Rattle.algebra.proofs.Poly.{poly_cong}
use Rattle.beehive.specs.Numbers.{alpha, node}
use Rattle.beehive.specs.Points.{point}
use Rattle.coder.specs.Points.{listed}
use Rattle.repair.specs.Repair.{helper_poly, pass_weight}
use Rattle.repair.proofs.Settling.{filled_more}
use Rattle.repair.proofs.helped.Helped.fill_pass.Goals as goal

pub loop-i-preserved : goal.loop-i-preserved
loop-i-preserved g c =
    let F = g.F.Field.ops in
    let h = c.args.self.now in
    let n = h.numbers.now in
    let hs = listed h.helpers.now in
    let i = c.loop-i.i in
    let f = entry F c.fill_polynomial.new.line in
    let ea : c.alpha.result ≡ alpha n = c.alpha.ensures in
    let m : length c.fill_polynomial.new.line ≡ alpha n + alpha n = omega (arith, c.split_at_mut-line.ensures.front_len) in
    filled_more F (pass_weight F n h.at c.args.e hs) c.loop-i.plan i c.mul-in-loop-i.result (omega arith)
    (c.mul-in-loop-i.ensures ∙ ap₂ F.mul c.mu_inverse-ratio.ensures (c.mul.ensures ∙ ap₂ F.mul c.mu_sum.ensures
    (c.value.ensures ∙ ap₂ (λ n x. poly F n f x) m c.box_point-point.ensures ∙
    poly_cong F (alpha n + alpha n) f (helper_poly F n hs i) (point F n (node n c.args.e)) c.fill_polynomial.ensures)))
    c.loop-i.invariant

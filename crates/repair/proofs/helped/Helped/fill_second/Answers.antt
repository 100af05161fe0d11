use Rattle.std.proofs.Common.{◌≡◌, ◌-◌, length, ap, ◌∙◌, arith}
use Rattle.algebra.specs.Cells.{entry}
use Rattle.beehive.specs.Numbers.{tail}
use Rattle.coder.specs.Points.{listed, lagrange}
use Rattle.algebra.specs.Poly.{sum}
use Rattle.repair.specs.Repair.{pass_term, second_over}
use Rattle.repair.proofs.Settling.{filled_more, second_helped, second_passed, second_is}
use Rattle.repair.proofs.helped.Helped.fill_second.Goals as goal
use Rattle.repair.proofs.helped.Helped.fill_second.Goals.{then-c-d, else-c-d}

pub loop-c-preserved : goal.loop-c-preserved
loop-c-preserved g c =
    let F = g.F.Field.ops in
    let h = c.args.self.now in
    let n = h.numbers.now in
    let hs = listed h.helpers.now in
    let p = entry F c.fill_others.new.points in
    let w = entry F c.fill_weights.new.weights in
    let i = c.loop-c.c in
    let ed : c.helpers-d.result ≡ n.d = c.helpers-d.ensures in
    let et : c.tail-t.result ≡ tail n = c.tail-t.ensures in
    let m : length c.fill_others.new.points ≡ tail n = omega (arith, c.fill_others.auto.points, c.split_at_mut-points.ensures.front_len) in
    filled_more F (second_over F n h.at hs p w) c.loop-c.plan i c.if-c-d.cell (omega arith)
    (elim c.if-c-d.branch [
      | then-c-d v ↦ v.cell-is ∙ v.pass_sum.ensures ∙ ap (λ m. sum F m (λ m. pass_term F n h.at (entry F v.fill_share.new.share) (p m) (w m))) m ∙
          second_helped F n h.at hs i (entry F v.fill_share.new.share) p w (omega arith) v.fill_share.ensures
      | else-c-d v ↦ v.cell-is ∙ v.coefficient.ensures ∙ ap (λ d. w (i - d)) ed ∙ second_passed F n h.at hs i p w (omega arith)
    ])
    c.loop-c.invariant

pub returns : goal.returns
returns g c =
    let F = g.F.Field.ops in
    let h = c.args.self.now in
    let n = h.numbers.now in
    let p = entry F c.fill_others.new.points in
    let w = entry F c.fill_weights.new.weights in
    let et : c.tail-t.result ≡ tail n = c.tail-t.ensures in
    let m : length c.fill_others.new.points ≡ tail n = omega (arith, c.fill_others.auto.points, c.split_at_mut-points.ensures.front_len) in
    λ k l. c.loop-c.invariant k (omega arith) ∙ second_is F n h.at (listed h.helpers.now) (listed c.args.others.now) c.args.q p w (λ k l. c.fill_others.ensures k (omega arith))
    (λ k l. c.fill_weights.ensures k (omega arith) ∙ ap (λ m. lagrange F m p k c.args.q) m) k (omega arith)

use Rattle.std.proofs.Common.{◌≡◌, ◌*◌, length, ◌∙◌, ap₂, arith, length-take}
use Rattle.algebra.specs.Cells.{entry}
use Rattle.beehive.specs.Numbers.{beta}
use Rattle.coder.specs.Points.{listed}
use Rattle.coder.proofs.Front.{planned_front}
use Rattle.blocks.specs.Weights.{from_boxes}
use Rattle.blocks.proofs.Grids.{boxes_same}
use Rattle.blocks.proofs.plans.read_plan.Goals as goal

pub returns : goal.returns
returns g c =
    let F = g.F.Field.ops in
    let N = c.args.numbers.now in
    let plan = c.args.plan.now in
    let new = c.fill.new.plan in
    let count = c.needed.result * c.beta.result in
    let e : count ≡ N.k * beta N = ap₂ (◌*◌) c.needed.ensures c.beta.ensures in
    let h = c.in_ok-fits_plan.ensures in
    let m = c.split_at_mut-points.ensures.front_len ∙ c.point_count.ensures in
    let long : length new ≡ N.k * beta N = omega (arith, c.fill.auto.plan, length-take count plan) in (
      (omega arith, h.1),
      planned_front F (N.k * beta N) count (from_boxes F N (listed c.args.from.now) c.args.to c.args.row) plan new e long
          (boxes_same F N (listed c.args.from.now) c.args.to c.args.row (entry F c.fill_points.new.points) c.box_point-x.result (entry F new)
          (λ k l. c.fill_points.ensures k (omega arith)) c.box_point-x.ensures (λ k l. c.fill.ensures k (omega arith))),
    )

use Rattle.std.proofs.Common.{◌≡◌, ◌+◌, ◌*◌, get_or, sym, ap, ◌∙◌, ap₂, add-one, arith}
use Rattle.std.specs.Option.{unwrap_or}
use Rattle.algebra.specs.Cells.{matrix}
use Rattle.algebra.specs.Poly.{power}
use Rattle.algebra.proofs.Poly.{power_none, power_more}
use Rattle.beehive.specs.Points.{powers, point}
use Rattle.beehive.proofs.Values.{dot_none, dot_more}
use Rattle.beehive.proofs.rows.column.Goals as goal

pub loop-i-init : goal.loop-i-init
loop-i-init g c =
    let F = g.F.Field.ops in
    let N = c.args.numbers.now in (
      c.zero-sum.ensures ∙ sym (dot_none F (powers F N c.args.s) (λ i. matrix F c.args.cells.now c.args.cols i c.args.j)),
      c.one-power.ensures ∙ sym (power_none F (point F N c.args.s)),
    )

pub loop-i-preserved : goal.loop-i-preserved
loop-i-preserved g c =
    let F = g.F.Field.ops in
    let N = c.args.numbers.now in
    let x = point F N c.args.s in
    let i = c.loop-i.i in
    let p = c.point_of-p.ensures in
    let at = i * c.args.cols + c.args.j in
    let cell : c.unwrap_or-cell.result ≡ matrix F c.args.cells.now c.args.cols i c.args.j =
    c.unwrap_or-cell.ensures ∙ ap (λ o. unwrap_or o c.zero.result) c.copied.ensures ∙ c.get.ensures.lookup.4 (omega arith) c.zero.result ∙ ap (get_or c.args.cells.now at) c.zero.ensures in (
      c.add-sum.ensures
          ∙ ap₂ F.add c.loop-i.invariant.0 (c.mul.ensures ∙ ap₂ F.mul c.loop-i.invariant.1 cell)
          ∙ sym (dot_more F i (powers F N c.args.s) (λ i. matrix F c.args.cells.now c.args.cols i c.args.j)),
      c.mul-power.ensures ∙ ap₂ F.mul p c.loop-i.invariant.1 ∙ sym (power_more F x i) ∙ ap (power F x) (sym (add-one i)),
    )

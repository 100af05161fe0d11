use Rattle.std.proofs.Common.{sym, ap, ◌∙◌, add-one}
use Rattle.algebra.specs.Poly.{power}
use Rattle.algebra.proofs.Poly.{power_none, power_more}
use Rattle.beehive.proofs.points.raised.Goals as goal

pub loop-i-init : goal.loop-i-init
loop-i-init g c = c.one-all.ensures ∙ sym (power_none g.F.Field.ops c.args.x)

pub loop-i-preserved : goal.loop-i-preserved
loop-i-preserved g c =
    let F = g.F.Field.ops in
    c.mul-all.ensures ∙ ap (F.mul c.args.x) c.loop-i.invariant ∙ sym (power_more F c.args.x c.loop-i._i)
    ∙ ap (power F c.args.x) (sym (add-one c.loop-i._i))

use Rattle.std.proofs.Common.{◌∙◌, ⊎_elim, arith, length-take}
use Rattle.std.proofs.lemmas.Bool.{cases_lt}
use Rattle.algebra.proofs.Writes.{past_end}
use Rattle.algebra.proofs.polynomial.add_scaled.Goals as goal

pub returns : goal.returns
returns g c = λ k h.
    let s = length-take c.min-n.result c.args.g.now in
    ⊎_elim (λ b. c.loop-i.invariant.done k b)
    (λ b. c.loop-i.invariant.left k b ∙ past_end g.met.F.Field.laws c.args.f.now c.args.g.now c.args.c k (omega arith)) (cases_lt k c.loop-i.i)

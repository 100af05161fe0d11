use Rattle.std.proofs.Common.{◌/◌, ◌%◌, length}
use Rattle.algebra.specs.Cells.{entry}
use Rattle.algebra.proofs.Writes.{Written}
use Rattle.beehive.specs.Numbers.{alpha, beta}
use Rattle.blocks.specs.Weights.{grid_sum}
use Rattle.blocks.proofs.plans.Target.first_row.Given as goal

abbrev pub invariant-loop-e : goal.invariant-loop-e
invariant-loop-e g l =
    let N = l.self.numbers.now in
    Written g.F.Field.ops.zero
    (λ e. grid_sum g.F.Field.ops (length l.self.points.now) (entry g.F.Field.ops l.self.points.now) (entry g.F.Field.ops l.pairs) (alpha N) (e / beta N) (e % beta N))
    l.initial.plan l.plan l.e

use Rattle.std.proofs.Common.{◌/◌, ◌%◌}
use Rattle.algebra.specs.Cells.{entry}
use Rattle.algebra.proofs.Writes.{Written}
use Rattle.beehive.specs.Numbers.{beta}
use Rattle.blocks.specs.Weights.{second_weight}
use Rattle.blocks.proofs.plans.Target.second_row.Given as goal

abbrev pub invariant-loop-e : goal.invariant-loop-e
invariant-loop-e g l = Written g.F.Field.ops.zero (λ e. second_weight g.F.Field.ops l.self.numbers.now (entry g.F.Field.ops l.self.points.now) l.self.x l.r (e / beta l.self.numbers.now) (e % beta l.self.numbers.now)) l.initial.plan l.plan l.e

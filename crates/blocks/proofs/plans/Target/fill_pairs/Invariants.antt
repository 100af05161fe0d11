use Rattle.std.proofs.Common.{length}
use Rattle.algebra.specs.Cells.{entry}
use Rattle.algebra.proofs.Writes.{Written}
use Rattle.beehive.specs.Numbers.{virtuals}
use Rattle.blocks.specs.Weights.{pair_cell}
use Rattle.blocks.proofs.plans.Target.fill_pairs.Given as goal

abbrev pub invariant-loop-e : goal.invariant-loop-e
invariant-loop-e g l = Written g.F.Field.ops.zero (pair_cell g.F.Field.ops (length l.initial.row) (entry g.F.Field.ops l.self.points.now) (virtuals l.self.numbers.now) l.self.x l.q) l.initial.pairs l.pairs l.e

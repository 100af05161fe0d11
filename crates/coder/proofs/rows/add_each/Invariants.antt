use Rattle.algebra.proofs.Writes.{Written}
use Rattle.coder.proofs.Cells.{target}
use Rattle.coder.proofs.rows.add_each.Given as goal

abbrev pub invariant-loop-q : goal.invariant-loop-q
invariant-loop-q g l = Written 0 (target g.F.Field.ops l.c l.row l.initial.out) l.initial.out l.out l.q

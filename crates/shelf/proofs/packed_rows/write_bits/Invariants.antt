use Rattle.std.proofs.Common.{get_or}
use Rattle.shelf.specs.Bits.{symbol_at}
use Rattle.shelf.specs.Stored.{Written}
use Rattle.shelf.proofs.packed_rows.write_bits.Given as goal

abbrev pub invariant-loop-j : goal.invariant-loop-j
invariant-loop-j l = Written (symbol_at l.initial.bytes l.m.count) (symbol_at l.bytes l.m.count) l.start l.j (λ j. get_or l.cells j 0)

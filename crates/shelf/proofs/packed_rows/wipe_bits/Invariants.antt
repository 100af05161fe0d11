use Rattle.shelf.specs.Bits.{symbol_at}
use Rattle.shelf.specs.Stored.{Written}
use Rattle.shelf.proofs.packed_rows.wipe_bits.Given as goal

abbrev pub invariant-loop-j : goal.invariant-loop-j
invariant-loop-j l = Written (symbol_at l.initial.bytes l.m.count) (symbol_at l.bytes l.m.count) l.start l.j (λ j. 0)

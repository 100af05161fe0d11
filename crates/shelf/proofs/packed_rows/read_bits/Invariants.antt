use Rattle.std.proofs.Common.{◌≡◌, ℕ, ◌+◌, ◌%◌, ◌^◌, ◌<◌, get_or}
use Rattle.shelf.specs.Bits.{symbol_at}
use Rattle.shelf.proofs.packed_rows.read_bits.Given as goal

abbrev pub invariant-loop-j : goal.invariant-loop-j
invariant-loop-j l = (k : ℕ) → k < l.j → get_or l.out k 0 ≡ symbol_at l.bytes l.m.count (l.start + k) % 2 ^ l.m.count

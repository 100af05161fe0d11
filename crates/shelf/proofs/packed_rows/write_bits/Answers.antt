use Rattle.std.proofs.Common.{◌+◌, ◌*◌, ◌^◌, length, get_or, sym, refl, ap, ◌∙◌, arith}
use Rattle.shelf.specs.Bits.{bit_at, gather}
use Rattle.shelf.proofs.Codes.{below_at}
use Rattle.shelf.proofs.Packing.{room_in, symbols_more}
use Rattle.shelf.proofs.Index.{line_before}
use Rattle.shelf.proofs.packed_rows.write_bits.Goals as goal

pub set_symbol-requires : goal.set_symbol-requires
set_symbol-requires c =
    let m = c.args.m.count in
    let last = c.args.start + length c.args.cells.now in
    let r = room_in (8 * length c.args.bytes.now) m last (omega arith) in
    let q = line_before (c.args.start + c.loop-j.j) last m (omega arith) in
    let b = below_at (2 ^ m) c.args.cells.now c.loop-j.j c.requires.1 (omega arith) in
    (omega arith, omega arith, omega arith)

pub loop-j-preserved : goal.loop-j-preserved
loop-j-preserved c =
    let m = c.args.m.count in
    let e = c.bit.ensures.value in
    let new = c.set_symbol.new.bytes in
    symbols_more c.args.bytes.now c.loop-j.bytes new m c.args.start c.loop-j.j (get_or c.args.cells.now c.loop-j.j 0) (λ j. get_or c.args.cells.now j 0) c.loop-j.invariant
    (ap (λ s. gather (bit_at new) s m) (sym e) ∙ c.set_symbol.ensures.here)
    (λ k h. c.set_symbol.ensures.below k (omega arith))
    (λ k h. c.set_symbol.ensures.above k (omega arith)) refl

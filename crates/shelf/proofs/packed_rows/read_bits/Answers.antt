use Rattle.std.proofs.Common.{◌+◌, length, sym, ap, ◌∙◌, mod-eq_of_lt, arith}
use Rattle.shelf.specs.Bits.{bit_at, gather}
use Rattle.shelf.proofs.Packing.{symbol_below}
use Rattle.shelf.proofs.Tabs.{tab_all, tab_more}
use Rattle.shelf.proofs.packed_rows.read_bits.Goals as goal

pub loop-j-preserved : goal.loop-j-preserved
loop-j-preserved c =
    let xs = c.args.bytes.now in
    let m = c.args.m.count in
    tab_more c.loop-j.out c.loop-j.j c.symbol.result _ c.loop-j.invariant (omega arith)
    (c.symbol.ensures ∙ ap (λ s. gather (bit_at xs) s m) c.bit.ensures.value ∙ sym (mod-eq_of_lt (symbol_below xs m (c.args.start + c.loop-j.j))))

pub returns : goal.returns
returns c = tab_all c.loop-j.out (length c.args.out.now) _ (omega arith) (λ k h. c.loop-j.invariant k (omega arith))

use Rattle.std.proofs.Common.{◌+◌, ◌*◌, length, ◌∙◌, arith}
use Rattle.shelf.proofs.Tabs.{tab_all, tab_more}
use Rattle.shelf.proofs.Wholes.{pair_read}
use Rattle.shelf.proofs.packed_bytes.read_pairs.Goals as goal

pub loop-j-preserved : goal.loop-j-preserved
loop-j-preserved c =
    let p = c.args.start + c.loop-j.j in
    let high = c.type_inv.bytes (2 * p) in
    let low = c.type_inv.bytes (2 * p + 1) in
    tab_more c.loop-j.out c.loop-j.j c.from_be_bytes.result _ c.loop-j.invariant (omega arith) (c.from_be_bytes.ensures ∙ pair_read c.args.bytes.now p (omega arith) (omega arith))

pub returns : goal.returns
returns c = tab_all c.loop-j.out (length c.args.out.now) _ (omega arith) (λ k h. c.loop-j.invariant k (omega arith))

use Rattle.std.proofs.Common.{◌+◌, length, ◌∙◌, arith}
use Rattle.shelf.proofs.Tabs.{tab_all, tab_more}
use Rattle.shelf.proofs.Wholes.{byte_read}
use Rattle.shelf.proofs.packed_bytes.read_bytes.Goals as goal

pub loop-j-preserved : goal.loop-j-preserved
loop-j-preserved c = tab_more c.loop-j.out c.loop-j.j c.from.result _ c.loop-j.invariant (omega arith) (c.from.ensures ∙ byte_read c.args.bytes.now (c.args.start + c.loop-j.j) (omega arith))

pub returns : goal.returns
returns c = tab_all c.loop-j.out (length c.args.out.now) _ (omega arith) (λ k h. c.loop-j.invariant k (omega arith))

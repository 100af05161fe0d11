use Rattle.std.proofs.Common.{get_or, refl, arith}
use Rattle.shelf.proofs.Codes.{below_at}
use Rattle.shelf.proofs.Wholes.{byte_more}
use Rattle.shelf.proofs.packed_bytes.write_bytes.Goals as goal

pub overflow_cast-bytes : goal.overflow_cast-bytes
overflow_cast-bytes c = let b = below_at 256 c.args.cells.now c.loop-j.j c.requires.1 (omega arith) in omega arith

pub loop-j-preserved : goal.loop-j-preserved
loop-j-preserved c =
    let x = get_or c.args.cells.now c.loop-j.j 0 in
    byte_more c.args.bytes.now c.loop-j.bytes c.args.start c.loop-j.j x (λ j. get_or c.args.cells.now j 0) c.loop-j.invariant (omega arith)
    (below_at 256 c.args.cells.now c.loop-j.j c.requires.1 (omega arith)) refl

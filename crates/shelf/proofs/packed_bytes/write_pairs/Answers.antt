use Rattle.std.proofs.Common.{◌≡◌, ◌/◌, ◌%◌, get_or, ap, arith}
use Rattle.std.proofs.lemmas.Nat.{and_mask}
use Rattle.shelf.proofs.Wholes.{pair_more}
use Rattle.shelf.proofs.packed_bytes.write_pairs.Goals as goal

-- What is written is left to the code, also where the low byte is made by a mask: so an edit of it is refused for what it writes alone.
pub loop-j-preserved : goal.loop-j-preserved
loop-j-preserved c =
    let x = get_or c.args.cells.now c.loop-j.j 0 in
    let a = get_or c.to_be_bytes.result 0 0 in
    let b = get_or c.to_be_bytes.result 1 0 in
    let high : a ≡ x / 256 % 256 = ap (λ ys. get_or ys 0 0) c.to_be_bytes.ensures in
    let low : b ≡ x % 256 = ap (λ ys. get_or ys 1 0) c.to_be_bytes.ensures in
    let mask = and_mask x 8 in
    pair_more c.args.bytes.now c.loop-j.bytes c.args.start c.loop-j.j _ _ (λ j. get_or c.args.cells.now j 0) c.loop-j.invariant (omega arith) (omega arith) (omega arith) (omega arith)

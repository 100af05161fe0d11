use Rattle.std.proofs.Common.{◌≡◌, ◌+◌, ◌-◌, ◌*◌, ◌/◌, ◌≤◌, length, subst, mul-le-mul_right, mul_assoc, arith}
use Rattle.shelf.specs.Bits.{symbol_at}
use Rattle.shelf.specs.Stored.{Written}
use Rattle.shelf.proofs.Eights.{wiped_both}
use Rattle.shelf.proofs.Packing.{room_in}
use Rattle.shelf.proofs.packed_rows.wipe_row.Goals as goal

pub wipe_eights-requires-clause-room : goal.wipe_eights-requires-clause-room
wipe_eights-requires-clause-room c =
    let m = c.args.m.count in
    let end = c.args.start + c.args.n in
    let last = end / 8 in
    let room = room_in (8 * length c.args.bytes.now) m end (omega arith) in
    let below : 8 * last * m ≤ end * m = mul-le-mul_right m (omega arith) in
    let eights : 8 * last * m ≡ 8 * (last * m) = mul_assoc 8 last m in
    omega arith

pub returns-then-first-last : goal.returns-then-first-last
returns-then-first-last c =
    let m = c.args.m.count in
    let start = c.args.start in
    let first = c.div_ceil-first.result in
    let last = (start + c.args.n) / 8 in
    let old = symbol_at c.args.bytes.now m in
    let one = symbol_at c.wipe_bits.new.bytes m in
    let two = symbol_at c.wipe_eights.new.bytes m in
    let new = symbol_at c.wipe_bits-then-first-last.new.bytes m in
    let a = 8 * first - start in
    let b = 8 * (last - first) in
    let k = (start + c.args.n) - 8 * last in
    let front = wiped_both old one two start a b (8 * first) (omega (arith, c.div_ceil-first.ensures)) c.wipe_bits.ensures c.wipe_eights.ensures in
    let all = wiped_both old two new start (a + b) k (8 * last) (omega (arith, c.div_ceil-first.ensures)) front c.wipe_bits-then-first-last.ensures in
    subst (λ n. Written old new start n (λ j. 0)) (omega (arith, c.div_ceil-first.ensures)) all

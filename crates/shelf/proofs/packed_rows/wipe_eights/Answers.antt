use Rattle.std.proofs.Common.{◌-◌, ◌<◌, ◌≤◌, arith}
use borrow.Rule.Slice.PartMut.{put_mid}
use Rattle.std.proofs.lemmas.List.{places}
use Rattle.shelf.proofs.Eights.{eights_wiped}
use Rattle.shelf.proofs.packed_rows.wipe_eights.Goals as goal

pub returns : goal.returns
returns c =
    let old = c.args.bytes.now in
    let m = c.args.m.count in
    let a = c.args.first in
    let b = c.args.last in
    let first = c.bit.ensures.value in
    let last = c.bit-2.ensures.value in
    let all = c.fill.ensures.after in
    let len = c.fill.ensures.len in
    eights_wiped old (put_mid c.bit.result (c.bit-2.result - c.bit.result) old c.fill.new.self) m a b c.requires.order
    (λ q h. let l : q < c.bit.result = omega arith in grind (arith, places))
    (λ q h k. let l : c.bit.result ≤ q = omega arith in let r : q < c.bit-2.result = omega arith in rw (all (λ y e. e)) (grind (arith, places)))
    (λ q h. let l : c.bit-2.result ≤ q = omega arith in grind (arith, places))

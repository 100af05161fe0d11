use Rattle.std.proofs.Common.{◌-◌, ◌*◌, ◌/◌, ◌%◌, ◌^◌, ◌≤◌, sym, ap, ◌∙◌, arith, pow_mono}
use lib.Bits.{bit_and}
use Rattle.std.proofs.lemmas.Nat.{one_shl, and_mask, and_le_r, pow_pos}
use Rattle.shelf.proofs.Windows.{symbol_in}
use Rattle.shelf.proofs.bits.symbol.Goals as goal

pub overflow_cast-result-3 : goal.overflow_cast-result-3
overflow_cast-result-3 c =
    let m = c.args.m.count in
    let h : m ≤ 16 = omega arith in
    let x = c.window.result / 2 ^ ((24 - c.args.s % 8) - m) in
    omega (arith, and_le_r x ((1 * 2 ^ m) % 2 ^ 32 - 1), one_shl m 32 (omega arith), pow_mono {i = m} {j = 16} h, pow_pos m)

pub returns : goal.returns
returns c =
    let m = c.args.m.count in
    let r = (24 - c.args.s % 8) - m in
    let w = c.window.result in
    ap (λ k. bit_and (w / 2 ^ r) (k - 1)) (one_shl m 32 (omega arith)) ∙ and_mask (w / 2 ^ r) m
    ∙ ap (λ x. x / 2 ^ r % 2 ^ m) c.window.ensures.value ∙ sym (symbol_in c.args.bytes.now m c.args.s (omega arith))

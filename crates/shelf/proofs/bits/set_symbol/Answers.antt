use Rattle.std.proofs.Common.{◌≡◌, ℕ, ◌+◌, ◌-◌, ◌*◌, ◌/◌, ◌%◌, ◌^◌, ◌<◌, ◌≤◌, List, length, ap, ◌∙◌, arith}
use lib.Bits.{bit_and}
use Rattle.std.proofs.lemmas.Nat.{one_shl, and_mask}
use Rattle.shelf.specs.Bits.{bit_at, gather}
use Rattle.shelf.proofs.Windows.{with_window, put_below, put_here, put_before, put_behind, old_le, old_shifted, new_shifted, replaced}
use Rattle.shelf.proofs.bits.set_symbol.Goals as goal

abbrev old_part : (m r w : ℕ) → ℕ
old_part m r w = (bit_and (w / 2 ^ r) ((1 * 2 ^ m) % 2 ^ 32 - 1) * 2 ^ r) % 2 ^ 32

abbrev new_part : (r v : ℕ) → ℕ
new_part r v = (v * 2 ^ r) % 2 ^ 32

old_part_is : (m r w : ℕ) → m ≤ 16 → w < 2 ^ 24 → old_part m r w ≡ (w / 2 ^ r % 2 ^ m) * 2 ^ r
old_part_is m r w h l =
    ap (λ t. (bit_and (w / 2 ^ r) (t - 1) * 2 ^ r) % 2 ^ 32) (one_shl m 32 (omega arith)) ∙ ap (λ t. (t * 2 ^ r) % 2 ^ 32) (and_mask (w / 2 ^ r) m) ∙ old_shifted w m r l

-- What the code computes of a window: its shifts lose nothing.
code_is : (m r w v : ℕ) → m ≤ 16 → m + r ≤ 24 → w < 2 ^ 24 → v < 2 ^ m → (w - old_part m r w) + new_part r v ≡ replaced w m r v
code_is m r w v h k l s = ap (λ t. (w - t) + new_part r v) (old_part_is m r w h l) ∙ ap (λ t. (w - (w / 2 ^ r % 2 ^ m) * 2 ^ r) + t) (new_shifted m r v s k)

pub overflow_sub-w : goal.overflow_sub-w
overflow_sub-w c =
    let m = c.args.m.count in
    let r = (24 - c.args.s % 8) - m in
    let w = c.window-w.result in
    let e = old_part_is m r w (omega arith) (omega arith) in
    let l = old_le w m r in
    omega arith

-- The window that is written, by the bits that were there.
written : (xs : List ℕ) (m s v w : ℕ) → m ≤ 16 → w < 2 ^ 24 → v < 2 ^ m → w ≡ gather (bit_at xs) (8 * (s / 8)) 24
    → (w - old_part m ((24 - s % 8) - m) w) + new_part ((24 - s % 8) - m) v ≡ replaced (gather (bit_at xs) (8 * (s / 8)) 24) m ((24 - s % 8) - m) v
written xs m s v w h l k e = code_is m ((24 - s % 8) - m) w v h (omega arith) l k ∙ ap (λ x. replaced x m ((24 - s % 8) - m) v) e

pub overflow_add-w : goal.overflow_add-w
overflow_add-w c =
    let l = put_below c.args.bytes.now c.args.m.count c.args.s c.from.result (omega arith) (omega arith) (omega arith) (omega arith) in
    let e = written c.args.bytes.now c.args.m.count c.args.s c.from.result c.window-w.result (omega arith) (omega arith) (omega arith) c.window-w.ensures.value in
    omega arith

pub set_window-requires : goal.set_window-requires
set_window-requires c =
    let l = put_below c.args.bytes.now c.args.m.count c.args.s c.from.result (omega arith) (omega arith) (omega arith) (omega arith) in
    let e = written c.args.bytes.now c.args.m.count c.args.s c.from.result c.window-w.result (omega arith) (omega arith) (omega arith) c.window-w.ensures.value in
    (omega arith, omega arith)

pub returns : goal.returns
returns c =
    let xs = c.args.bytes.now in
    let m = c.args.m.count in
    let s = c.args.s in
    let v = c.from.result in
    let e = written xs m s v c.window-w.result (omega arith) (omega arith) (omega arith) c.window-w.ensures.value in
    let f = c.set_window.ensures ∙ ap (with_window xs (s / 8)) e in
    let h : m ≤ 16 = omega arith in
    let i : s + m ≤ 8 * length xs = omega arith in
    let j : 1 ≤ m = omega arith in
    let k : v < 2 ^ m = omega arith in
    record {
      here = ap (λ ys. gather (bit_at ys) s m) f ∙ put_here xs m s v h i j k ∙ c.from.ensures;
      below = λ q l. ap (λ ys. bit_at ys q) f ∙ put_before xs m s v h i j k q l;
      above = λ q l. ap (λ ys. bit_at ys q) f ∙ put_behind xs m s v h i j k q l;
    }

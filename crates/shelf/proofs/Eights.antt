-- Eight symbols of m bits lie in m whole bytes.
use Rattle.std.proofs.Common.{◌≡◌, ℕ, zero, suc, ◌+◌, ◌-◌, ◌*◌, ◌/◌, ◌%◌, ◌^◌, ◌<◌, ◌≤◌, List, get_or, refl, ap, ◌∙◌, inl, inr, mul-le-mul_right, mul_assoc, arith}
use Rattle.std.proofs.Math.Nat.{zero-div}
use Rattle.std.proofs.lemmas.Bool.{cases_lt}
use Rattle.shelf.specs.Bits.{bit_at, gather, symbol_at}
use Rattle.shelf.specs.Stored.{Written}
use Rattle.shelf.proofs.Gathers.{gather_cong}
use Rattle.shelf.proofs.Index.{line_before}

gather_zero : (bit : ℕ → ℕ) (k m : ℕ) → ((i : ℕ) → i < m → bit (k + i) ≡ 0) → gather bit k m ≡ 0
unfolding gather
gather_zero bit k zero h = refl
gather_zero bit k (suc m) h =
    let r = gather_zero bit k m (λ i l. h i (omega arith)) in
    let b = h m (omega arith) in omega arith

-- Only the bytes of the symbols from number 8 · a to before number 8 · b changed, to zeros.
pub eights_wiped : (old new : List ℕ) (m a b : ℕ) → a ≤ b
    → ((q : ℕ) → q < a * m → get_or new q 0 ≡ get_or old q 0)
    → ((q : ℕ) → a * m ≤ q → q < b * m → get_or new q 0 ≡ 0)
    → ((q : ℕ) → b * m ≤ q → get_or new q 0 ≡ get_or old q 0)
    → Written (symbol_at old m) (symbol_at new m) (8 * a) (8 * (b - a)) (λ j. 0)
eights_wiped old new m a b l below inside above =
    let first : 8 * a * m ≡ 8 * (a * m) = mul_assoc 8 a m in
    let last : 8 * b * m ≡ 8 * (b * m) = mul_assoc 8 b m in
    record {
      inside = λ j h.
          let p = 8 * a + j in
          let f : 8 * a * m ≤ p * m = mul-le-mul_right m (omega arith) in
          let e : p * m + m ≤ 8 * b * m = line_before p (8 * b) m (omega arith) in
          gather_zero (bit_at new) (p * m) m
          (λ i k. let z = inside ((p * m + i) / 8) (omega arith) (omega arith) in ap (λ x. x / 2 ^ (7 - (p * m + i) % 8) % 2) z ∙ ap (λ x. x % 2) (zero-div (2 ^ (7 - (p * m + i) % 8))));
      below = λ p h.
          let e : p * m + m ≤ 8 * a * m = line_before p (8 * a) m h in
          gather_cong (bit_at old) (bit_at new) (p * m) m (λ i k. ap (λ x. x / 2 ^ (7 - (p * m + i) % 8) % 2) (below ((p * m + i) / 8) (omega arith)));
      above = λ p h.
          let f : 8 * b * m ≤ p * m = mul-le-mul_right m (omega arith) in
          gather_cong (bit_at old) (bit_at new) (p * m) m (λ i k. ap (λ x. x / 2 ^ (7 - (p * m + i) % 8) % 2) (above ((p * m + i) / 8) (omega arith)));
    }

-- Places made zero, and then those behind them.
pub wiped_both : (old now new : ℕ → ℕ) (start n k at : ℕ) → at ≡ start + n → Written old now start n (λ j. 0) → Written now new at k (λ j. 0)
    → Written old new start (n + k) (λ j. 0)
wiped_both old now new start n k at e u w = record {
  inside = λ j h. elim (cases_lt j n) [
    | inl l ↦ w.below (start + j) (omega arith) ∙ u.inside j l
    | inr l ↦ (let q : start + j ≡ at + (j - n) = omega arith in ap new q ∙ w.inside (j - n) (omega arith))
  ];
  below = λ p h. w.below p (omega arith) ∙ u.below p h;
  above = λ p h. w.above p (omega arith) ∙ u.above p (omega arith);
}

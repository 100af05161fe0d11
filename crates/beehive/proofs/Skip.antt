-- The numbers but i, in order.
use Rattle.std.proofs.Common.{◌≡◌, ℕ, zero, suc, ◌<◌, refl, ap, arith}

unfoldable pub skip : ℕ → ℕ → ℕ
skip zero j = suc j
skip (suc i) zero = zero
skip (suc i) (suc j) = suc (skip i j)

pub skip_not : (i j : ℕ) → i ≡ skip i j → ⊥
unfolding skip
skip_not zero j e = omega arith
skip_not (suc i) zero e = omega arith
skip_not (suc i) (suc j) e = skip_not i j (omega arith)

pub skip_below : (i j m : ℕ) → j < m → skip i j < suc m
unfolding skip
skip_below zero j m l = omega arith
skip_below (suc i) zero m l = omega arith
skip_below (suc i) (suc j) zero l = absurd (omega arith)
skip_below (suc i) (suc j) (suc m) l = let h = skip_below i j m (omega arith) in omega arith

pub skip_same : (i j k : ℕ) → skip i j ≡ skip i k → j ≡ k
unfolding skip
skip_same zero j k e = omega arith
skip_same (suc i) zero zero e = refl
skip_same (suc i) zero (suc k) e = absurd (omega arith)
skip_same (suc i) (suc j) zero e = absurd (omega arith)
skip_same (suc i) (suc j) (suc k) e = ap suc (skip_same i j k (omega arith))

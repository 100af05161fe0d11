-- Cell e of a grid of m columns: its row and its column.
use Rattle.std.proofs.Common.{ℕ, ◌+◌, ◌*◌, ◌/◌, ◌<◌, ◌≤◌, le_trans, mul-le-mul_right, suc-mul, div-lt_iff_lt-mul, mul-le-mul_left, arith}
use Rattle.beehive.specs.Numbers.{beta}
use Rattle.coder.specs.Theorems.{PlansFit}

pub row_of : (e k m : ℕ) → 0 < m → e < k * m → e / m < k
row_of e k m h l = (div-lt_iff_lt-mul {k = m} {x = e} {y = k} h).1 l

pub row_inside : (i k m n : ℕ) → i < k → k * m ≤ n → i * m + m ≤ n
row_inside i k m n l h = omega (arith, mul-le-mul_right m l, suc-mul i m)

-- The largest plan: at most 8 boxes of at most 11 rows.
pub plan_bound : (k b : ℕ) → k ≤ 8 → b ≤ 11 → k * b ≤ 88
plan_bound k b l h = le_trans (mul-le-mul_right b l) (mul-le-mul_left 8 h)

pub plans_fit : PlansFit
plans_fit N = (plan_bound N.k (beta N) (omega arith) (omega arith), omega arith, omega arith, omega arith)

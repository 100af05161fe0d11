-- Polynomials over the field of two elements: bit i of a number is the coefficient of X ^ i, so that a sum is bit_xor
-- and a number below 2 ^ m is a polynomial of degree below m.
use Rattle.std.specs.Prelude.{ℕ, zero, suc, pred, ◌+◌, ◌*◌, ◌/◌, ◌%◌, ◌^◌, ◌<◌, ◌≤◌, bit_xor}

-- the coefficient of X ^ i
abbrev pub coefficient : ℕ → ℕ → ℕ
coefficient i x = x / 2 ^ i % 2

-- p has degree m, which is 2 or more
abbrev pub Degree : ℕ → ℕ → Type 0
Degree m p = (1 < m) × (2 ^ m ≤ p) × (p < 2 ^ suc m)

-- the product of a and the n lowest coefficients of b, without carries: b₀ · a + X · (a · (b₁ + b₂ · X + ..))
unfoldable pub carryless : ℕ → ℕ → ℕ → ℕ
carryless zero a b = 0
carryless (suc n) a b = bit_xor (b % 2 * a) (carryless n a (b / 2) * 2)

-- the remainder of x, of degree below m + n, by p, of degree m: the long division, from the highest coefficient down
unfoldable pub remainder : ℕ → ℕ → ℕ → ℕ → ℕ
remainder m p zero x = x
remainder m p (suc n) x = remainder m p n (bit_xor x (coefficient (m + n) x * (p * 2 ^ n)))

-- the product of two polynomials of degree below m, modulo p
unfoldable pub product : ℕ → ℕ → ℕ → ℕ → ℕ
product m p a b = remainder m p m (carryless m a b)

-- a² · a⁴ · .. · a^(2^n)
unfoldable pub squares : ℕ → ℕ → ℕ → ℕ → ℕ
squares m p zero a = 1
squares m p (suc n) a = product m p (product m p a a) (squares m p n (product m p a a))

-- a^(2^m − 2), the inverse of a in a field of 2^m elements
unfoldable pub inverse : ℕ → ℕ → ℕ → ℕ
inverse m p a = squares m p (pred m) a

-- X^i modulo p
unfoldable pub power : ℕ → ℕ → ℕ → ℕ
power m p zero = 1
power m p (suc i) = product m p 2 (power m p i)

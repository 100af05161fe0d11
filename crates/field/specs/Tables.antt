-- The rules of the tables, each as one test over the whole table, which the checker computes.
use Rattle.std.specs.Prelude.{ℕ, zero, suc, ◌*◌, Bool, true, ◌&&◌, List, [], ◌∷◌, ◌==◌, bit_xor, nat_lt}
use Rattle.field.specs.Polynomials.{coefficient}

-- X times x, modulo p, of degree m: p goes once where X ^ m has come up
abbrev pub next : ℕ → ℕ → ℕ → ℕ
next m p x = bit_xor (x * 2) (coefficient m (x * 2) * p)

-- X ^ i, by i such steps
abbrev pub climbed : ℕ → ℕ → ℕ → ℕ
climbed m p zero = 1
climbed m p (suc i) = next m p (climbed m p i)

-- powers: the first entry is x, and each is X times the one before
abbrev pub climbs : ℕ → ℕ → ℕ → List ℕ → Bool
climbs m p x [] = true
climbs m p x (y ∷ ys) = y == x && climbs m p (next m p x) ys

-- logarithms of k + 1, k + 2 ..: each is below n, and X to it is the number
abbrev pub logs : ℕ → ℕ → ℕ → ℕ → List ℕ → Bool
logs m p n k [] = true
logs m p n k (l ∷ ls) = nat_lt l n && (climbed m p l == suc k && logs m p n (suc k) ls)

-- The polynomials modulo p, of degree m, as a field, over any type with one element for each code.
use Rattle.std.specs.Prelude.{◌≡◌, ℕ, ◌%◌, ◌^◌, ◌<◌, ◌≢◌, bit_xor}
use Rattle.std.proofs.Common.{mod-lt, pow_pos}
use Rattle.field.specs.declared.residue.Residue.{Residue}
use Rattle.field.specs.Laws.{Ops}
use Rattle.field.specs.Polynomials.{Degree, product, inverse}

abbrev pub code_of : (M : ℕ) → Residue M → ℕ
code_of M x = x.code

-- the polynomial of the number's M low bits
abbrev pub from_code : (M : ℕ) → ℕ → Residue M
from_code M n = record { code = n % 2 ^ M; ok = mod-lt n (pow_pos M) }

-- One element for each number below 2 ^ m.
pub record Coded {E : Type 0} (m : ℕ) (code : E → ℕ) (element : ℕ → E) : Type 0 where
  pub bound : (x : E) → code x < 2 ^ m
  pub back : (x : E) → element (code x) ≡ x
  pub there : (n : ℕ) → code (element n) ≡ n % 2 ^ m

abbrev pub modulo : {E : Type 0} (m p : ℕ) (code : E → ℕ) (element : ℕ → E) → Ops E
modulo m p code element = record {
  bits = m;
  zero = element 0;
  one = element 1;
  add = λ x y. element (bit_xor (code x) (code y));
  mul = λ x y. element (product m p (code x) (code y));
  inv = λ x. element (inverse m p (code x));
  code = code;
  element = element;
}

-- Each polynomial but 0 has its inverse modulo p, of degree m.
pub record Modulus (m p : ℕ) : Type 0 where
  pub degree : Degree m p
  pub invertible : (a : ℕ) → 0 < a → a < 2 ^ m → product m p a (inverse m p a) ≡ 1

-- nu is no c · c + c
abbrev pub Rootless : (m p nu : ℕ) → Type 0
Rootless m p nu = (c : ℕ) → c < 2 ^ m → bit_xor (product m p c c) c ≢ nu

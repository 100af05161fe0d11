-- From a modulus to a field: the polynomials modulo p have the laws where each but 0 has its inverse.
use Rattle.std.specs.Prelude.{◌≡◌, ℕ, zero, suc, pred, ◌+◌, ◌-◌, ◌^◌, ◌<◌, ◌≢◌, bit_xor, refl}
use Rattle.std.proofs.Common.{sym, ◌∙◌, ap₂, zero-lt-suc, mod-eq_of_lt, zero-add, suc-add, arith, pow_pos}
use Rattle.std.proofs.Math.Path.{ap}
use mathlib.Core.HLevel.{is_prop→PathP}
use Rattle.std.proofs.Math.Bridge.{le_prop}
use Rattle.std.specs.Int.Bits.{xor_zero_r, xor_assoc, xor_self}
use Rattle.std.proofs.lemmas.Nat.{xor_comm, xor_lt}
use Rattle.field.specs.declared.residue.Residue.{Residue}
use Rattle.field.specs.Laws.{Laws, NoRoot}
use Rattle.field.specs.Polynomials.{product, squares, inverse, power}
use Rattle.field.specs.Residues.{code_of, from_code, Coded, modulo, Modulus, Rootless}
use Rattle.field.specs.Modular as ring

-- a residue is known by its code
pub same_code : (m : ℕ) (x y : Residue m) → x.code ≡ y.code → x ≡ y
same_code m x y e = λ i. record { code = e i; ok = is_prop→PathP (λ j. e j < 2 ^ m) (λ j. le_prop) x.ok y.ok i }

pub coded : (m : ℕ) → Coded m (code_of m) (from_code m)
coded m = record {
  bound = λ x. x.ok;
  back = λ x. same_code m (from_code m x.code) x (mod-eq_of_lt x.ok);
  there = λ n. refl;
}

module _ {m p : ℕ} (t : Modulus m p) where
  one_below : 1 < 2 ^ m
  one_below = ring.one_below m p t.degree

  two_below : 2 < 2 ^ m
  two_below = ring.two_below m p t.degree

  power_below : (i : ℕ) → power m p i < 2 ^ m
  power_below = ring.power_below m p t.degree

  pub below : (a b : ℕ) → a < 2 ^ m → product m p a b < 2 ^ m
  below = ring.below m p t.degree

  pub comm : (a b : ℕ) → a < 2 ^ m → b < 2 ^ m → product m p a b ≡ product m p b a
  comm a b ha hb = ring.comm m p t.degree a b ha hb

  assoc : (a b c : ℕ) → a < 2 ^ m → b < 2 ^ m → c < 2 ^ m → product m p (product m p a b) c ≡ product m p a (product m p b c)
  assoc a b c ha hb hc = ring.assoc m p t.degree a b c ha hb hc

  unit : (b : ℕ) → b < 2 ^ m → product m p 1 b ≡ b
  unit b h = ring.unit m p t.degree b h

  pub zero_product : (b : ℕ) → product m p 0 b ≡ 0
  zero_product = ring.zero_product m p t.degree

  pub product_zero : (a : ℕ) → a < 2 ^ m → product m p a 0 ≡ 0
  product_zero a h = comm a 0 h (pow_pos m) ∙ zero_product a

  squares_zero : (n : ℕ) → squares m p (suc n) 0 ≡ 0
  unfolding squares
  squares_zero n = ap (λ (x : ℕ). product m p x (squares m p n (product m p 0 0))) (zero_product 0) ∙ zero_product (squares m p n (product m p 0 0))

  inverse_zero : inverse m p 0 ≡ 0
  unfolding inverse
  inverse_zero = let e : suc (m - 2) ≡ pred m = omega (arith, t.degree.0) in ap (λ (n : ℕ). squares m p n 0) (sym e) ∙ squares_zero (m - 2)

  squares_below : (n a : ℕ) → a < 2 ^ m → squares m p n a < 2 ^ m
  unfolding squares
  squares_below zero a h = one_below
  squares_below (suc n) a h = below (product m p a a) (squares m p n (product m p a a)) (below a a h)

  inverse_below : (a : ℕ) → a < 2 ^ m → inverse m p a < 2 ^ m
  unfolding inverse
  inverse_below a h = squares_below (pred m) a h

  module _ {E : Type 0} {code : E → ℕ} {element : ℕ → E} (k : Coded m code element) where
    there : (n : ℕ) → n < 2 ^ m → code (element n) ≡ n
    there n h = k.there n ∙ mod-eq_of_lt h

    sum_there : (x y : E) → code (element (bit_xor (code x) (code y))) ≡ bit_xor (code x) (code y)
    sum_there x y = there (bit_xor (code x) (code y)) (xor_lt m (code x) (code y) (k.bound x) (k.bound y))

    product_there : (x y : E) → code (element (product m p (code x) (code y))) ≡ product m p (code x) (code y)
    product_there x y = there (product m p (code x) (code y)) (below (code x) (code y) (k.bound x))

    nonzero : (x : E) → (x ≢ element 0) → (c : ℕ) → code x ≡ c → 0 < c
    nonzero x h zero e = absurd (h (sym (k.back x) ∙ ap element e))
    nonzero x h (suc c) e = zero-lt-suc c

    pub laws : Laws (modulo m p code element)
    laws = record {
      add_assoc = λ x y z. ap element (ap (λ (c : ℕ). bit_xor c (code z)) (sum_there x y) ∙ xor_assoc (code x) (code y) (code z) ∙ sym (ap (bit_xor (code x)) (sum_there y z)));
      add_comm = λ x y. ap element (xor_comm (code x) (code y));
      add_zero = λ x. ap element (ap (bit_xor (code x)) (there 0 (pow_pos m)) ∙ xor_zero_r (code x)) ∙ k.back x;
      add_self = λ x. ap element (xor_self (code x));
      mul_assoc = λ x y z. ap element
          (ap (λ (c : ℕ). product m p c (code z)) (product_there x y) ∙ assoc (code x) (code y) (code z) (k.bound x) (k.bound y) (k.bound z)
          ∙ sym (ap (product m p (code x)) (product_there y z)));
      mul_comm = λ x y. ap element (comm (code x) (code y) (k.bound x) (k.bound y));
      mul_one = λ x. ap element (ap (product m p (code x)) (there 1 one_below) ∙ comm (code x) 1 (k.bound x) one_below ∙ unit (code x) (k.bound x)) ∙ k.back x;
      mul_add = λ x y z. ap element
          (ap (product m p (code x)) (sum_there y z) ∙ ring.product_xor m p t.degree (code x) (code y) (code z) (k.bound x)
          ∙ sym (ap₂ bit_xor (product_there x y) (product_there x z)));
      mul_inv = λ x h. ap element
          (ap (product m p (code x)) (there (inverse m p (code x)) (inverse_below (code x) (k.bound x)))
          ∙ t.invertible (code x) (nonzero x h (code x) refl) (k.bound x));
      inv_zero = ap element (ap (inverse m p) (there 0 (pow_pos m)) ∙ inverse_zero);
      code_below = k.bound;
      element_code = k.back;
      code_element = k.there;
      code_zero = there 0 (pow_pos m);
      code_one = there 1 one_below;
    }

    pub no_root : (nu : ℕ) → nu < 2 ^ m → Rootless m p nu → NoRoot (modulo m p code element) (element nu)
    no_root nu hn none y e =
        none (code y) (k.bound y)
        (sym (there (bit_xor (product m p (code y) (code y)) (code y))
        (xor_lt m (product m p (code y) (code y)) (code y) (below (code y) (code y) (k.bound y)) (k.bound y)))
        ∙ ap (λ (c : ℕ). code (element (bit_xor c (code y)))) (sym (product_there y y)) ∙ ap code e ∙ there nu hn)

  -- powers of X multiply by adding their exponents
  pub powers_product : (i j : ℕ) → product m p (power m p i) (power m p j) ≡ power m p (i + j)
  unfolding power
  powers_product zero j = unit (power m p j) (power_below j) ∙ ap (power m p) (sym (zero-add j))
  powers_product (suc i) j =
      assoc 2 (power m p i) (power m p j) two_below (power_below i) (power_below j)
      ∙ ap (product m p 2) (powers_product i j) ∙ ap (power m p) (sym (suc-add i j))

  unique : (a b : ℕ) → 0 < a → a < 2 ^ m → b < 2 ^ m → product m p a b ≡ 1 → b ≡ inverse m p a
  unique a b some ha hb e =
      let i : ℕ = inverse m p a in
      sym (unit b hb) ∙ ap (λ (x : ℕ). product m p x b) (sym (t.invertible a some ha))
      ∙ ring.swap m p t.degree a i b ha ∙ ap (λ (x : ℕ). product m p x i) e ∙ unit i (inverse_below a ha)

  -- where X to the power of n is 1, the inverse of X to the power of l is X to that of n - l
  pub power_inverse : (n l : ℕ) → power m p n ≡ 1 → l < n → power m p (n - l) ≡ inverse m p (power m p l)
  power_inverse n l round h = unique (power m p l) (power m p (n - l)) (some (power m p l) refl) (power_below l) (power_below (n - l)) whole
    where
      whole : product m p (power m p l) (power m p (n - l)) ≡ 1
      whole = let e : l + (n - l) ≡ n = omega arith in powers_product l (n - l) ∙ ap (power m p) e ∙ round

      some : (a : ℕ) → power m p l ≡ a → 0 < a
      some zero e =
          let z : ◌≡◌ {A = ℕ} 0 1 = sym (zero_product (power m p (n - l))) ∙ ap (λ (x : ℕ). product m p x (power m p (n - l))) (sym e) ∙ whole in omega arith
      some (suc a) e = zero-lt-suc a

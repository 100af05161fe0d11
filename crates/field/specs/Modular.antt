-- Multiplication modulo a polynomial p of degree m makes a commutative ring, whatever p is.
use Rattle.std.specs.Prelude.{◌≡◌, ℕ, zero, suc, ◌+◌, ◌-◌, ◌*◌, ◌/◌, ◌%◌, ◌^◌, ◌<◌, bit_xor}
use Rattle.std.proofs.Math.Path.{refl, sym, ap, ap₂, subst}
use Rattle.std.proofs.Common.{◌∙◌, div-lt_iff_lt-mul, add-zero, zero-mul, one-mul, mul-one, mul_assoc, mod-lt, not-suc-le-zero, le_of_suc-le-suc, zero-lt-suc, zero-add, add-suc, one-add, add-one, pow_mono, shr-shr}
use Rattle.std.proofs.Math.Nat.{div-eq_of_lt, pow-suc, lt_of_lt_of_le}
use native.Mathlib.Omega.{arith}
use Rattle.std.specs.Int.Bits.{xor_zero_l, xor_zero_r, xor_comm, xor_assoc, xor_self, xor_lt, xor_shifted}
use Rattle.std.proofs.lemmas.Nat.{xor_block, xor_shr, xor_mod, shl-shr}
use Rattle.std.proofs.Math.Pow.{pow_pos, pow-lt, split, shr_lt}
use Rattle.field.specs.Polynomials.{Degree, coefficient, carryless, remainder, product, power}
use Rattle.field.specs.Tables.{next, climbed}

two_pos : zero < 2
two_pos = zero-lt-suc 1

pub xor_medial : (a b c d : ℕ) → bit_xor (bit_xor a b) (bit_xor c d) ≡ bit_xor (bit_xor a c) (bit_xor b d)
xor_medial a b c d =
    xor_assoc a b (bit_xor c d)
    ∙ ap (bit_xor a) (sym (xor_assoc b c d) ∙ ap (λ (x : ℕ). bit_xor x d) (xor_comm b c) ∙ xor_assoc c b d)
    ∙ sym (xor_assoc a c (bit_xor b d))

xor_twice : (a b : ℕ) → bit_xor a b * 2 ≡ bit_xor (a * 2) (b * 2)
xor_twice a b =
    sym (ap₂ bit_xor (sym (add-zero (a * 2))) (sym (add-zero (b * 2))) ∙ xor_block 1 a b 0 0 two_pos two_pos ∙ add-zero (bit_xor a b * 2))

no_digit : {A : Type 0} {x : ℕ} → suc (suc x) < 2 → A
no_digit h = absurd (not-suc-le-zero (le_of_suc-le-suc (le_of_suc-le-suc h)))

-- a digit times a number, over the digit and over the number
digit_l : (t u a : ℕ) → t < 2 → u < 2 → bit_xor t u * a ≡ bit_xor (t * a) (u * a)
digit_l zero u a ht hu = sym (ap (λ (x : ℕ). bit_xor x (u * a)) (zero-mul a))
digit_l (suc zero) zero a ht hu = sym (ap (bit_xor (1 * a)) (zero-mul a) ∙ xor_zero_r (1 * a))
digit_l (suc zero) (suc zero) a ht hu = zero-mul a ∙ sym (xor_self (1 * a))
digit_l (suc zero) (suc (suc u)) a ht hu = no_digit hu
digit_l (suc (suc t)) u a ht hu = no_digit ht

digit_r : (t a b : ℕ) → t < 2 → t * bit_xor a b ≡ bit_xor (t * a) (t * b)
digit_r zero a b ht = zero-mul (bit_xor a b) ∙ sym (ap₂ bit_xor (zero-mul a) (zero-mul b))
digit_r (suc zero) a b ht = one-mul (bit_xor a b) ∙ sym (ap₂ bit_xor (one-mul a) (one-mul b))
digit_r (suc (suc t)) a b ht = no_digit ht

digit_below : (t a n : ℕ) → t < 2 → a < n → t * a < n
digit_below zero a n ht ha = subst (λ (x : ℕ). x < n) (sym (zero-mul a)) (omega arith)
digit_below (suc zero) a n ht ha = subst (λ (x : ℕ). x < n) (sym (one-mul a)) ha
digit_below (suc (suc t)) a n ht ha = no_digit ht

coefficient_xor : (i a b : ℕ) → coefficient i (bit_xor a b) ≡ bit_xor (coefficient i a) (coefficient i b)
coefficient_xor i a b = ap (λ (x : ℕ). x % 2) (xor_shr a b i) ∙ xor_mod (a / 2 ^ i) (b / 2 ^ i) 1

coefficient_below : (i x : ℕ) → coefficient i x < 2
coefficient_below i x = mod-lt (x / 2 ^ i) two_pos

-- X times x, modulo p
unfoldable pub double : ℕ → ℕ → ℕ → ℕ
double = next

-- the n lowest coefficients of b, each times a times its power of X, added up modulo p
unfoldable pub times : ℕ → ℕ → ℕ → ℕ → ℕ → ℕ
times m p zero a b = 0
times m p (suc n) a b = bit_xor (b % 2 * a) (times m p n (double m p a) (b / 2))

module _ (m p : ℕ) where
  double_xor : (a b : ℕ) → double m p (bit_xor a b) ≡ bit_xor (double m p a) (double m p b)
  unfolding double
  double_xor a b =
      ap₂ bit_xor (xor_twice a b)
      (ap (λ (x : ℕ). coefficient m x * p) (xor_twice a b) ∙ ap (λ (x : ℕ). x * p) (coefficient_xor m (a * 2) (b * 2))
      ∙ digit_l (coefficient m (a * 2)) (coefficient m (b * 2)) p (coefficient_below m (a * 2)) (coefficient_below m (b * 2)))
      ∙ xor_medial (a * 2) (b * 2) (coefficient m (a * 2) * p) (coefficient m (b * 2) * p)

  times_xor_l : (n a b c : ℕ) → times m p n (bit_xor a b) c ≡ bit_xor (times m p n a c) (times m p n b c)
  unfolding times
  times_xor_l zero a b c = refl
  times_xor_l (suc n) a b c =
      ap₂ bit_xor (digit_r (c % 2) a b (mod-lt c two_pos))
      (ap (λ (x : ℕ). times m p n x (c / 2)) (double_xor a b) ∙ times_xor_l n (double m p a) (double m p b) (c / 2))
      ∙ xor_medial (c % 2 * a) (c % 2 * b) (times m p n (double m p a) (c / 2)) (times m p n (double m p b) (c / 2))

  times_xor_r : (n a b c : ℕ) → times m p n a (bit_xor b c) ≡ bit_xor (times m p n a b) (times m p n a c)
  unfolding times
  times_xor_r zero a b c = refl
  times_xor_r (suc n) a b c =
      ap₂ bit_xor
      (ap (λ (x : ℕ). x * a) (xor_mod b c 1) ∙ digit_l (b % 2) (c % 2) a (mod-lt b two_pos) (mod-lt c two_pos))
      (ap (times m p n (double m p a)) (xor_shr b c 1) ∙ times_xor_r n (double m p a) (b / 2) (c / 2))
      ∙ xor_medial (b % 2 * a) (c % 2 * a) (times m p n (double m p a) (b / 2)) (times m p n (double m p a) (c / 2))

  -- additive, so zero goes to zero
  double_zero : double m p 0 ≡ 0
  double_zero = double_xor 0 0 ∙ xor_self (double m p 0)

  times_zero_l : (n b : ℕ) → times m p n 0 b ≡ 0
  times_zero_l n b = times_xor_l n 0 0 b ∙ xor_self (times m p n 0 b)

  double_digit : (t a : ℕ) → t < 2 → t * double m p a ≡ double m p (t * a)
  double_digit zero a ht = zero-mul (double m p a) ∙ sym (ap (double m p) (zero-mul a) ∙ double_zero)
  double_digit (suc zero) a ht = one-mul (double m p a) ∙ sym (ap (double m p) (one-mul a))
  double_digit (suc (suc t)) a ht = no_digit ht

  times_digit : (n t a b : ℕ) → t < 2 → times m p n (t * a) b ≡ t * times m p n a b
  times_digit n zero a b ht = ap (λ (x : ℕ). times m p n x b) (zero-mul a) ∙ times_zero_l n b ∙ sym (zero-mul (times m p n a b))
  times_digit n (suc zero) a b ht = ap (λ (x : ℕ). times m p n x b) (one-mul a) ∙ sym (one-mul (times m p n a b))
  times_digit n (suc (suc t)) a b ht = no_digit ht

  times_double : (n a b : ℕ) → times m p n (double m p a) b ≡ double m p (times m p n a b)
  unfolding times
  times_double zero a b = sym double_zero
  times_double (suc n) a b =
      ap₂ bit_xor (double_digit (b % 2) a (mod-lt b two_pos)) (times_double n (double m p a) (b / 2))
      ∙ sym (double_xor (b % 2 * a) (times m p n (double m p a) (b / 2)))

  -- factors may change places
  times_swap : (n k a b c : ℕ) → times m p k (times m p n a b) c ≡ times m p n (times m p k a c) b
  unfolding times
  times_swap zero k a b c = times_zero_l k c
  times_swap (suc n) k a b c =
      times_xor_l k (b % 2 * a) (times m p n (double m p a) (b / 2)) c
      ∙ ap₂ bit_xor (times_digit k (b % 2) a c (mod-lt b two_pos))
      (times_swap n k (double m p a) (b / 2) c ∙ ap (λ (x : ℕ). times m p n x (b / 2)) (times_double k a c))

  -- The long division is linear, and commutes with X.
  remainder_xor : (n x y : ℕ) → remainder m p n (bit_xor x y) ≡ bit_xor (remainder m p n x) (remainder m p n y)
  unfolding remainder
  remainder_xor zero x y = refl
  remainder_xor (suc n) x y =
      let q : ℕ = p * 2 ^ n in
      ap (remainder m p n)
      (ap (bit_xor (bit_xor x y)) (ap (λ (u : ℕ). u * q) (coefficient_xor (m + n) x y)
      ∙ digit_l (coefficient (m + n) x) (coefficient (m + n) y) q (coefficient_below (m + n) x) (coefficient_below (m + n) y))
      ∙ xor_medial x y (coefficient (m + n) x * q) (coefficient (m + n) y * q))
      ∙ remainder_xor n (bit_xor x (coefficient (m + n) x * q)) (bit_xor y (coefficient (m + n) y * q))

  coefficient_next : (i x : ℕ) → coefficient (suc i) (x * 2) ≡ coefficient i x
  coefficient_next i x =
      ap (λ (n : ℕ). n % 2)
      (ap (λ (k : ℕ). x * 2 / 2 ^ k) (sym (one-add i)) ∙ sym (shr-shr (x * 2) 1 i) ∙ ap (λ (y : ℕ). y / 2 ^ i) (shl-shr x 1))

  remainder_twice : (n x : ℕ) → remainder m p (suc n) (x * 2) ≡ double m p (remainder m p n x)
  unfolding remainder double
  remainder_twice zero x = ap (bit_xor (x * 2)) (ap₂ (λ (k q : ℕ). coefficient k (x * 2) * q) (add-zero m) (mul-one p))
  remainder_twice (suc n) x =
      let q : ℕ = p * 2 ^ n in
      let top : coefficient (m + suc n) (x * 2) ≡ coefficient (m + n) x =
      ap (λ (k : ℕ). coefficient k (x * 2)) (add-suc m n) ∙ coefficient_next (m + n) x in
      let next : coefficient (m + suc n) (x * 2) * (p * 2 ^ suc n) ≡ coefficient (m + n) x * q * 2 =
      ap₂ (λ (u v : ℕ). u * v) top (ap (λ (u : ℕ). p * u) (pow-suc 2 n) ∙ sym (mul_assoc p (2 ^ n) 2)) ∙ sym (mul_assoc (coefficient (m + n) x) q 2) in
      ap (remainder m p (suc n)) (ap (bit_xor (x * 2)) next ∙ sym (xor_twice x (coefficient (m + n) x * q)))
      ∙ remainder_twice n (bit_xor x (coefficient (m + n) x * q))

  remainder_low : (n x : ℕ) → x < 2 ^ m → remainder m p n x ≡ x
  unfolding remainder
  remainder_low zero x h = refl
  remainder_low (suc n) x h =
      let below : x < 2 ^ (m + n) = lt_of_lt_of_le h (pow_mono (omega arith)) in
      let none : coefficient (m + n) x ≡ 0 = ap (λ (k : ℕ). k % 2) (div-eq_of_lt below) in
      ap (remainder m p n) (ap (λ (k : ℕ). bit_xor x (k * (p * 2 ^ n))) none ∙ ap (bit_xor x) (zero-mul (p * 2 ^ n)) ∙ xor_zero_r x)
      ∙ remainder_low n x h

  pub remainder_carryless : (n a b : ℕ) → a < 2 ^ m → remainder m p n (carryless n a b) ≡ times m p n a b
  unfolding carryless times
  remainder_carryless zero a b h = remainder_low 0 0 (pow_pos m)
  remainder_carryless (suc n) a b h =
      remainder_xor (suc n) (b % 2 * a) (carryless n a (b / 2) * 2)
      ∙ ap₂ bit_xor (remainder_low (suc n) (b % 2 * a) (digit_below (b % 2) a (2 ^ m) (mod-lt b two_pos) h))
      (remainder_twice n (carryless n a (b / 2)) ∙ ap (double m p) (remainder_carryless n a (b / 2) h) ∙ sym (times_double n a (b / 2)))

  pub product_is : (a b : ℕ) → a < 2 ^ m → product m p a b ≡ times m p m a b
  unfolding product
  product_is a b h = remainder_carryless m a b h

  times_zero_r : (n a : ℕ) → times m p n a 0 ≡ 0
  times_zero_r n a = times_xor_r n a 0 0 ∙ xor_self (times m p n a 0)

  carryless_one : (n b : ℕ) → b < 2 ^ n → carryless n 1 b ≡ b
  unfolding carryless
  carryless_one zero b h = omega arith
  carryless_one (suc n) b h =
      let half : b / 2 < 2 ^ n = shr_lt n 1 (subst (λ (k : ℕ). b < 2 ^ k) (sym (add-one n)) h) in
      ap₂ bit_xor (mul-one (b % 2)) (ap (λ (x : ℕ). x * 2) (carryless_one n (b / 2) half))
      ∙ xor_comm (b % 2) (b / 2 * 2) ∙ xor_shifted (b / 2) 1 (b % 2) (mod-lt b two_pos) ∙ split b 1

module _ (m p : ℕ) (degree : Degree m p) where
  -- p = X ^ m + r
  r : ℕ
  r = p - 2 ^ m

  hp : p ≡ 1 * 2 ^ m + r
  unfolding r
  hp = omega (arith, degree.1)

  hr : r < 2 ^ m
  unfolding r
  hr = omega (arith, degree.1, degree.2, pow-suc 2 m)

  pos : 0 < m
  pos = omega (arith, degree.0)

  pub one_below : 1 < 2 ^ m
  one_below = pow-lt pos

  pub two_below : 2 < 2 ^ m
  two_below = pow-lt degree.0

  reduced : (t s : ℕ) → t < 2 → s < 2 ^ m → bit_xor (t * 2 ^ m + s) (t % 2 * p) < 2 ^ m
  reduced zero s ht hs =
      let e : bit_xor (0 * 2 ^ m + s) (0 * p) ≡ s =
      ap₂ bit_xor (ap (λ (x : ℕ). x + s) (zero-mul (2 ^ m)) ∙ zero-add s) (zero-mul p) ∙ xor_zero_r s in
      subst (λ (x : ℕ). x < 2 ^ m) (sym e) hs
  reduced (suc zero) s ht hs =
      let e : bit_xor (1 * 2 ^ m + s) (1 * p) ≡ bit_xor s r =
      ap (bit_xor (1 * 2 ^ m + s)) (one-mul p ∙ hp) ∙ xor_block m 1 1 s r hs hr
      ∙ ap (λ (x : ℕ). x + bit_xor s r) (zero-mul (2 ^ m)) ∙ zero-add (bit_xor s r) in
      subst (λ (x : ℕ). x < 2 ^ m) (sym e) (xor_lt m s r hs hr)
  reduced (suc (suc t)) s ht hs = no_digit ht

  double_below : (x : ℕ) → x < 2 ^ m → double m p x < 2 ^ m
  unfolding double
  double_below x h =
      let t : x * 2 / 2 ^ m < 2 = (div-lt_iff_lt-mul (pow_pos m)).1 (omega arith) in
      subst (λ (y : ℕ). bit_xor y (x * 2 / 2 ^ m % 2 * p) < 2 ^ m) (split (x * 2) m)
      (reduced (x * 2 / 2 ^ m) (x * 2 % 2 ^ m) t (mod-lt (x * 2) (pow_pos m)))

  times_below : (n a b : ℕ) → a < 2 ^ m → times m p n a b < 2 ^ m
  unfolding times
  times_below zero a b h = pow_pos m
  times_below (suc n) a b h =
      xor_lt m (b % 2 * a) (times m p n (double m p a) (b / 2)) (digit_below (b % 2) a (2 ^ m) (mod-lt b two_pos) h)
      (times_below n (double m p a) (b / 2) (double_below a h))

  pub below : (a b : ℕ) → a < 2 ^ m → product m p a b < 2 ^ m
  below a b h = subst (λ (x : ℕ). x < 2 ^ m) (sym (product_is m p a b h)) (times_below m a b h)

  pub unit : (b : ℕ) → b < 2 ^ m → product m p 1 b ≡ b
  unfolding product
  unit b h = ap (remainder m p m) (carryless_one m p m b h) ∙ remainder_low m p m b h

  -- the factors of a may change places
  pub swap : (a b c : ℕ) → a < 2 ^ m → product m p (product m p a b) c ≡ product m p (product m p a c) b
  swap a b c h =
      product_is m p (product m p a b) c (below a b h) ∙ ap (λ (x : ℕ). times m p m x c) (product_is m p a b h)
      ∙ times_swap m p m m a b c
      ∙ sym (product_is m p (product m p a c) b (below a c h) ∙ ap (λ (x : ℕ). times m p m x b) (product_is m p a c h))

  pub comm : (a b : ℕ) → a < 2 ^ m → b < 2 ^ m → product m p a b ≡ product m p b a
  comm a b ha hb =
      ap (λ (x : ℕ). product m p x b) (sym (unit a ha)) ∙ swap 1 a b one_below ∙ ap (λ (x : ℕ). product m p x a) (unit b hb)

  pub assoc : (a b c : ℕ) → a < 2 ^ m → b < 2 ^ m → c < 2 ^ m → product m p (product m p a b) c ≡ product m p a (product m p b c)
  assoc a b c ha hb hc =
      ap (λ (x : ℕ). product m p x c) (comm a b ha hb) ∙ swap b a c hb ∙ comm (product m p b c) a (below b c hb) ha

  pub zero_product : (b : ℕ) → product m p 0 b ≡ 0
  zero_product b = product_is m p 0 b (pow_pos m) ∙ times_zero_l m p m b

  pub product_xor : (a b c : ℕ) → a < 2 ^ m → product m p a (bit_xor b c) ≡ bit_xor (product m p a b) (product m p a c)
  product_xor a b c h =
      product_is m p a (bit_xor b c) h ∙ times_xor_r m p m a b c ∙ sym (ap₂ bit_xor (product_is m p a b h) (product_is m p a c h))

  -- X times x is one step of the tables
  times_one : (n a : ℕ) → times m p (suc n) a 1 ≡ a
  unfolding times
  times_one n a = ap₂ bit_xor (one-mul a) (times_zero_r m p n (double m p a)) ∙ xor_zero_r a

  pub product_two : (x : ℕ) → x < 2 ^ m → product m p 2 x ≡ next m p x
  unfolding times double
  product_two x h =
      let k : m ≡ suc (suc (m - 2)) = omega (arith, degree.0) in
      comm 2 x two_below h ∙ product_is m p x 2 h ∙ ap (λ (n : ℕ). times m p n x 2) k
      ∙ ap₂ bit_xor (zero-mul x) (times_one (m - 2) (double m p x)) ∙ xor_zero_l (double m p x)

  pub power_below : (i : ℕ) → power m p i < 2 ^ m
  unfolding power
  power_below zero = one_below
  power_below (suc i) = below 2 (power m p i) two_below

  pub climbed_power : (i : ℕ) → climbed m p i ≡ power m p i
  unfolding power
  climbed_power zero = refl
  climbed_power (suc i) = ap (next m p) (climbed_power i) ∙ sym (product_two (power m p i) (power_below i))

-- Powers, and the value of a polynomial: of sums, of multiples, of the product with X + p.
use Rattle.std.proofs.Common.{◌≡◌, ℕ, zero, suc, ◌+◌, ◌-◌, ◌<◌, ◌≤◌, sym, refl, ap, ◌∙◌, ap₂, suc-add, zero-add as plus_none, arith}
use mathlib.Core.Path.{◌≡⟨◌⟩◌, ◌∎}
use Rattle.field.specs.Laws.{Ops, Laws}
use Rattle.algebra.specs.Poly.{sum, power, poly, unit, before, times, Same}
use Rattle.algebra.proofs.Ring.{ring, add_zero, zero_mul, mul_assoc, mul_nonzero, zero_one, one_mul}
use Rattle.algebra.proofs.Sum.{sum_none, sum_more, sum_cong, sum_zero, mul_sum, sum_split, sum_single, unit_same, unit_other}

module _ {E : Type 0} (F : Ops E) where
  pub power_none : (x : E) → power F x 0 ≡ F.one
  unfolding power
  power_none x = refl

  pub power_more : (x : E) (n : ℕ) → power F x (suc n) ≡ F.mul x (power F x n)
  unfolding power
  power_more x n = refl

  pub poly_is : (n : ℕ) (f : ℕ → E) (x : E) → poly F n f x ≡ sum F n (λ k. F.mul (f k) (power F x k))
  unfolding poly
  poly_is n f x = refl

  pub poly_none : (f : ℕ → E) (x : E) → poly F 0 f x ≡ F.zero
  poly_none f x = poly_is 0 f x ∙ sum_none F (λ k. F.mul (f k) (power F x k))

  pub poly_more : (n : ℕ) (f : ℕ → E) (x : E) → poly F (suc n) f x ≡ F.add (poly F n f x) (F.mul (f n) (power F x n))
  unfolding poly
  poly_more n f x = sum_more F n (λ k. F.mul (f k) (power F x k))

  pub poly_cong : (n : ℕ) (f g : ℕ → E) (x : E) → Same n f g → poly F n f x ≡ poly F n g x
  unfolding poly
  poly_cong n f g x h = sum_cong F n (λ k. F.mul (f k) (power F x k)) (λ k. F.mul (g k) (power F x k)) (λ k l. ap (λ v. F.mul v (power F x k)) (h k l))

module _ {E : Type 0} {F : Ops E} (L : Laws F) where
  open F use {add as ◌⊕◌, mul as ◌⊗◌, zero as 𝟎, one as 𝟏}

  infixl 60 ◌⊕◌
  infixl 70 ◌⊗◌
  pub power_add : (x : E) (n m : ℕ) → power F x (n + m) ≡ power F x n ⊗ power F x m
  power_add x zero m = rw (plus_none m, power_none F x) (sym (one_mul L (power F x m)))
  power_add x (suc n) m = rw (suc-add n m, power_more F x (n + m), power_more F x n, power_add x n m) (sym (mul_assoc L x (power F x n) (power F x m)))

  pub power_nonzero : (x : E) (n : ℕ) → (x ≡ 𝟎 → ⊥) → power F x n ≡ 𝟎 → ⊥
  power_nonzero x zero nz h = zero_one L (sym h ∙ power_none F x)
  power_nonzero x (suc n) nz h = mul_nonzero L x (power F x n) nz (power_nonzero x n nz) (sym (power_more F x n) ∙ h)

  pub poly_zero : (n : ℕ) (f : ℕ → E) (x : E) → Same n f (λ k. 𝟎) → poly F n f x ≡ 𝟎
  poly_zero n f x h = poly_is F n f x ∙ sum_zero L n (λ k. f k ⊗ power F x k) (λ k l. ap (λ v. v ⊗ power F x k) (h k l) ∙ zero_mul L (power F x k))

  pub poly_add : (n : ℕ) (f g : ℕ → E) (x : E) → poly F n (λ k. f k ⊕ g k) x ≡ poly F n f x ⊕ poly F n g x
  poly_add zero f g x = simp poly_none (simp (ring, L))
  poly_add (suc n) f g x = rw (poly_more F n (λ k. f k ⊕ g k) x, poly_more F n f x, poly_more F n g x, poly_add n f g x) (simp (ring, L))

  pub poly_mul : (n : ℕ) (c : E) (f : ℕ → E) (x : E) → poly F n (λ k. c ⊗ f k) x ≡ c ⊗ poly F n f x
  poly_mul zero c f x = simp poly_none (simp (ring, L))
  poly_mul (suc n) c f x = rw (poly_more F n (λ k. c ⊗ f k) x, poly_more F n f x, poly_mul n c f x) (simp (ring, L))

  pub poly_scaled : (n : ℕ) (f : ℕ → E) (c : E) (g : ℕ → E) (x : E) → poly F n (λ k. f k ⊕ c ⊗ g k) x ≡ poly F n f x ⊕ c ⊗ poly F n g x
  poly_scaled n f c g x = poly_add n f (λ k. c ⊗ g k) x ∙ ap (λ v. poly F n f x ⊕ v) (poly_mul n c g x)

  -- the value of a weighted sum of polynomials
  pub poly_mix : (n m : ℕ) (y : ℕ → E) (l : ℕ → ℕ → E) (x : E) → poly F n (λ k. sum F m (λ i. y i ⊗ l i k)) x ≡ sum F m (λ i. y i ⊗ poly F n (l i) x)
  poly_mix n zero y l x = poly_zero n (λ k. sum F 0 (λ i. y i ⊗ l i k)) x (λ k h. sum_none F (λ i. y i ⊗ l i k)) ∙ sym (sum_none F (λ i. y i ⊗ poly F n (l i) x))
  poly_mix n (suc m) y l x =
      poly_cong F n (λ k. sum F (suc m) (λ i. y i ⊗ l i k)) (λ k. sum F m (λ i. y i ⊗ l i k) ⊕ y m ⊗ l m k) x (λ k h. sum_more F m (λ i. y i ⊗ l i k)) ∙
      poly_scaled n (λ k. sum F m (λ i. y i ⊗ l i k)) (y m) (l m) x ∙
      ap (λ v. v ⊕ y m ⊗ poly F n (l m) x) (poly_mix n m y l x) ∙
      sym (sum_more F m (λ i. y i ⊗ poly F n (l i) x))

  -- f 0 + x (f 1 + f 2 x + ..)
  pub poly_front : (n : ℕ) (f : ℕ → E) (x : E) → poly F (suc n) f x ≡ f 0 ⊕ x ⊗ poly F n (λ k. f (suc k)) x
  poly_front zero f x = rw (poly_more F 0 f x, poly_none F f x, poly_none F (λ k. f (suc k)) x, power_none F x) (simp (ring, L))
  poly_front (suc n) f x = rw (poly_more F (suc n) f x, poly_more F n (λ k. f (suc k)) x, poly_front n f x, power_more F x n) (simp (ring, L))

  -- the first n coefficients, and the next m times x ^ n
  pub poly_split : (n m : ℕ) (f : ℕ → E) (x : E) → poly F (n + m) f x ≡ poly F n f x ⊕ power F x n ⊗ poly F m (λ k. f (n + k)) x
  poly_split n m f x =
      poly_is F (n + m) f x ∙ sum_split L n m (λ k. f k ⊗ power F x k) ∙
      ap₂ F.add (sym (poly_is F n f x))
      (sum_cong F m (λ k. f (n + k) ⊗ power F x (n + k)) (λ k. power F x n ⊗ (f (n + k) ⊗ power F x k)) (λ k h. rw (power_add x n k) (simp (ring, L))) ∙
      sym (mul_sum L m (power F x n) (λ k. f (n + k) ⊗ power F x k)) ∙
      ap (F.mul (power F x n)) (sym (poly_is F m (λ k. f (n + k)) x)))

  -- coefficients that are zero add nothing
  pub poly_longer : (n m : ℕ) (f : ℕ → E) (x : E) → n ≤ m → ((k : ℕ) → n ≤ k → k < m → f k ≡ 𝟎) → poly F m f x ≡ poly F n f x
  poly_longer n m f x le h =
      let e : m ≡ n + (m - n) = omega arith in
      ap (λ d. poly F d f x) e ∙ poly_split n (m - n) f x ∙
      ap (λ v. poly F n f x ⊕ power F x n ⊗ v) (poly_zero (m - n) (λ k. f (n + k)) x (λ k l. h (n + k) (omega arith) (omega arith))) ∙
      simp (ring, L)

  -- the value of X ^ i
  pub poly_unit : (n i : ℕ) (x : E) → i < n → poly F n (unit F i) x ≡ power F x i
  poly_unit n i x l =
      poly_is F n (unit F i) x ∙
      sum_single L n (λ k. unit F i k ⊗ power F x k) i l (λ k h ne. ap (λ v. v ⊗ power F x k) (unit_other F i k (λ e. ne (sym e))) ∙ zero_mul L (power F x k)) ∙
      ap (λ v. v ⊗ power F x i) (unit_same F i) ∙ one_mul L (power F x i)

  times_step : (s b u x p q c : E) → s ⊕ b ⊗ u ≡ (x ⊕ p) ⊗ q → (s ⊕ (b ⊕ p ⊗ c) ⊗ u) ⊕ c ⊗ (x ⊗ u) ≡ (x ⊕ p) ⊗ (q ⊕ c ⊗ u)
  times_step s b u x p q c h =
      (s ⊕ (b ⊕ p ⊗ c) ⊗ u) ⊕ c ⊗ (x ⊗ u) ≡⟨ (simp (ring, L)) ⟩
      (s ⊕ b ⊗ u) ⊕ (x ⊕ p) ⊗ (c ⊗ u) ≡⟨ (rw h) ⟩
      (x ⊕ p) ⊗ q ⊕ (x ⊕ p) ⊗ (c ⊗ u) ≡⟨ (simp (ring, L)) ⟩
      (x ⊕ p) ⊗ (q ⊕ c ⊗ u) ∎

  -- (X + p) times f: its first n coefficients, and the last of f in the place n
  pub poly_times : (n : ℕ) (p : E) (f : ℕ → E) (x : E) → poly F n (times F p f) x ⊕ before F f n ⊗ power F x n ≡ (x ⊕ p) ⊗ poly F n f x
  poly_times zero p f x = rw (poly_none F (times F p f) x, poly_none F f x) (simp (ring, L))
  poly_times (suc n) p f x =
      rw (poly_more F n (times F p f) x, poly_more F n f x, power_more F x n)
      (times_step (poly F n (times F p f) x) (before F f n) (power F x n) x p (poly F n f x) (f n) (poly_times n p f x))

  -- the same where f has fewer than n coefficients
  pub poly_times_low : (n : ℕ) (p : E) (f : ℕ → E) (x : E) → before F f n ≡ 𝟎 → poly F n (times F p f) x ≡ (x ⊕ p) ⊗ poly F n f x
  poly_times_low n p f x z =
      sym (add_zero L (poly F n (times F p f) x)) ∙
      ap (λ v. poly F n (times F p f) x ⊕ v) (sym (zero_mul L (power F x n)) ∙ ap (λ v. v ⊗ power F x n) (sym z)) ∙
      poly_times n p f x

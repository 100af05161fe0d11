-- The product of the factors X + p c: its value and its degree.
use Rattle.std.proofs.Common.{◌≡◌, ℕ, zero, suc, ◌<◌, Bool, true, false, ◌⊎◌, sym, refl, ap, ◌∙◌, ap₂, inl, inr, arith}
use Rattle.std.proofs.lemmas.Bool.{cases_eq, cases_Bool, cond-true, cond-false}
use Rattle.field.specs.Laws.{Ops, Laws}
use Rattle.algebra.specs.Poly.{count, product, poly, unit, before, times, factors}
use Rattle.algebra.proofs.Ring.{ring, mul_zero, zero_mul, mul_nonzero, zero_one}
use Rattle.algebra.proofs.Sum.{unit_same, unit_other}
use Rattle.algebra.proofs.Poly.{poly_unit, poly_times_low, power_none}

pub count_kept : (keep : ℕ → Bool) (n : ℕ) → keep n ≡ true → count keep (suc n) ≡ suc (count keep n)
unfolding count
count_kept keep n e = cond-true (keep n) (suc (count keep n)) (count keep n) e

pub count_left : (keep : ℕ → Bool) (n : ℕ) → keep n ≡ false → count keep (suc n) ≡ count keep n
unfolding count
count_left keep n e = cond-false (keep n) (suc (count keep n)) (count keep n) e

pub count_none : (keep : ℕ → Bool) → count keep 0 ≡ 0
unfolding count
count_none keep = refl

module _ {E : Type 0} (F : Ops E) where
  pub product_none : (keep : ℕ → Bool) (f : ℕ → E) → product F keep 0 f ≡ F.one
  unfolding product
  product_none keep f = refl

  pub product_kept : (keep : ℕ → Bool) (n : ℕ) (f : ℕ → E) → keep n ≡ true → product F keep (suc n) f ≡ F.mul (f n) (product F keep n f)
  unfolding product
  product_kept keep n f e = cond-true (keep n) (F.mul (f n) (product F keep n f)) (product F keep n f) e

  pub product_left : (keep : ℕ → Bool) (n : ℕ) (f : ℕ → E) → keep n ≡ false → product F keep (suc n) f ≡ product F keep n f
  unfolding product
  product_left keep n f e = cond-false (keep n) (F.mul (f n) (product F keep n f)) (product F keep n f) e

  pub factors_none : (keep : ℕ → Bool) (p : ℕ → E) → factors F keep p 0 ≡ unit F 0
  unfolding factors
  factors_none keep p = refl

  pub factors_kept : (keep : ℕ → Bool) (p : ℕ → E) (n : ℕ) → keep n ≡ true → factors F keep p (suc n) ≡ times F (p n) (factors F keep p n)
  unfolding factors
  factors_kept keep p n e = cond-true (keep n) (times F (p n) (factors F keep p n)) (factors F keep p n) e

  pub factors_left : (keep : ℕ → Bool) (p : ℕ → E) (n : ℕ) → keep n ≡ false → factors F keep p (suc n) ≡ factors F keep p n
  unfolding factors
  factors_left keep p n e = cond-false (keep n) (times F (p n) (factors F keep p n)) (factors F keep p n) e

module _ {E : Type 0} {F : Ops E} (L : Laws F) where
  open F use {add as ◌⊕◌, mul as ◌⊗◌, zero as 𝟎, one as 𝟏}

  infixl 60 ◌⊕◌
  infixl 70 ◌⊗◌
  pub product_zero : (keep : ℕ → Bool) (n : ℕ) (f : ℕ → E) (c : ℕ) → c < n → keep c ≡ true → f c ≡ 𝟎 → product F keep n f ≡ 𝟎
  product_zero keep zero f c l k z = absurd (omega arith)
  product_zero keep (suc n) f c l k z = go (cases_eq n c) (cases_Bool (keep n)) (λ b. product_zero keep n f c b k z)
    where
      go : (n ≡ c) ⊎ (n ≡ c → ⊥) → (keep n ≡ true) ⊎ (keep n ≡ false) → (c < n → product F keep n f ≡ 𝟎) → product F keep (suc n) f ≡ 𝟎
      go (inl e) w r = product_kept F keep n f (ap keep e ∙ k) ∙ ap (λ v. v ⊗ product F keep n f) (ap f e ∙ z) ∙ zero_mul L (product F keep n f)
      go (inr ne) (inl t) r = product_kept F keep n f t ∙ ap (F.mul (f n)) (r (omega arith)) ∙ mul_zero L (f n)
      go (inr ne) (inr t) r = product_left F keep n f t ∙ r (omega arith)

  pub product_nonzero : (keep : ℕ → Bool) (n : ℕ) (f : ℕ → E) → ((c : ℕ) → c < n → keep c ≡ true → f c ≡ 𝟎 → ⊥) → product F keep n f ≡ 𝟎 → ⊥
  product_nonzero keep zero f h z = zero_one L (sym z ∙ product_none F keep f)
  product_nonzero keep (suc n) f h z = go (cases_Bool (keep n)) (product_nonzero keep n f (λ c l. h c (omega arith)))
    where
      go : (keep n ≡ true) ⊎ (keep n ≡ false) → (product F keep n f ≡ 𝟎 → ⊥) → ⊥
      go (inl t) r = mul_nonzero L (f n) (product F keep n f) (h n (omega arith) t) r (sym (product_kept F keep n f t) ∙ z)
      go (inr t) r = r (sym (product_left F keep n f t) ∙ z)

  before_high : (f : ℕ → E) (d k : ℕ) → ((j : ℕ) → d < j → f j ≡ 𝟎) → suc d < k → before F f k ≡ 𝟎
  before_high f d zero h l = absurd (omega arith)
  before_high f d (suc k) h l = h k (omega arith)

  -- its degree is the number of the factors
  pub factors_high : (keep : ℕ → Bool) (p : ℕ → E) (n k : ℕ) → count keep n < k → factors F keep p n k ≡ 𝟎
  factors_high keep p zero k l = ap (λ f. f k) (factors_none F keep p) ∙ unit_other F 0 k (λ e. omega (arith, count_none keep))
  factors_high keep p (suc n) k l = go (cases_Bool (keep n)) (factors_high keep p n)
    where
      go : (keep n ≡ true) ⊎ (keep n ≡ false) → ((j : ℕ) → count keep n < j → factors F keep p n j ≡ 𝟎) → factors F keep p (suc n) k ≡ 𝟎
      go (inl t) r =
          ap (λ f. f k) (factors_kept F keep p n t) ∙
          ap₂ (λ u v. u ⊕ p n ⊗ v) (before_high (factors F keep p n) (count keep n) k r (omega (arith, count_kept keep n t))) (r k (omega (arith, count_kept keep n t))) ∙
          simp (ring, L)
      go (inr t) r = ap (λ f. f k) (factors_left F keep p n t) ∙ r k (omega (arith, count_left keep n t))

  -- and its highest coefficient is 1
  pub factors_top : (keep : ℕ → Bool) (p : ℕ → E) (n : ℕ) → factors F keep p n (count keep n) ≡ 𝟏
  factors_top keep p zero = rw (factors_none F keep p, count_none keep) (unit_same F 0)
  factors_top keep p (suc n) = go (cases_Bool (keep n)) (factors_top keep p n)
    where
      go : (keep n ≡ true) ⊎ (keep n ≡ false) → factors F keep p n (count keep n) ≡ 𝟏 → factors F keep p (suc n) (count keep (suc n)) ≡ 𝟏
      go (inl t) r =
          rw (factors_kept F keep p n t, count_kept keep n t)
          (ap₂ (λ u v. u ⊕ p n ⊗ v) r (factors_high keep p n (suc (count keep n)) (omega arith)) ∙ simp (ring, L))
      go (inr t) r = rw (factors_left F keep p n t, count_left keep n t) r

  -- its value at x is the product of the x + p c
  pub factors_value : (keep : ℕ → Bool) (p : ℕ → E) (n m : ℕ) (x : E) → count keep n < m → poly F m (factors F keep p n) x ≡ product F keep n (λ c. x ⊕ p c)
  factors_value keep p zero m x l =
      rw (factors_none F keep p) (poly_unit L m 0 x (omega (arith, count_none keep)) ∙ power_none F x ∙ sym (product_none F keep (λ c. x ⊕ p c)))
  factors_value keep p (suc n) m x l = go (cases_Bool (keep n)) (factors_value keep p n m x)
    where
      low : (m : ℕ) → suc (count keep n) < m → before F (factors F keep p n) m ≡ 𝟎
      low zero h = absurd (omega arith)
      low (suc m) h = factors_high keep p n m (omega arith)

      go : (keep n ≡ true) ⊎ (keep n ≡ false) → (count keep n < m → poly F m (factors F keep p n) x ≡ product F keep n (λ c. x ⊕ p c)) →
          poly F m (factors F keep p (suc n)) x ≡ product F keep (suc n) (λ c. x ⊕ p c)
      go (inl t) r =
          ap (λ f. poly F m f x) (factors_kept F keep p n t) ∙
          poly_times_low L m (p n) (factors F keep p n) x (low m (omega (arith, count_kept keep n t))) ∙
          ap (λ v. (x ⊕ p n) ⊗ v) (r (omega (arith, count_kept keep n t))) ∙
          sym (product_kept F keep n (λ c. x ⊕ p c) t)
      go (inr t) r = ap (λ f. poly F m f x) (factors_left F keep p n t) ∙ r (omega (arith, count_left keep n t)) ∙ sym (product_left F keep n (λ c. x ⊕ p c) t)

-- Bounded sums.
use Rattle.std.proofs.Common.{◌≡◌, ℕ, zero, suc, ◌+◌, ◌<◌, eqb, ◌⊎◌, sym, refl, ap, ◌∙◌, ap₂, inl, inr, add-zero as plus_zero, add-suc, arith}
use Rattle.std.proofs.lemmas.Bool.{eq-eqb, ne_eqb, cases_eq, cond-true, cond-false}
use Rattle.field.specs.Laws.{Ops, Laws}
use Rattle.algebra.specs.Poly.{sum, unit}
use Rattle.algebra.proofs.Ring.{ring, add_zero, zero_add}

module _ {E : Type 0} (F : Ops E) where
  pub sum_none : (f : ℕ → E) → sum F 0 f ≡ F.zero
  unfolding sum
  sum_none f = refl

  pub sum_more : (n : ℕ) (f : ℕ → E) → sum F (suc n) f ≡ F.add (sum F n f) (f n)
  unfolding sum
  sum_more n f = refl

  pub sum_cong : (n : ℕ) (f g : ℕ → E) → ((i : ℕ) → i < n → f i ≡ g i) → sum F n f ≡ sum F n g
  unfolding sum
  sum_cong zero f g h = refl
  sum_cong (suc n) f g h = ap₂ F.add (sum_cong n f g (λ i l. h i (omega arith))) (h n (omega arith))

  pub unit_same : (i : ℕ) → unit F i i ≡ F.one
  unit_same i = cond-true (eqb i i) F.one F.zero (eq-eqb i i refl)

  pub unit_other : (i j : ℕ) → (i ≡ j → ⊥) → unit F i j ≡ F.zero
  unit_other i j ne = cond-false (eqb i j) F.one F.zero (ne_eqb i j ne)

module _ {E : Type 0} {F : Ops E} (L : Laws F) where
  open F use {add as ◌⊕◌, mul as ◌⊗◌, zero as 𝟎}

  infixl 60 ◌⊕◌
  infixl 70 ◌⊗◌
  pub sum_zero : (n : ℕ) (f : ℕ → E) → ((i : ℕ) → i < n → f i ≡ 𝟎) → sum F n f ≡ 𝟎
  sum_zero zero f h = sum_none F f
  sum_zero (suc n) f h = sum_more F n f ∙ ap₂ F.add (sum_zero n f (λ i l. h i (omega arith))) (h n (omega arith)) ∙ add_zero L 𝟎

  pub sum_add : (n : ℕ) (f g : ℕ → E) → sum F n (λ i. f i ⊕ g i) ≡ sum F n f ⊕ sum F n g
  sum_add zero f g = simp sum_none (simp (ring, L))
  sum_add (suc n) f g = simp (sum_more, sum_add n f g) (simp (ring, L))

  pub mul_sum : (n : ℕ) (c : E) (f : ℕ → E) → c ⊗ sum F n f ≡ sum F n (λ i. c ⊗ f i)
  mul_sum zero c f = simp sum_none (simp (ring, L))
  mul_sum (suc n) c f = simp (sum_more, ← (mul_sum n c f)) (simp (ring, L))

  pub sum_mul : (n : ℕ) (f : ℕ → E) (c : E) → sum F n f ⊗ c ≡ sum F n (λ i. f i ⊗ c)
  sum_mul zero f c = simp sum_none (simp (ring, L))
  sum_mul (suc n) f c = simp (sum_more, ← (sum_mul n f c)) (simp (ring, L))

  pub sum_front : (n : ℕ) (f : ℕ → E) → sum F (suc n) f ≡ f 0 ⊕ sum F n (λ i. f (suc i))
  sum_front zero f = rw (sum_more F zero f, sum_none, sum_none) (simp (ring, L))
  sum_front (suc n) f = rw (sum_more F (suc n) f, sum_more F n (λ i. f (suc i)), sum_front n f) (simp (ring, L))

  -- the sum over n + m is that over n and that over the next m
  pub sum_split : (n m : ℕ) (f : ℕ → E) → sum F (n + m) f ≡ sum F n f ⊕ sum F m (λ i. f (n + i))
  sum_split n zero f = rw (plus_zero n, sum_none F (λ i. f (n + i))) (sym (add_zero L (sum F n f)))
  sum_split n (suc m) f = rw (add-suc n m, sum_more F (n + m) f, sum_more F m (λ i. f (n + i)), sum_split n m f) (simp (ring, L))

  pub sum_swap : (n m : ℕ) (f : ℕ → ℕ → E) → sum F n (λ i. sum F m (λ j. f i j)) ≡ sum F m (λ j. sum F n (λ i. f i j))
  sum_swap zero m f = sum_none F (λ i. sum F m (λ j. f i j)) ∙ sym (sum_zero m (λ j. sum F 0 (λ i. f i j)) (λ j l. sum_none F (λ i. f i j)))
  sum_swap (suc n) m f =
      sum_more F n (λ i. sum F m (λ j. f i j)) ∙
      rw (sum_swap n m f) (sym (sum_add m (λ j. sum F n (λ i. f i j)) (λ j. f n j))) ∙
      sum_cong F m (λ j. sum F n (λ i. f i j) ⊕ f n j) (λ j. sum F (suc n) (λ i. f i j)) (λ j l. sym (sum_more F n (λ i. f i j)))

  -- a sum of which one term alone is not zero
  pub sum_single : (n : ℕ) (f : ℕ → E) (k : ℕ) → k < n → ((i : ℕ) → i < n → (i ≡ k → ⊥) → f i ≡ 𝟎) → sum F n f ≡ f k
  sum_single zero f k l h = absurd (omega arith)
  sum_single (suc n) f k l h = sum_more F n f ∙ go (cases_eq n k) (λ b. sum_single n f k b (λ i d. h i (omega arith)))
    where
      go : (n ≡ k) ⊎ (n ≡ k → ⊥) → (k < n → sum F n f ≡ f k) → sum F n f ⊕ f n ≡ f k
      go (inl e) r = ap₂ F.add (sum_zero n f (λ i b. h i (omega arith) (λ d. omega arith))) (ap f e) ∙ zero_add L (f k)
      go (inr ne) r = ap₂ F.add (r (omega arith)) (h n (omega arith) ne) ∙ add_zero L (f k)

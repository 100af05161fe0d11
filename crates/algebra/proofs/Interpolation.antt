-- Lagrange's polynomials exist, and give the polynomial through any values; it is the only one.
use Rattle.std.proofs.Common.{◌≡◌, ℕ, zero, suc, ◌<◌, ◌≤◌, true, false, cond, not, eqb, ◌⊎◌, sym, ap, ◌∙◌, inl, inr, arith}
use Rattle.std.proofs.lemmas.Bool.{eq-eqb, ne_eqb, cases_eq, and_from, and_left, and_right, not_from_true, not_from_false}
use Rattle.field.specs.Laws.{Ops, Laws}
use Rattle.algebra.specs.Poly.{count, product, poly, power, unit, factors, besides, mix, Apart, Through, Lagrange, Existence, Uniqueness, Interpolation, Vandermonde}
use Rattle.algebra.proofs.Ring.{add_self, mul_zero, mul_one, eq_of_add, add_of_eq, inv_mul}
use Rattle.algebra.proofs.Sum.{sum_single, unit_same, unit_other}
use Rattle.algebra.proofs.Poly.{poly_is, poly_cong, poly_add, poly_mul, poly_mix, poly_unit}
use Rattle.algebra.proofs.Roots.{root_count}
use Rattle.algebra.proofs.Factors.{count_kept, count_left, count_none, product_zero, product_nonzero, factors_value}

pub besides_in : (i j c : ℕ) → (c ≡ i → ⊥) → (c ≡ j → ⊥) → besides i j c ≡ true
besides_in i j c a b = and_from (not (eqb c i)) (not (eqb c j)) (not_from_false (eqb c i) (ne_eqb c i a)) (not_from_false (eqb c j) (ne_eqb c j b))

pub besides_first : (i j c : ℕ) → c ≡ i → besides i j c ≡ false
besides_first i j c e = and_left (not (eqb c i)) (not (eqb c j)) (not_from_true (eqb c i) (eq-eqb c i e))

pub besides_second : (i j c : ℕ) → c ≡ j → besides i j c ≡ false
besides_second i j c e = and_right (not (eqb c i)) (not (eqb c j)) (not_from_true (eqb c j) (eq-eqb c j e))

-- How many numbers below n are not i.
count_besides_low : (i n : ℕ) → n ≤ i → count (besides i i) n ≡ n
count_besides_low i zero l = count_none (besides i i)
count_besides_low i (suc n) l = count_kept (besides i i) n (besides_in i i n (λ e. omega arith) (λ e. omega arith)) ∙ ap suc (count_besides_low i n (omega arith))

pub count_besides : (i n : ℕ) → i < n → suc (count (besides i i) n) ≡ n
count_besides i zero l = absurd (omega arith)
count_besides i (suc n) l = go (cases_eq n i) (count_besides i n)
  where
    go : (n ≡ i) ⊎ (n ≡ i → ⊥) → (i < n → suc (count (besides i i) n) ≡ n) → suc (count (besides i i) (suc n)) ≡ suc n
    go (inl e) r = ap suc (count_left (besides i i) n (besides_first i i n e) ∙ count_besides_low i n (omega arith))
    go (inr ne) r = ap suc (count_kept (besides i i) n (besides_in i i n ne ne) ∙ r (omega arith))

module _ {E : Type 0} {F : Ops E} (L : Laws F) where
  open F use {add as ◌⊕◌, mul as ◌⊗◌, zero as 𝟎, one as 𝟏}

  infixl 60 ◌⊕◌
  infixl 70 ◌⊗◌
  pub uniqueness : Uniqueness F
  uniqueness m p y f g apart a b k l =
      eq_of_add L (f k) (g k)
      (root_count L m m (λ k. f k ⊕ g k) p (omega arith) apart (λ i h. poly_add L m f g (p i) ∙ add_of_eq L (poly F m f (p i)) (poly F m g (p i)) (a i h ∙ sym (b i h))) k l)

  -- the sum of the values times Lagrange's polynomials has the values
  pub mix_through : (m : ℕ) (p y : ℕ → E) (l : ℕ → ℕ → E) → Lagrange F m p l → Through F m p y (mix F m y l)
  mix_through m p y l h i b =
      poly_mix L m m y l (p i) ∙
      sum_single L m (λ j. y j ⊗ poly F m (l j) (p i)) i b (λ j c ne. ap (F.mul (y j)) (h.there j i c b ne) ∙ mul_zero L (y j)) ∙
      ap (F.mul (y i)) (h.here i b) ∙ mul_one L (y i)

  pub interpolation : Interpolation F
  interpolation m p y l apart h = (
    mix_through m p y l h,
    λ f t x. poly_cong F m f (mix F m y l) x (uniqueness m p y f (mix F m y l) apart t (mix_through m p y l h)) ∙ poly_mix L m m y l x,
  )

  -- The product of X + p c over c ≠ i is not zero at the point i.
  pub rest_nonzero : (m : ℕ) (p : ℕ → E) (i : ℕ) → Apart m p → i < m → product F (besides i i) m (λ c. p i ⊕ p c) ≡ 𝟎 → ⊥
  rest_nonzero m p i apart l = product_nonzero L (besides i i) m (λ c. p i ⊕ p c) (λ c h k z. go c k (sym (apart i c l h (eq_of_add L (p i) (p c) z))))
    where
      go : (c : ℕ) → besides i i c ≡ true → c ≡ i → ⊥
      go c k e = let z : true ≡ false = sym k ∙ besides_first i i c e in let w : ◌≡◌ {A = ℕ} 0 1 = ap (λ b. cond b 0 1) z in omega arith

  -- Lagrange's polynomials by their formula
  unfoldable pub basis : ℕ → (ℕ → E) → ℕ → ℕ → E
  basis m p i k = F.inv (product F (besides i i) m (λ c. p i ⊕ p c)) ⊗ factors F (besides i i) p m k

  basis_value : (m : ℕ) (p : ℕ → E) (i : ℕ) (x : E) → i < m → poly F m (basis m p i) x ≡ F.inv (product F (besides i i) m (λ c. p i ⊕ p c)) ⊗ product F (besides i i) m (λ c. x ⊕ p c)
  unfolding basis
  basis_value m p i x l =
      poly_mul L m (F.inv (product F (besides i i) m (λ c. p i ⊕ p c))) (factors F (besides i i) p m) x ∙
      ap (F.mul (F.inv (product F (besides i i) m (λ c. p i ⊕ p c)))) (factors_value L (besides i i) p m m x (omega (arith, count_besides i m l)))

  pub basis_lagrange : (m : ℕ) (p : ℕ → E) → Apart m p → Lagrange F m p (basis m p)
  basis_lagrange m p apart = record {
    here = λ i l. basis_value m p i (p i) l ∙ inv_mul L (product F (besides i i) m (λ c. p i ⊕ p c)) (rest_nonzero m p i apart l);
    there = λ i j l b ne. basis_value m p i (p j) l ∙
        ap (F.mul (F.inv (product F (besides i i) m (λ c. p i ⊕ p c))))
        (product_zero L (besides i i) m (λ c. p j ⊕ p c) j b (besides_in i i j (λ e. ne (sym e)) (λ e. ne (sym e))) (add_self L (p j))) ∙
        mul_zero L (F.inv (product F (besides i i) m (λ c. p i ⊕ p c)));
  }

  pub existence : Existence F
  existence m p y apart = (mix F m y (basis m p), mix_through m p y (basis m p) (basis_lagrange m p apart))

  lagrange_unit : (m : ℕ) (p : ℕ → E) (l : ℕ → ℕ → E) → Lagrange F m p l → (i j : ℕ) → i < m → j < m → poly F m (l i) (p j) ≡ unit F i j
  lagrange_unit m p l h i j a b = go (cases_eq i j)
    where
      go : (i ≡ j) ⊎ (i ≡ j → ⊥) → poly F m (l i) (p j) ≡ unit F i j
      go (inl e) = ap (λ k. poly F m (l i) (p k)) (sym e) ∙ h.here i a ∙ sym (unit_same F i) ∙ ap (unit F i) e
      go (inr ne) = h.there i j a b ne ∙ sym (unit_other F i j ne)

  pub vandermonde : Vandermonde F
  vandermonde m p l apart h = (
    λ i j a b. sym (poly_is F m (l i) (p j)) ∙ lagrange_unit m p l h i j a b,
    λ i j a b.
        sym (uniqueness m p (λ k. power F (p k) i) (unit F i) (mix F m (λ k. power F (p k) i) l) apart
        (λ k c. poly_unit L m i (p k) a) (mix_through m p (λ k. power F (p k) i) l h) j b),
  )

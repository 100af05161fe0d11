-- Lagrange polynomials in slices, over the same points, and as what they are; sums one term at a time.
use Rattle.std.proofs.Common.{◌≡◌, ℕ, zero, suc, ◌+◌, ◌<◌, ◌≤◌, Bool, cond, List, length, sym, refl, ap, ◌∙◌, ap₂, ⊎_elim, add-one, arith}
use lib.ListN.{get_or-eq_default}
use Rattle.std.proofs.lemmas.Bool.{cases_lt}
use Rattle.field.specs.Laws.{Ops, Laws}
use Rattle.algebra.specs.Poly.{Same, sum, poly, factors, besides, times, scaled, Apart, Lagrange}
use Rattle.algebra.specs.Cells.{entry}
use Rattle.algebra.proofs.Ring.{mul_zero}
use Rattle.algebra.proofs.Sum.{sum_more}
use Rattle.algebra.proofs.Poly.{poly_cong}
use Rattle.algebra.proofs.Factors.{factors_value, factors_high}
use Rattle.algebra.proofs.Interpolation.{count_besides, basis, basis_lagrange}
use Rattle.beehive.specs.declared.numbers.Numbers.{Numbers}
use Rattle.beehive.specs.Points.{point}
use Rattle.beehive.proofs.Nodes.{chosen as chosen_nodes}
use Rattle.coder.specs.Points.{chosen_point, cut_lagrange, lagrange}

module _ {E : Type 0} (F : Ops E) where
  pub sum_turn : (f : ℕ → E) (i : ℕ) (s v r : E) → s ≡ sum F i f → v ≡ f i → r ≡ F.add s v → r ≡ sum F (i + 1) f
  sum_turn f i s v r es ev er = er ∙ ap₂ F.add es ev ∙ sym (sum_more F i f) ∙ ap (λ n. sum F n f) (sym (add-one i))

  -- the product over the other points, divided by its value at point i
  pub lagrange_made : (n m : ℕ) (p : ℕ → E) (i : ℕ) (f g : ℕ → E) (u w : E) → Same n f (factors F (besides i i) p m) → u ≡ poly F n f (p i) → w ≡ F.inv u →
      Same n g (scaled F w f) → Same n g (cut_lagrange F n m p i)
  lagrange_made n m p i f g u w s eu ew h k b = h k b ∙ ap₂ F.mul (ew ∙ ap F.inv (eu ∙ poly_cong F n f (factors F (besides i i) p m) (p i) s)) (s k b)

  -- The same points.
  module _ (m : ℕ) (p p' : ℕ → E) (same : Same m p p') where
    pub factors_go : (keep : ℕ → Bool) (n : ℕ) → n ≤ m → factors F keep p n ≡ factors F keep p' n
    unfolding factors
    factors_go keep zero l = refl
    factors_go keep (suc n) l = ap₂ (λ x f. cond (keep n) (times F x f) f) (same n (omega arith)) (factors_go keep n (omega arith))

    pub lagrange_same : (i k : ℕ) → i < m → lagrange F m p i k ≡ lagrange F m p' i k
    lagrange_same i k l = ap₂ (λ x f. F.mul (F.inv (poly F m f x)) (f k)) (same i l) (factors_go (besides i i) m (omega arith))

module _ {E : Type 0} {F : Ops E} (L : Laws F) where
  -- a Lagrange polynomial of m points has no coefficient past its m
  pub lagrange_read : (m : ℕ) (p : ℕ → E) (i : ℕ) (f : List E) (q : ℕ) → i < m → length f ≡ m → Same m (entry F f) (lagrange F m p i) → entry F f q ≡ lagrange F m p i q
  lagrange_read m p i f q l e s = ⊎_elim (λ h. s q h)
      (λ h. get_or-eq_default f F.zero {n = q} (omega arith) ∙
      sym (ap (F.mul w) (factors_high L (besides i i) p m q (omega (arith, count_besides i m l))) ∙ mul_zero L w))
      (cases_lt q m)
    where
      w : E
      w = F.inv (poly F m (factors F (besides i i) p m) (p i))

  lagrange_is : (m : ℕ) (p : ℕ → E) (i k : ℕ) → i < m → lagrange F m p i k ≡ basis L m p i k
  unfolding basis
  lagrange_is m p i k l = ap (λ u. F.mul (F.inv u) (factors F (besides i i) p m k)) (factors_value L (besides i i) p m m (p i) (omega (arith, count_besides i m l)))

  -- over different points they are Lagrange polynomials
  pub lagrange_stands : (m : ℕ) (p : ℕ → E) → Apart m p → Lagrange F m p (lagrange F m p)
  lagrange_stands m p apart = record {
    here = λ i l. poly_cong F m (lagrange F m p i) (basis L m p i) (p i) (λ k b. lagrange_is m p i k l) ∙ (basis_lagrange L m p apart).here i l;
    there = λ i j l b ne. poly_cong F m (lagrange F m p i) (basis L m p i) (p j) (λ k d. lagrange_is m p i k l) ∙ (basis_lagrange L m p apart).there i j l b ne;
  }

  pub chosen_lagrange : (N : Numbers) (list : ℕ → ℕ) (m : ℕ) → Apart m (λ c. point F N (chosen_nodes N list c)) → Lagrange F m (λ c. point F N (chosen_nodes N list c)) (lagrange F m (chosen_point F N list))
  unfolding chosen_nodes
  chosen_lagrange N list m apart = lagrange_stands m (chosen_point F N list) apart

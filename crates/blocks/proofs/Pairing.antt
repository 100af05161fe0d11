-- The weights of pairs: as the code makes them, and over the same points.
use Rattle.std.proofs.Common.{◌≡◌, ℕ, suc, ◌<◌, ap, ◌∙◌, ap₂, arith}
use Rattle.field.specs.Laws.{Ops, Laws}
use Rattle.algebra.specs.Poly.{Same, power, poly, besides}
use Rattle.algebra.proofs.Ring.{ring}
use Rattle.algebra.proofs.Sum.{sum_cong}
use Rattle.algebra.proofs.Poly.{poly_cong}
use Rattle.coder.proofs.Formulas.{factors_go}
use Rattle.blocks.specs.Weights.{others, share_weight, row_weight}

module _ {E : Type 0} {F : Ops E} (L : Laws F) where
  -- (a b) c summed in another order
  pub weight_order : (w o y : E) → F.mul (F.mul w o) y ≡ F.mul (F.mul y w) o
  weight_order w o y = simp (ring, L)

module _ {E : Type 0} (F : Ops E) where
  pub pair_made : (n : ℕ) (p : ℕ → E) (i j : ℕ) (x : E) (q : ℕ) (v : ℕ → E) (pi pj a b c : E) → Same n v (others F n p i j) → q < n → pi ≡ p i → pj ≡ p j →
      a ≡ F.mul (F.add (power F x n) (power F pj n)) (F.inv (F.add (power F pi n) (power F pj n))) →
      b ≡ F.mul (poly F n v x) (F.inv (F.mul (poly F n v pi) (poly F n v pj))) → c ≡ v q →
      F.mul (F.mul a b) c ≡ F.mul (share_weight F n p i j x) (others F n p i j q)
  pair_made n p i j x q v pi pj a b c s l ei ej ea eb ec =
      ap₂ F.mul (ap₂ F.mul
      (ea ∙ ap₂ (λ u w. F.mul (F.add (power F x n) (power F w n)) (F.inv (F.add (power F u n) (power F w n)))) ei ej)
      (eb ∙ ap₂ F.mul (cong x) (ap F.inv (ap₂ F.mul (ap (poly F n v) ei ∙ cong (p i)) (ap (poly F n v) ej ∙ cong (p j))))))
      (ec ∙ s q l)
    where
      cong : (y : E) → poly F n v y ≡ poly F n (others F n p i j) y
      cong y = poly_cong F n v (others F n p i j) y s

  module _ (n : ℕ) (p p' : ℕ → E) (same : Same (suc n) p p') where
    pub row_weight_same : (i l : ℕ) (x : E) (q : ℕ) → i < suc n → row_weight F n p i l x q ≡ row_weight F n p' i l x q
    row_weight_same i l x q h = sum_cong F (suc n)
        (λ j. F.mul (F.mul (power F (p j) l) (share_weight F n p i j x)) (others F n p i j q))
        (λ j. F.mul (F.mul (power F (p' j) l) (share_weight F n p' i j x)) (others F n p' i j q)) (λ j b.
        ap₂ (λ a v. term (p i) a v j) (same j b) (factors_go F (suc n) p p' same (besides i j) (suc n) (omega arith)) ∙
        ap (λ a. term a (p' j) (others F n p' i j) j) (same i h))
      where
        term : E → E → (ℕ → E) → ℕ → E
        term a b v j = F.mul (F.mul (power F b l)
            (F.mul (F.mul (F.add (power F x n) (power F b n)) (F.inv (F.add (power F a n) (power F b n))))
            (F.mul (poly F n v x) (F.inv (F.mul (poly F n v a) (poly F n v b)))))) (v q)

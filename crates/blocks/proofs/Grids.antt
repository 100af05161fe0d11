-- The grid of pairs, summed up, gives the weights of rows; the weights of a row over the same points are the same.
use Rattle.std.proofs.Common.{◌≡◌, ℕ, suc, ◌+◌, ◌-◌, ◌*◌, ◌/◌, ◌%◌, ◌<◌, ◌≤◌, cond, ◌&&◌, eqb, ltb, sym, ap, ◌∙◌, ap₂, ⊎_elim, arith}
use lib.Arith.{digits_div, digits_mod}
use Rattle.std.proofs.lemmas.Bool.{lt-ltb, le-ltb, cases_lt, cond-true, cond-false, and_right}
use Rattle.field.specs.Laws.{Ops, Laws}
use Rattle.algebra.specs.Poly.{Same, power}
use Rattle.algebra.proofs.Sum.{sum_cong}
use Rattle.algebra.proofs.Poly.{poly_cong}
use Rattle.beehive.specs.declared.numbers.Numbers.{Numbers}
use Rattle.beehive.specs.Numbers.{alpha, beta, virtuals}
use Rattle.beehive.specs.Numbers.{node}
use Rattle.beehive.specs.Points.{point}
use Rattle.coder.specs.Points.{lagrange, chosen_point}
use Rattle.blocks.specs.Weights.{others, share_weight, first_weight, second_weight, row_from, from_boxes}
use Rattle.blocks.specs.Weights.{pair_cell, grid_sum, points_used}
use Rattle.coder.proofs.Indices.{row_of, row_inside}
use Rattle.blocks.proofs.Pairing.{weight_order, row_weight_same}
use Rattle.coder.proofs.Formulas.{lagrange_same}

module _ {E : Type 0} {F : Ops E} (L : Laws F) (N : Numbers) (p w : ℕ → E) (x : E) (q : ℕ) where
  cell : (i j : ℕ) → j < suc (alpha N) → pair_cell F (alpha N) p (virtuals N) x q (i * suc (alpha N) + j) ≡
      F.mul (share_weight F (alpha N) p (virtuals N + i) j x) (others F (alpha N) p (virtuals N + i) j q)
  cell i j l = ap₂ (λ a b. F.mul (share_weight F (alpha N) p (virtuals N + a) b x) (others F (alpha N) p (virtuals N + a) b q)) (digits_div i l) (digits_mod i l)

  pub grid_first : (i l : ℕ) → i < N.k → Same (N.k * suc (alpha N)) w (pair_cell F (alpha N) p (virtuals N) x q) →
      grid_sum F (suc (alpha N)) p w (alpha N) i l ≡ first_weight F N p x q i l
  grid_first i l h s = ap (λ v. cond (ltb l (alpha N)) v F.zero) (sum_cong F (suc (alpha N))
      (λ j. F.mul (w (i * suc (alpha N) + j)) (power F (p j) l))
      (λ j. F.mul (F.mul (power F (p j) l) (share_weight F (alpha N) p (virtuals N + i) j x)) (others F (alpha N) p (virtuals N + i) j q))
      (λ j b. ap (λ v. F.mul v (power F (p j) l)) (s (i * suc (alpha N) + j) (omega (arith, row_inside i N.k (suc (alpha N)) (N.k * suc (alpha N)) h (omega arith))) ∙ cell i j b) ∙
      weight_order L (share_weight F (alpha N) p (virtuals N + i) j x) (others F (alpha N) p (virtuals N + i) j q) (power F (p j) l)))

module _ {E : Type 0} (F : Ops E) (N : Numbers) (p p' : ℕ → E) (x : E) where
  first_same : Same (suc (alpha N)) p p' → (r i l : ℕ) → i < N.k → first_weight F N p x r i l ≡ first_weight F N p' x r i l
  first_same s r i l h = ap (λ v. cond (ltb l (alpha N)) v F.zero) (row_weight_same F (alpha N) p p' s (virtuals N + i) l x r (omega arith))

  second_same : Same (alpha N) p p' → (r i l : ℕ) → second_weight F N p x r i l ≡ second_weight F N p' x r i l
  second_same s r i l = ⊎_elim
      (λ h. ap (λ v. cond (eqb l r && ltb i (N.k - 1)) v F.zero) (poly_cong F (alpha N) (lagrange F (alpha N) p (virtuals N + i)) (lagrange F (alpha N) p' (virtuals N + i)) x
      (λ k b. lagrange_same F (alpha N) p p' s (virtuals N + i) k (omega arith))))
      (λ h. none p h ∙ sym (none p' h))
      (cases_lt i (N.k - 1))
    where
      none : (p : ℕ → E) → N.k - 1 ≤ i → second_weight F N p x r i l ≡ F.zero
      none p h = cond-false (eqb l r && ltb i (N.k - 1)) _ F.zero (and_right (eqb l r) (ltb i (N.k - 1)) (le-ltb i (N.k - 1) h))

  -- for a row of the first part α + 1 points count, and α for one of the second
  pub row_from_first : (r i l : ℕ) → r < alpha N → Same (suc (alpha N)) p p' → i < N.k → first_weight F N p x r i l ≡ row_from F N p' x r i l
  row_from_first r i l h s b = first_same s r i l b ∙ sym (cond-true (ltb r (alpha N)) (first_weight F N p' x r i l) (second_weight F N p' x r i l) (lt-ltb r (alpha N) h))

  pub row_from_second : (r i l : ℕ) → alpha N ≤ r → Same (alpha N) p p' → second_weight F N p x r i l ≡ row_from F N p' x r i l
  row_from_second r i l h s = second_same s r i l ∙ sym (cond-false (ltb r (alpha N)) (first_weight F N p' x r i l) (second_weight F N p' x r i l) (le-ltb r (alpha N) h))

  pub row_same : (r i l : ℕ) → Same (points_used N r) p p' → i < N.k → row_from F N p x r i l ≡ row_from F N p' x r i l
  row_same r i l s b = ⊎_elim
      (λ h. let e = cond-true (ltb r (alpha N)) (alpha N + 1) (alpha N) (lt-ltb r (alpha N) h) in
      cond-true (ltb r (alpha N)) (first_weight F N p x r i l) (second_weight F N p x r i l) (lt-ltb r (alpha N) h) ∙ row_from_first r i l h (λ k d. s k (omega arith)) b)
      (λ h. let e = cond-false (ltb r (alpha N)) (alpha N + 1) (alpha N) (le-ltb r (alpha N) h) in
      cond-false (ltb r (alpha N)) (first_weight F N p x r i l) (second_weight F N p x r i l) (le-ltb r (alpha N) h) ∙ row_from_second r i l h (λ k d. s k (omega arith)))
      (cases_lt r (alpha N))

-- the plan of a row over points that are those of the nodes of a list
pub boxes_same : {E : Type 0} (F : Ops E) (N : Numbers) (list : ℕ → ℕ) (to r : ℕ) (p : ℕ → E) (x : E) (f : ℕ → E) → Same (points_used N r) p (chosen_point F N list) → x ≡ point F N (node N to) →
    Same (N.k * beta N) f (λ e. row_from F N p x r (e / beta N) (e % beta N)) → Same (N.k * beta N) f (from_boxes F N list to r)
boxes_same F N list to r p x f s ex plan e l =
    plan e l ∙ row_same F N p (chosen_point F N list) x r (e / beta N) (e % beta N) s (row_of e N.k (beta N) (omega arith) l) ∙
    ap (λ x. row_from F N (chosen_point F N list) x r (e / beta N) (e % beta N)) ex

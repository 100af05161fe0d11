-- The coefficients of a settled row, as the code makes them.
use Rattle.std.proofs.Common.{◌≡◌, ℕ, ◌+◌, ◌-◌, ◌<◌, ◌≤◌, cond, ltb, List, length, set, sym, ap, ◌∙◌, ap₂, ⊎_elim, arith, ◌≢◌, get_or-set_other, get_or-set_same, below_more}
use Rattle.std.proofs.lemmas.Bool.{lt-ltb, le-ltb, cases_lt, cond-true, cond-false}
use Rattle.field.specs.Laws.{Ops}
use Rattle.algebra.specs.Poly.{Same, sum, power}
use Rattle.algebra.specs.Cells.{entry}
use Rattle.algebra.proofs.Sum.{sum_cong}
use Rattle.algebra.proofs.Poly.{poly_cong}
use Rattle.beehive.specs.declared.numbers.Numbers.{Numbers}
use Rattle.beehive.specs.Numbers.{alpha, tail, node}
use Rattle.beehive.specs.Points.{point, mu}
use Rattle.coder.specs.Points.{lagrange}
use Rattle.repair.specs.Repair.{helper_share, pass_poly, pass_term, tail_over, second_over, settle_second}
use Rattle.coder.proofs.Formulas.{lagrange_same}

-- A list whose first n entries are the target's, after one entry more.
pub filled_more : {E : Type 0} (F : Ops E) (target : ℕ → E) (new : List E) (n : ℕ) (v : E) → n < length new → v ≡ target n → Same n (entry F new) target → Same (n + 1) (entry F (set new n v)) target
filled_more F target new n v l e s = below_more (λ k. entry F (set new n v) k ≡ target k) n
    (λ k h. let ne : k ≢ n = omega arith in rw get_or-set_other (s k h))
    (get_or-set_same new n v F.zero l ∙ e)

module _ {E : Type 0} (F : Ops E) (N : Numbers) where
  -- a helper's coefficient in a row of the second part, from those in the rows of the first, and a pass's
  pub second_helped : (j : ℕ) (helpers : ℕ → ℕ) (c : ℕ) (share p w : ℕ → E) → c < N.d → Same (alpha N) share (helper_share F N j helpers c) →
      sum F (tail N) (λ m. pass_term F N j share (p m) (w m)) ≡ second_over F N j helpers p w c
  second_helped j helpers c share p w l s =
      sum_cong F (tail N) (λ m. pass_term F N j share (p m) (w m)) (λ m. pass_term F N j (helper_share F N j helpers c) (p m) (w m))
      (λ m b. ap (λ v. F.mul (F.mul (F.inv (F.add (mu F N (node N j)) (power F (p m) (alpha N)))) v) (w m)) (poly_cong F (alpha N) share (helper_share F N j helpers c) (p m) s)) ∙
      sym (cond-true (ltb c N.d) (tail_over F N j helpers p w c) (w (c - N.d)) (lt-ltb c N.d l))

  pub second_passed : (j : ℕ) (helpers : ℕ → ℕ) (c : ℕ) (p w : ℕ → E) → N.d ≤ c → w (c - N.d) ≡ second_over F N j helpers p w c
  second_passed j helpers c p w l = sym (cond-false (ltb c N.d) (tail_over F N j helpers p w c) (w (c - N.d)) (le-ltb c N.d l))

  -- the same points and weights
  second_same : (j : ℕ) (helpers : ℕ → ℕ) (p p' w w' : ℕ → E) → Same (tail N) p p' → Same (tail N) w w' → (c : ℕ) → c < N.d + tail N →
      second_over F N j helpers p w c ≡ second_over F N j helpers p' w' c
  second_same j helpers p p' w w' sp sw c l = ⊎_elim
      (λ h. ap (λ v. cond (ltb c N.d) v (w (c - N.d))) (sum_cong F (tail N) (λ m. term (p m) (w m)) (λ m. term (p' m) (w' m)) (λ m b. ap₂ term (sp m b) (sw m b))) ∙
      cond-true (ltb c N.d) (tail_over F N j helpers p' w' c) (w (c - N.d)) (lt-ltb c N.d h) ∙
      sym (cond-true (ltb c N.d) (tail_over F N j helpers p' w' c) (w' (c - N.d)) (lt-ltb c N.d h)))
      (λ h. cond-false (ltb c N.d) (tail_over F N j helpers p w c) (w (c - N.d)) (le-ltb c N.d h) ∙ sw (c - N.d) (omega arith) ∙
      sym (cond-false (ltb c N.d) (tail_over F N j helpers p' w' c) (w' (c - N.d)) (le-ltb c N.d h)))
      (cases_lt c N.d)
    where
      term : E → E → E
      term = pass_term F N j (helper_share F N j helpers c)

  pub second_is : (j : ℕ) (helpers others : ℕ → ℕ) (q : ℕ) (p w : ℕ → E) → Same (tail N) p (λ m. point F N (node N (others m))) → Same (tail N) w (λ m. lagrange F (tail N) p m q) →
      (c : ℕ) → c < N.d + tail N → second_over F N j helpers p w c ≡ settle_second F N j helpers others q c
  second_is j helpers others q p w sp sw = second_same j helpers p (λ m. point F N (node N (others m))) w (λ m. pass_poly F N others m q) sp
      (λ m b. sw m b ∙ lagrange_same F (tail N) p (λ m. point F N (node N (others m))) sp m q b)

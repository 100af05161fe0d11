-- Segments by the weights of the plans: that of a helper from its rows, a pass from the helpers' segments, and the rows of a
-- newcomer from the segments that came to it.
use Rattle.std.proofs.Common.{◌≡◌, ℕ, ◌+◌, ◌-◌, ◌<◌, ◌≤◌, ltb, sym, ap, ◌∙◌, ap₂, ⊎_elim, arith}
use Rattle.std.proofs.lemmas.Bool.{lt-ltb, le-ltb, cases_lt, cond-true, cond-false}
use Rattle.field.specs.Laws.{Ops, Laws}
use Rattle.algebra.specs.Poly.{sum, poly, Lagrange, Apart}
use Rattle.algebra.proofs.Ring.{ring, add_comm, add_zero, zero_mul}
use Rattle.algebra.proofs.Sum.{sum_cong, sum_zero, sum_add, mul_sum, sum_mul, sum_split, sum_swap}
use Rattle.algebra.proofs.Poly.{poly_cong, poly_mix}
use Rattle.beehive.specs.declared.numbers.Numbers.{Numbers}
use Rattle.beehive.specs.Numbers.{alpha, tail, Box, node}
use Rattle.beehive.specs.Points.{dot, point, powers, mu, Suits}
use Rattle.beehive.specs.Rule.{first, second, Lawful, segment}
use Rattle.beehive.specs.Theorems.{Others}
use Rattle.beehive.proofs.Nodes.{box_node, boxes_different, points_apart, chosen as chosen_nodes}
use Rattle.beehive.proofs.Values.{dot_poly}
use Rattle.beehive.proofs.Repair.{helper_points}
use Rattle.beehive.proofs.Helped.{about, about_helped, first_about, segment_helped, second_passed}
use Rattle.coder.specs.Points.{chosen_point, lagrange}
use Rattle.repair.specs.Repair.{help_weight, pass_weight, helper_poly, helper_share, pass_poly, tail_over, settle_first, settle_second, settle_weight}
use Rattle.repair.specs.Theorems.{HelpMakesSegments, PassMakesSegments, SettleMakesBlocks}
use Rattle.coder.proofs.Formulas.{chosen_lagrange, lagrange_stands}

module _ {E : Type 0} {F : Ops E} (L : Laws F) where
  open F use {add as ◌⊕◌, mul as ◌⊗◌, zero as 𝟎, inv as inv}

  infixl 60 ◌⊕◌
  infixl 70 ◌⊗◌
  pub help_makes : HelpMakesSegments F
  help_makes N blocks i j =
      sum_split L (alpha N) (tail N) (λ r. help_weight F N i j r ⊗ blocks (node N i) r) ∙
      ap₂ F.add
      (sum_cong F (alpha N) (λ r. help_weight F N i j r ⊗ blocks (node N i) r) (λ r. w ⊗ (powers F N (node N j) r ⊗ blocks (node N i) r))
      (λ r l. ap (λ v. v ⊗ blocks (node N i) r) (cond-true (ltb r (alpha N)) (w ⊗ powers F N (node N j) r) (powers F N (node N j) (r - alpha N)) (lt-ltb r (alpha N) l)) ∙
      L.mul_assoc w (powers F N (node N j) r) (blocks (node N i) r)) ∙ sym (mul_sum L (alpha N) w (λ r. powers F N (node N j) r ⊗ blocks (node N i) r)))
      (sum_cong F (tail N) (λ q. help_weight F N i j (alpha N + q) ⊗ blocks (node N i) (alpha N + q)) (λ q. powers F N (node N j) q ⊗ blocks (node N i) (alpha N + q))
      (λ q l. let e : alpha N + q - alpha N ≡ q = omega arith in ap (λ v. v ⊗ blocks (node N i) (alpha N + q))
      (cond-false (ltb (alpha N + q) (alpha N)) (w ⊗ powers F N (node N j) (alpha N + q)) (powers F N (node N j) (alpha N + q - alpha N)) (le-ltb (alpha N + q) (alpha N) (omega arith)) ∙ ap (powers F N (node N j)) e))) ∙
      add_comm L _ _
    where
      w : E
      w = inv (mu F N (node N i) ⊕ mu F N (node N j))

  module _ (N : Numbers) (suits : Suits F N) (blocks : ℕ → ℕ → E) (lawful : Lawful F N blocks) (j : ℕ) (box : Box N j) (helpers : ℕ → ℕ) (other : Others N j N.d helpers) where
    seg : ℕ → E
    seg i = segment F N blocks (node N (helpers i)) (node N j)

    gap : ℕ → E
    gap i = mu F N (node N (helpers i)) ⊕ mu F N (node N j)

    polys : Lagrange F (alpha N + alpha N) (λ c. point F N (chosen_nodes N helpers c)) (lagrange F (alpha N + alpha N) (chosen_point F N helpers))
    polys = chosen_lagrange L N helpers (alpha N + alpha N) (helper_points L N suits j box helpers other seg)

    pub pass_made : (e : ℕ) → Box N e → (e ≡ j → ⊥) → sum F N.d (λ i. pass_weight F N j e helpers i ⊗ segment F N blocks (node N (helpers i)) (node N j)) ≡ segment F N blocks (node N e) (node N j)
    unfolding seg gap
    pass_made e other_box ne =
        sum_cong F N.d (λ i. pass_weight F N j e helpers i ⊗ seg i) (λ i. w ⊗ ((gap i ⊗ seg i) ⊗ at i)) (λ i l. order w (gap i) (at i) (seg i)) ∙
        sym (mul_sum L N.d w (λ i. (gap i ⊗ seg i) ⊗ at i)) ∙
        sym (segment_helped L N suits blocks lawful j box helpers other (lagrange F (alpha N + alpha N) (chosen_point F N helpers)) polys (node N e) (box_node N e other_box) (λ q. ne (omega arith)))
      where
        w : E
        w = inv (mu F N (node N e) ⊕ mu F N (node N j))

        at : ℕ → E
        at i = poly F (alpha N + alpha N) (helper_poly F N helpers i) (point F N (node N e))

        order : (w g a s : E) → (w ⊗ (g ⊗ a)) ⊗ s ≡ w ⊗ ((g ⊗ s) ⊗ a)
        order w g a s = simp (ring, L)

    -- the first part
    pub first_made : (k : ℕ) → k < alpha N → first F N blocks (node N j) k ≡ sum F N.d (λ i. helper_share F N j helpers i k ⊗ segment F N blocks (node N (helpers i)) (node N j))
    unfolding seg gap
    first_made k l =
        first_about L N suits blocks lawful j box k l ∙
        ap₂ (λ u v. u ⊕ m ⊗ v) (half k (omega arith)) (half (alpha N + k) (omega arith)) ∙
        ap (λ v. sum F N.d (λ i. (gap i ⊗ seg i) ⊗ p i k) ⊕ v) (mul_sum L N.d m (λ i. (gap i ⊗ seg i) ⊗ p i (alpha N + k))) ∙
        sym (sum_add L N.d (λ i. (gap i ⊗ seg i) ⊗ p i k) (λ i. m ⊗ ((gap i ⊗ seg i) ⊗ p i (alpha N + k)))) ∙
        sum_cong F N.d (λ i. (gap i ⊗ seg i) ⊗ p i k ⊕ m ⊗ ((gap i ⊗ seg i) ⊗ p i (alpha N + k))) (λ i. helper_share F N j helpers i k ⊗ seg i)
        (λ i b. order (gap i) (seg i) (p i k) m (p i (alpha N + k)))
      where
        m : E
        m = mu F N (node N j)

        p : ℕ → ℕ → E
        p i = helper_poly F N helpers i

        half : (k : ℕ) → k < alpha N + alpha N → about L N suits blocks lawful j box k ≡ sum F N.d (λ i. (gap i ⊗ seg i) ⊗ p i k)
        half k b = about_helped L N suits blocks lawful j box helpers other (lagrange F (alpha N + alpha N) (chosen_point F N helpers)) polys k b

        order : (g s a m b : E) → (g ⊗ s) ⊗ a ⊕ m ⊗ ((g ⊗ s) ⊗ b) ≡ (g ⊗ (a ⊕ m ⊗ b)) ⊗ s
        order g s a m b = simp (ring, L)

    module _ (others : ℕ → ℕ) (rest : Others N j (tail N) others) where
      pass : ℕ → E
      pass m = segment F N blocks (node N j) (node N (others m))

      ratio : ℕ → E
      ratio m = inv (mu F N (node N j) ⊕ mu F N (node N (others m)))

      share_at : ℕ → ℕ → E
      share_at m i = poly F (alpha N) (helper_share F N j helpers i) (point F N (node N (others m)))

      -- what the first part adds to a pass, over the helpers' segments
      dot_made : (m : ℕ) → dot F (alpha N) (powers F N (node N (others m))) (first F N blocks (node N j)) ≡ sum F N.d (λ i. seg i ⊗ share_at m i)
      unfolding seg share_at
      dot_made m =
          dot_poly L N (alpha N) (node N (others m)) (first F N blocks (node N j)) ∙
          poly_cong F (alpha N) (first F N blocks (node N j)) (λ k. sum F N.d (λ i. seg i ⊗ helper_share F N j helpers i k)) (point F N (node N (others m)))
          (λ k l. first_made k l ∙ sum_cong F N.d (λ i. helper_share F N j helpers i k ⊗ seg i) (λ i. seg i ⊗ helper_share F N j helpers i k) (λ i b. L.mul_comm (helper_share F N j helpers i k) (seg i))) ∙
          poly_mix L (alpha N) N.d seg (helper_share F N j helpers) (point F N (node N (others m)))

      pub second_made : (q : ℕ) → q < tail N → second F N blocks (node N j) q ≡
          sum F N.d (λ i. tail_over F N j helpers (λ m. point F N (node N (others m))) (λ m. pass_poly F N others m q) i ⊗ segment F N blocks (node N (helpers i)) (node N j)) ⊕ sum F (tail N) (λ m. pass_poly F N others m q ⊗ segment F N blocks (node N j) (node N (others m)))
      unfolding seg pass ratio share_at
      second_made q l =
          second_passed L N suits j others rest blocks (lagrange F (tail N) (λ m. point F N (node N (others m)))) (lagrange_stands L (tail N) (λ m. point F N (node N (others m))) apart) q l ∙
          sum_cong F (tail N) (λ m. (pass m ⊕ ratio m ⊗ dot F (alpha N) (powers F N (node N (others m))) (first F N blocks (node N j))) ⊗ t m)
          (λ m. sum F N.d (λ i. ((ratio m ⊗ share_at m i) ⊗ t m) ⊗ seg i) ⊕ t m ⊗ pass m) (λ m b. turn m) ∙
          sum_add L (tail N) (λ m. sum F N.d (λ i. ((ratio m ⊗ share_at m i) ⊗ t m) ⊗ seg i)) (λ m. t m ⊗ pass m) ∙
          ap (λ v. v ⊕ sum F (tail N) (λ m. t m ⊗ pass m))
          (sum_swap L (tail N) N.d (λ m i. ((ratio m ⊗ share_at m i) ⊗ t m) ⊗ seg i) ∙
          sum_cong F N.d (λ i. sum F (tail N) (λ m. ((ratio m ⊗ share_at m i) ⊗ t m) ⊗ seg i)) (λ i. sum F (tail N) (λ m. (ratio m ⊗ share_at m i) ⊗ t m) ⊗ seg i)
          (λ i b. sym (sum_mul L (tail N) (λ m. (ratio m ⊗ share_at m i) ⊗ t m) (seg i))))
        where
          t : ℕ → E
          t m = pass_poly F N others m q

          apart : Apart (tail N) (λ m. point F N (node N (others m)))
          apart = points_apart F N suits (tail N) (λ i. node N (others i)) (λ i u. box_node N (others i) (rest.0.0 i u)) (boxes_different N (tail N) others rest.0)

          order : (r s t g : E) → ((r ⊗ s) ⊗ t) ⊗ g ≡ (r ⊗ t) ⊗ (g ⊗ s)
          order r s t g = simp (ring, L)

          spread : (p r d t : E) → (p ⊕ r ⊗ d) ⊗ t ≡ (r ⊗ t) ⊗ d ⊕ t ⊗ p
          spread p r d t = simp (ring, L)

          turn : (m : ℕ) → (pass m ⊕ ratio m ⊗ dot F (alpha N) (powers F N (node N (others m))) (first F N blocks (node N j))) ⊗ t m ≡ sum F N.d (λ i. ((ratio m ⊗ share_at m i) ⊗ t m) ⊗ seg i) ⊕ t m ⊗ pass m
          turn m =
              ap (λ v. (pass m ⊕ ratio m ⊗ v) ⊗ t m) (dot_made m) ∙ spread (pass m) (ratio m) (sum F N.d (λ i. seg i ⊗ share_at m i)) (t m) ∙
              ap (λ v. v ⊕ t m ⊗ pass m) (mul_sum L N.d (ratio m ⊗ t m) (λ i. seg i ⊗ share_at m i) ∙
              sum_cong F N.d (λ i. (ratio m ⊗ t m) ⊗ (seg i ⊗ share_at m i)) (λ i. ((ratio m ⊗ share_at m i) ⊗ t m) ⊗ seg i) (λ i b. sym (order (ratio m) (share_at m i) (t m) (seg i))))

  pub pass_makes : PassMakesSegments F
  pass_makes N suits blocks lawful j e box other_box ne helpers other = pass_made N suits blocks lawful j box helpers other e other_box ne

  pub settle_makes : SettleMakesBlocks F
  settle_makes N suits blocks lawful j r box h helpers other others rest =
      ⊎_elim
      (λ b. ap₂ F.add
      (sum_cong F N.d (λ i. settle_weight F N j helpers others r i ⊗ seg i) (λ i. helper_share F N j helpers i r ⊗ seg i)
      (λ i l. ap (λ v. v ⊗ seg i) (low b i ∙ cond-true (ltb i N.d) (helper_share F N j helpers i r) 𝟎 (lt-ltb i N.d l))))
      (sum_zero L (tail N) (λ m. settle_weight F N j helpers others r (N.d + m) ⊗ pass m)
      (λ m l. ap (λ v. v ⊗ pass m) (low b (N.d + m) ∙ cond-false (ltb (N.d + m) N.d) (helper_share F N j helpers (N.d + m) r) 𝟎 (le-ltb (N.d + m) N.d (omega arith))) ∙ zero_mul L (pass m))) ∙
      add_zero L _ ∙ sym (first_made N suits blocks lawful j box helpers other r b))
      (λ b. let er : alpha N + (r - alpha N) ≡ r = omega arith in
      ap₂ F.add
      (sum_cong F N.d (λ i. settle_weight F N j helpers others r i ⊗ seg i) (λ i. over i ⊗ seg i)
      (λ i l. ap (λ v. v ⊗ seg i) (high b i ∙ cond-true (ltb i N.d) (over i) (pass_poly F N others (i - N.d) (r - alpha N)) (lt-ltb i N.d l))))
      (sum_cong F (tail N) (λ m. settle_weight F N j helpers others r (N.d + m) ⊗ pass m) (λ m. pass_poly F N others m (r - alpha N) ⊗ pass m)
      (λ m l. let e : N.d + m - N.d ≡ m = omega arith in ap (λ v. v ⊗ pass m)
      (high b (N.d + m) ∙ cond-false (ltb (N.d + m) N.d) (over (N.d + m)) (pass_poly F N others (N.d + m - N.d) (r - alpha N)) (le-ltb (N.d + m) N.d (omega arith)) ∙
      ap (λ a. pass_poly F N others a (r - alpha N)) e))) ∙
      sym (second_made N suits blocks lawful j box helpers other others rest (r - alpha N) (omega arith)) ∙
      ap (blocks (node N j)) er)
      (cases_lt r (alpha N))
    where
      seg : ℕ → E
      seg i = segment F N blocks (node N (helpers i)) (node N j)

      pass : ℕ → E
      pass m = segment F N blocks (node N j) (node N (others m))

      over : ℕ → E
      over = tail_over F N j helpers (λ m. point F N (node N (others m))) (λ m. pass_poly F N others m (r - alpha N))

      low : r < alpha N → (c : ℕ) → settle_weight F N j helpers others r c ≡ settle_first F N j helpers r c
      low b c = cond-true (ltb r (alpha N)) (settle_first F N j helpers r c) (settle_second F N j helpers others (r - alpha N) c) (lt-ltb r (alpha N) b)

      high : alpha N ≤ r → (c : ℕ) → settle_weight F N j helpers others r c ≡ settle_second F N j helpers others (r - alpha N) c
      high b c = cond-false (ltb r (alpha N)) (settle_first F N j helpers r c) (settle_second F N j helpers others (r - alpha N) c) (le-ltb r (alpha N) b)

-- What the helpers' segments make of a newcomer, in closed form: R, the first part, and the passes to others.
use Rattle.std.proofs.Common.{◌≡◌, ℕ, ◌+◌, ◌-◌, ◌<◌, cond, ltb, sym, ap, ◌∙◌, ap₂, arith}
use Rattle.std.proofs.lemmas.Bool.{lt-ltb, le-ltb, cond-true, cond-false}
use Rattle.field.specs.Laws.{Ops, Laws}
use Rattle.algebra.specs.Poly.{sum, poly, mix, Lagrange}
use Rattle.algebra.proofs.Ring.{ring, mul_zero, divide}
use Rattle.algebra.proofs.Sum.{sum_cong, sum_zero}
use Rattle.algebra.proofs.Poly.{poly_cong, poly_mix}
use Rattle.algebra.proofs.Interpolation.{uniqueness, mix_through}
use Rattle.beehive.specs.declared.numbers.Numbers.{Numbers}
use Rattle.beehive.specs.Numbers.{alpha, tail, virtuals, Box, Node, Virtual, node}
use Rattle.beehive.specs.Points.{dot, powers, point, mu, Suits}
use Rattle.beehive.specs.Rule.{first, second, Lawful, segment}
use Rattle.beehive.specs.Theorems.{Meets, Others}
use Rattle.beehive.proofs.Nodes.{helpful, box_node, virtual_node, chosen, chosen_box, points_apart, boxes_different}
use Rattle.beehive.proofs.Values.{dot_poly}
use Rattle.beehive.proofs.Parts.{apart_sum, alignment, segment_aligned}
use Rattle.beehive.proofs.Repair.{joined_low, joined_high, unknowns, aligned_value, meets_through, helper_points}
use Rattle.beehive.proofs.Closed.{boxes_only}

module _ {E : Type 0} {F : Ops E} (L : Laws F) where
  open F use {add as ◌⊕◌, mul as ◌⊗◌, zero as 𝟎, one as 𝟏, inv as inv}

  infixl 60 ◌⊕◌
  infixl 70 ◌⊗◌
  module _ (N : Numbers) (suits : Suits F N) (blocks : ℕ → ℕ → E) (lawful : Lawful F N blocks) where
    -- virtual nodes would send zero
    pub segment_virtual : (s j : ℕ) → Virtual N s → segment F N blocks s j ≡ 𝟎
    segment_virtual s j v =
        ap₂ (λ a b. a ⊕ inv (mu F N s ⊕ mu F N j) ⊗ b)
        (sum_zero L (tail N) (λ q. powers F N j q ⊗ second F N blocks s q) (λ q l. ap (F.mul (powers F N j q)) (lawful.virtual_zero s (alpha N + q) v (omega arith)) ∙ mul_zero L (powers F N j q)))
        (sum_zero L (alpha N) (λ q. powers F N j q ⊗ first F N blocks s q) (λ q l. ap (F.mul (powers F N j q)) (lawful.virtual_zero s q v (omega arith)) ∙ mul_zero L (powers F N j q))) ∙
        nothing (inv (mu F N s ⊕ mu F N j))
      where
        nothing : (w : E) → 𝟎 ⊕ w ⊗ 𝟎 ≡ 𝟎
        nothing w = simp (ring, L)

    module _ (j : ℕ) (box : Box N j) where
      -- the coefficients of R for box j
      unfoldable pub about : ℕ → E
      about = unknowns L (alpha N) (mu F N (node N j)) (first F N blocks (node N j)) (alignment L N suits blocks lawful (node N j) (box_node N j box))

      -- b(j) is the lower half of R and μ(j) times the upper
      pub first_about : (k : ℕ) → k < alpha N → first F N blocks (node N j) k ≡ about k ⊕ mu F N (node N j) ⊗ about (alpha N + k)
      unfolding about
      first_about k l =
          sym (twice (first F N blocks (node N j) k) (mu F N (node N j) ⊗ y k)) ∙
          sym (ap₂ (λ u v. u ⊕ mu F N (node N j) ⊗ v) (joined_low (alpha N) (λ k. first F N blocks (node N j) k ⊕ mu F N (node N j) ⊗ y k) y k l)
          (joined_high (alpha N) (λ k. first F N blocks (node N j) k ⊕ mu F N (node N j) ⊗ y k) y k))
        where
          y : ℕ → E
          y = alignment L N suits blocks lawful (node N j) (box_node N j box)

          twice : (a b : E) → (a ⊕ b) ⊕ b ≡ a
          twice a b = simp (ring, L)

      -- the segment from s about j is R(p(s)) / (μ(s) + μ(j))
      pub segment_about : (s : ℕ) → Node N s → (s ≡ node N j → ⊥) →
          segment F N blocks s (node N j) ≡ inv (mu F N s ⊕ mu F N (node N j)) ⊗ poly F (alpha N + alpha N) about (point F N s)
      unfolding about
      segment_about s there ne =
          segment_aligned L N suits blocks lawful (node N j) (box_node N j box) s there ne ∙
          divide L (mu F N s ⊕ mu F N (node N j)) _ _ apart
          (aligned_value L N s (node N j) (first F N blocks (node N j)) (alignment L N suits blocks lawful (node N j) (box_node N j box)) apart)
        where
          apart : mu F N s ⊕ mu F N (node N j) ≡ 𝟎 → ⊥
          apart = apart_sum L N s (node N j) suits there (box_node N j box) ne

      module _ (helpers : ℕ → ℕ) (other : Others N j N.d helpers) where
        sent : ℕ → E
        sent i = segment F N blocks (node N (helpers i)) (node N j)

        lawful_meets : Meets F N j helpers sent (first F N blocks (node N j)) (alignment L N suits blocks lawful (node N j) (box_node N j box))
        unfolding sent
        lawful_meets = record {
          helped = λ i l. sym (segment_aligned L N suits blocks lawful (node N j) (box_node N j box) (node N (helpers i)) (box_node N (helpers i) (other.0.0 i l)) (λ e. other.1 i l (omega arith)));
          virtual = λ s v. sym (segment_aligned L N suits blocks lawful (node N j) (box_node N j box) s (virtual_node N s v) (λ e. omega arith)) ∙ segment_virtual s (node N j) v;
        }

        -- R from the helpers' segments, by any Lagrange polynomials over the virtual and the helpers' points
        pub about_helped : (l : ℕ → ℕ → E) → Lagrange F (alpha N + alpha N) (λ c. point F N (chosen N helpers c)) l → (k : ℕ) → k < alpha N + alpha N →
            about k ≡ sum F N.d (λ i. ((mu F N (node N (helpers i)) ⊕ mu F N (node N j)) ⊗ segment F N blocks (node N (helpers i)) (node N j)) ⊗ l (virtuals N + i) k)
        unfolding about sent
        about_helped l lagrange k b =
            uniqueness L (alpha N + alpha N) (λ c. point F N (chosen N helpers c)) value about (mix F (alpha N + alpha N) value l)
            (helper_points L N suits j box helpers other sent)
            (λ i u. meets_through L N suits j box helpers other sent (first F N blocks (node N j)) (alignment L N suits blocks lawful (node N j) (box_node N j box)) lawful_meets i (omega (arith, helpful N)))
            (mix_through L (alpha N + alpha N) (λ c. point F N (chosen N helpers c)) value l lagrange) k b ∙
            ap (λ m. sum F m (λ i. value i ⊗ l i k)) (sym (helpful N)) ∙
            boxes_only L N N.d (λ i. value i ⊗ l i k) (λ i u.
            ap (λ v. ((mu F N (chosen N helpers i) ⊕ mu F N (node N j)) ⊗ v) ⊗ l i k) (cond-true (ltb i (virtuals N)) 𝟎 (sent (i - virtuals N)) (lt-ltb i (virtuals N) u)) ∙
            gone (mu F N (chosen N helpers i) ⊕ mu F N (node N j)) (l i k)) ∙
            sum_cong F N.d (λ i. value (virtuals N + i) ⊗ l (virtuals N + i) k) (λ i. ((mu F N (node N (helpers i)) ⊕ mu F N (node N j)) ⊗ sent i) ⊗ l (virtuals N + i) k)
            (λ i u. ap (λ v. v ⊗ l (virtuals N + i) k) (value_box i))
          where
            value : ℕ → E
            value i = (mu F N (chosen N helpers i) ⊕ mu F N (node N j)) ⊗ cond (ltb i (virtuals N)) 𝟎 (sent (i - virtuals N))

            gone : (a b : E) → (a ⊗ 𝟎) ⊗ b ≡ 𝟎
            gone a b = simp (ring, L)

            value_box : (i : ℕ) → value (virtuals N + i) ≡ (mu F N (node N (helpers i)) ⊕ mu F N (node N j)) ⊗ sent i
            value_box i =
                let e : virtuals N + i - virtuals N ≡ i = omega arith in
                ap₂ (λ s v. (mu F N s ⊕ mu F N (node N j)) ⊗ v) (chosen_box N helpers i)
                (cond-false (ltb (virtuals N + i) (virtuals N)) 𝟎 (sent (virtuals N + i - virtuals N)) (le-ltb (virtuals N + i) (virtuals N) (omega arith)) ∙ ap sent e)

        -- so the segment from any other node about j is a sum over the helpers' segments
        pub segment_helped : (l : ℕ → ℕ → E) → Lagrange F (alpha N + alpha N) (λ c. point F N (chosen N helpers c)) l → (s : ℕ) → Node N s → (s ≡ node N j → ⊥) →
            segment F N blocks s (node N j) ≡ inv (mu F N s ⊕ mu F N (node N j)) ⊗ sum F N.d (λ i.
            ((mu F N (node N (helpers i)) ⊕ mu F N (node N j)) ⊗ segment F N blocks (node N (helpers i)) (node N j)) ⊗ poly F (alpha N + alpha N) (l (virtuals N + i)) (point F N s))
        segment_helped l lagrange s there ne =
            segment_about s there ne ∙
            ap (F.mul (inv (mu F N s ⊕ mu F N (node N j))))
            (poly_cong F (alpha N + alpha N) about _ (point F N s) (about_helped l lagrange) ∙
            poly_mix L (alpha N + alpha N) N.d (λ i. (mu F N (node N (helpers i)) ⊕ mu F N (node N j)) ⊗ segment F N blocks (node N (helpers i)) (node N j)) (λ i. l (virtuals N + i)) (point F N s))

  -- The second part from the passes: what is left of each when the first part is taken away is a value of the polynomial c(j).
  module _ (N : Numbers) (suits : Suits F N) (j : ℕ) (others : ℕ → ℕ) (other : Others N j (tail N) others) (blocks : ℕ → ℕ → E) where
    pub second_passed : (l : ℕ → ℕ → E) → Lagrange F (tail N) (λ i. point F N (node N (others i))) l → (q : ℕ) → q < tail N →
        second F N blocks (node N j) q ≡ sum F (tail N) (λ i.
        (segment F N blocks (node N j) (node N (others i)) ⊕ inv (mu F N (node N j) ⊕ mu F N (node N (others i))) ⊗ dot F (alpha N) (powers F N (node N (others i))) (first F N blocks (node N j))) ⊗ l i q)
    second_passed l lagrange q b =
        uniqueness L (tail N) (λ i. point F N (node N (others i))) value (second F N blocks (node N j)) (mix F (tail N) value l)
        (points_apart F N suits (tail N) (λ i. node N (others i)) (λ i u. box_node N (others i) (other.0.0 i u)) (boxes_different N (tail N) others other.0))
        (λ i u. sym (dot_poly L N (tail N) (node N (others i)) (second F N blocks (node N j))) ∙
        sym (twice (dot F (tail N) (powers F N (node N (others i))) (second F N blocks (node N j)))
        (inv (mu F N (node N j) ⊕ mu F N (node N (others i))) ⊗ dot F (alpha N) (powers F N (node N (others i))) (first F N blocks (node N j)))))
        (mix_through L (tail N) (λ i. point F N (node N (others i))) value l lagrange) q b
      where
        value : ℕ → E
        value i = segment F N blocks (node N j) (node N (others i)) ⊕ inv (mu F N (node N j) ⊕ mu F N (node N (others i))) ⊗ dot F (alpha N) (powers F N (node N (others i))) (first F N blocks (node N j))

        twice : (a b : E) → (a ⊕ b) ⊕ b ≡ a
        twice a b = simp (ring, L)

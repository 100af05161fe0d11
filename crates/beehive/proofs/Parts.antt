-- The parts of lawful blocks as values of polynomials, and the segments about one node: they are aligned.
use Rattle.std.proofs.Common.{◌≡◌, ℕ, sym, ap, ◌∙◌, ap₂}
use mathlib.Core.Path.{◌≡⟨◌⟩◌, ◌∎}
use Rattle.field.specs.Laws.{Ops, Laws}
use Rattle.algebra.specs.Poly.{sum, poly, Same}
use Rattle.algebra.proofs.Ring.{ring, inv_mul, eq_of_add}
use Rattle.algebra.proofs.Sum.{sum_cong}
use Rattle.algebra.proofs.Poly.{poly_cong, poly_add, poly_mix}
use Rattle.beehive.specs.declared.numbers.Numbers.{Numbers}
use Rattle.beehive.specs.Numbers.{alpha, tail, tail_length, Node}
use Rattle.beehive.specs.Points.{dot, powers, point, mu, Suits}
use Rattle.beehive.specs.Rule.{first, second, phi_times, Lawful, segment}
use Rattle.beehive.specs.Theorems.{aligned, SegmentsAlign}
use Rattle.beehive.proofs.Values.{dot_poly}
use Rattle.beehive.proofs.Forms.{row, share, flip, poly_share}

module _ {E : Type 0} {F : Ops E} (L : Laws F) where
  open F use {add as ◌⊕◌, mul as ◌⊗◌, zero as 𝟎, one as 𝟏}

  infixl 60 ◌⊕◌
  infixl 70 ◌⊗◌
  -- φ·S + μ·φ·T, entry j
  pub share_is : (N : Numbers) (S T : ℕ → ℕ → E) (s j : ℕ) →
      phi_times F N s S j ⊕ mu F N s ⊗ phi_times F N s T j ≡ share F (alpha N) S T (point F N s) j
  share_is N S T s j = ap₂ (λ u v. u ⊕ mu F N s ⊗ v) (dot_poly L N (alpha N) s (λ i. S i j)) (dot_poly L N (alpha N) s (λ i. T i j))

  module _ (N : Numbers) (blocks : ℕ → ℕ → E) (lawful : Lawful F N blocks) where
    pub first_is : (s : ℕ) → Node N s → Same (alpha N) (first F N blocks s) (share F (alpha N) lawful.S lawful.T (point F N s))
    first_is s real j l = lawful.first_part s j real l ∙ share_is N lawful.S lawful.T s j

    pub second_is : (s : ℕ) → Node N s → Same (tail N) (second F N blocks s) (λ q. poly F (tail_length N) (λ i. lawful.Z i q) (point F N s))
    second_is s real q l = lawful.second_part s q real l ∙ dot_poly L N (tail_length N) s (λ i. lawful.Z i q)

  -- c + w u, where u = v + (a + b) t and w is the inverse of a + b
  turn : (a b w c v t : E) → w ⊗ (a ⊕ b) ≡ 𝟏 → c ⊕ w ⊗ (v ⊕ (a ⊕ b) ⊗ t) ≡ w ⊗ v ⊕ (t ⊕ c)
  turn a b w c v t e =
      c ⊕ w ⊗ (v ⊕ (a ⊕ b) ⊗ t) ≡⟨ (simp (ring, L)) ⟩
      c ⊕ (w ⊗ v ⊕ (w ⊗ (a ⊕ b)) ⊗ t) ≡⟨ (ap (λ z. c ⊕ (w ⊗ v ⊕ z ⊗ t)) e) ⟩
      c ⊕ (w ⊗ v ⊕ 𝟏 ⊗ t) ≡⟨ (simp (ring, L)) ⟩
      w ⊗ v ⊕ (t ⊕ c) ∎

  -- μ(s) + μ(j) is not zero
  pub apart_sum : (N : Numbers) (s j : ℕ) → Suits F N → Node N s → Node N j → (s ≡ j → ⊥) → mu F N s ⊕ mu F N j ≡ 𝟎 → ⊥
  apart_sum N s j suits a b ne e = ne (suits.mus_differ s j a b (eq_of_add L (mu F N s) (mu F N j) e))

  module _ (N : Numbers) (suits : Suits F N) (blocks : ℕ → ℕ → E) (lawful : Lawful F N blocks) (j : ℕ) (real : Node N j) where
    -- T·φ(j) and Z·h(j)
    bent : ℕ → E
    bent = row F (alpha N) lawful.T (point F N j)

    tails : ℕ → E
    tails i = sum F (tail N) (λ q. powers F N j q ⊗ lawful.Z i q)

    pub alignment : ℕ → E
    alignment i = bent i ⊕ tails i

    crossed : (s : ℕ) → Node N s → poly F (alpha N) (first F N blocks s) (point F N j) ≡ poly F (alpha N) (first F N blocks j) (point F N s) ⊕ (mu F N s ⊕ mu F N j) ⊗ poly F (alpha N) bent (point F N s)
    unfolding bent
    crossed s there =
        poly_cong F (alpha N) (first F N blocks s) (share F (alpha N) lawful.S lawful.T (point F N s)) (point F N j) (first_is N blocks lawful s there) ∙
        poly_share L (alpha N) lawful.S lawful.T (point F N s) (point F N j) ∙
        ap₂ (λ u v. u ⊕ mu F N s ⊗ v) (flip L (alpha N) lawful.S (point F N s) (point F N j) lawful.s_symmetric) (flip L (alpha N) lawful.T (point F N s) (point F N j) lawful.t_symmetric) ∙
        more (poly F (alpha N) (row F (alpha N) lawful.S (point F N j)) (point F N s)) (mu F N s) (mu F N j) (poly F (alpha N) (row F (alpha N) lawful.T (point F N j)) (point F N s)) ∙
        ap (λ u. u ⊕ (mu F N s ⊕ mu F N j) ⊗ poly F (alpha N) (row F (alpha N) lawful.T (point F N j)) (point F N s))
        (sym (poly_share L (alpha N) lawful.S lawful.T (point F N j) (point F N s)) ∙
        sym (poly_cong F (alpha N) (first F N blocks j) (share F (alpha N) lawful.S lawful.T (point F N j)) (point F N s) (first_is N blocks lawful j real)))
      where
        more : (a u v t : E) → a ⊕ u ⊗ t ≡ (a ⊕ v ⊗ t) ⊕ (u ⊕ v) ⊗ t
        more a u v t = simp (ring, L)

    second_turned : (s : ℕ) → Node N s → dot F (tail N) (powers F N j) (second F N blocks s) ≡ poly F (alpha N) tails (point F N s)
    unfolding tails
    second_turned s there =
        sum_cong F (tail N) (λ q. powers F N j q ⊗ second F N blocks s q) (λ q. powers F N j q ⊗ poly F (alpha N) (λ i. lawful.Z i q) (point F N s))
        (λ q l. ap (F.mul (powers F N j q)) (second_is N blocks lawful s there q l)) ∙
        sym (poly_mix L (alpha N) (tail N) (powers F N j) (λ q i. lawful.Z i q) (point F N s))

    pub segment_aligned : (s : ℕ) → Node N s → (s ≡ j → ⊥) → segment F N blocks s j ≡ aligned F N s j (first F N blocks j) alignment
    unfolding alignment
    segment_aligned s there ne =
        ap₂ (λ u v. u ⊕ F.inv (mu F N s ⊕ mu F N j) ⊗ v) (second_turned s there) (dot_poly L N (alpha N) j (first F N blocks s) ∙ crossed s there) ∙
        turn (mu F N s) (mu F N j) (F.inv (mu F N s ⊕ mu F N j)) (poly F (alpha N) tails (point F N s)) (poly F (alpha N) (first F N blocks j) (point F N s)) (poly F (alpha N) bent (point F N s))
        (inv_mul L (mu F N s ⊕ mu F N j) (apart_sum N s j suits there real ne)) ∙
        sym (ap₂ (λ u v. F.inv (mu F N s ⊕ mu F N j) ⊗ u ⊕ v) (dot_poly L N (alpha N) s (first F N blocks j))
        (dot_poly L N (alpha N) s (λ i. bent i ⊕ tails i) ∙ poly_add L (alpha N) bent tails (point F N s)))

  pub segments_align : SegmentsAlign F
  segments_align N suits blocks lawful j real = (alignment N suits blocks lawful j real, segment_aligned N suits blocks lawful j real)

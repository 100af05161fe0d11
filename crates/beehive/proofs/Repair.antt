-- The 2α unknowns b(j) and y(j) as one polynomial R(X) = b(X) + (X^α + μ(j))·y(X): d segments and those of the virtual nodes fix it.
use Rattle.std.proofs.Common.{◌≡◌, ℕ, suc, ◌+◌, ◌-◌, ◌<◌, ◌≤◌, cond, ltb, ◌⊎◌, sym, ap, ◌∙◌, ap₂, inl, inr, arith}
use Rattle.std.proofs.lemmas.Bool.{lt-ltb, le-ltb, cases_lt, cond-true, cond-false}
use Rattle.field.specs.Laws.{Ops, Laws}
use Rattle.algebra.specs.Poly.{power, poly, Apart, Same}
use Rattle.algebra.proofs.Ring.{ring}
use Rattle.algebra.proofs.Poly.{poly_cong, poly_split, poly_scaled}
use Rattle.beehive.specs.declared.numbers.Numbers.{Numbers}
use Rattle.beehive.specs.Numbers.{alpha, virtuals, Box, node}
use Rattle.beehive.specs.Points.{point, mu, Suits}
use Rattle.beehive.specs.Theorems.{aligned, Meets, Others, HelpersFixTheFirstPart}
use Rattle.beehive.proofs.Nodes.{helpful, box_node, chosen, chosen_virtual, chosen_high, chosen_node, chosen_different, points_apart}
use Rattle.beehive.proofs.Values.{dot_poly, agree, add_cancel}
use Rattle.beehive.proofs.Parts.{apart_sum}

module _ {E : Type 0} where
  -- f over the numbers below n, and g from there on
  unfoldable pub joined : ℕ → (ℕ → E) → (ℕ → E) → ℕ → E
  joined n f g k = cond (ltb k n) (f k) (g (k - n))

  pub joined_low : (n : ℕ) (f g : ℕ → E) (k : ℕ) → k < n → joined n f g k ≡ f k
  unfolding joined
  joined_low n f g k l = cond-true (ltb k n) (f k) (g (k - n)) (lt-ltb k n l)

  pub joined_high : (n : ℕ) (f g : ℕ → E) (k : ℕ) → joined n f g (n + k) ≡ g k
  unfolding joined
  joined_high n f g k =
      let e : n + k - n ≡ k = omega arith in
      cond-false (ltb (n + k) n) (f (n + k)) (g (n + k - n)) (le-ltb (n + k) n (omega arith)) ∙ ap g e

module _ {E : Type 0} {F : Ops E} (L : Laws F) where
  open F use {add as ◌⊕◌, mul as ◌⊗◌, zero as 𝟎, one as 𝟏, inv as inv}

  infixl 60 ◌⊕◌
  infixl 70 ◌⊗◌
  poly_joined : (n m : ℕ) (f g : ℕ → E) (x : E) → poly F (n + m) (joined n f g) x ≡ poly F n f x ⊕ power F x n ⊗ poly F m g x
  poly_joined n m f g x =
      poly_split L n m (joined n f g) x ∙
      ap₂ (λ u v. u ⊕ power F x n ⊗ v) (poly_cong F n (joined n f g) f x (λ k l. joined_low n f g k l))
      (poly_cong F m (λ k. joined n f g (n + k)) g x (λ k l. joined_high n f g k))

  -- the coefficients of R, where μ(j) = m
  abbrev pub unknowns : ℕ → E → (ℕ → E) → (ℕ → E) → ℕ → E
  unknowns n m b y = joined n (λ k. b k ⊕ m ⊗ y k) y

  -- R(x) = b(x) + (x^α + m)·y(x)
  pub unknowns_value : (n : ℕ) (m : E) (b y : ℕ → E) (x : E) → poly F (n + n) (unknowns n m b y) x ≡ poly F n b x ⊕ (power F x n ⊕ m) ⊗ poly F n y x
  unknowns_value n m b y x =
      poly_joined n n (λ k. b k ⊕ m ⊗ y k) y x ∙
      ap (λ u. u ⊕ power F x n ⊗ poly F n y x) (poly_scaled L n b m y x) ∙
      regroup (poly F n b x) m (poly F n y x) (power F x n)
    where
      regroup : (a m t u : E) → (a ⊕ m ⊗ t) ⊕ u ⊗ t ≡ a ⊕ (u ⊕ m) ⊗ t
      regroup a m t u = simp (ring, L)

  -- (μ(s) + μ(j)) times the segment is R(p(s))
  pub aligned_value : (N : Numbers) (s j : ℕ) (b y : ℕ → E) → (mu F N s ⊕ mu F N j ≡ 𝟎 → ⊥) →
      (mu F N s ⊕ mu F N j) ⊗ aligned F N s j b y ≡ poly F (alpha N + alpha N) (unknowns (alpha N) (mu F N j) b y) (point F N s)
  aligned_value N s j b y nz =
      ap₂ (λ u v. (mu F N s ⊕ mu F N j) ⊗ (inv (mu F N s ⊕ mu F N j) ⊗ u ⊕ v)) (dot_poly L N (alpha N) s b) (dot_poly L N (alpha N) s y) ∙
      open_up (mu F N s ⊕ mu F N j) (inv (mu F N s ⊕ mu F N j)) (poly F (alpha N) b (point F N s)) (poly F (alpha N) y (point F N s)) (L.mul_inv (mu F N s ⊕ mu F N j) nz) ∙
      sym (unknowns_value (alpha N) (mu F N j) b y (point F N s))
    where
      open_up : (m w u v : E) → m ⊗ w ≡ 𝟏 → m ⊗ (w ⊗ u ⊕ v) ≡ u ⊕ m ⊗ v
      open_up m w u v e = first ∙ ap (λ z. z ⊗ u ⊕ m ⊗ v) e ∙ simp (ring, L)
        where
          first : m ⊗ (w ⊗ u ⊕ v) ≡ (m ⊗ w) ⊗ u ⊕ m ⊗ v
          first = simp (ring, L)

  module _ (N : Numbers) (suits : Suits F N) (j : ℕ) (box : Box N j) (helpers : ℕ → ℕ) (other : Others N j N.d helpers) (sent : ℕ → E) where
    -- the newcomer is neither a helper nor virtual
    pub not_newcomer : (i : ℕ) → i < virtuals N + N.d → chosen N helpers i ≡ node N j → ⊥
    not_newcomer i l e = go (cases_lt i (virtuals N))
      where
        go : (i < virtuals N) ⊎ (virtuals N ≤ i) → ⊥
        go (inl h) = let u = chosen_virtual N helpers i h in omega arith
        go (inr h) = let u = chosen_high N helpers i h in other.1 (i - virtuals N) (omega arith) (omega arith)

    -- what b and y say at the virtual nodes and the helpers
    pub meets_at : (b y : ℕ → E) → Meets F N j helpers sent b y → (i : ℕ) → i < virtuals N + N.d →
        aligned F N (chosen N helpers i) (node N j) b y ≡ cond (ltb i (virtuals N)) 𝟎 (sent (i - virtuals N))
    meets_at b y meets i l = go (cases_lt i (virtuals N))
      where
        go : (i < virtuals N) ⊎ (virtuals N ≤ i) → aligned F N (chosen N helpers i) (node N j) b y ≡ cond (ltb i (virtuals N)) 𝟎 (sent (i - virtuals N))
        go (inl h) =
            ap (λ s. aligned F N s (node N j) b y) (chosen_virtual N helpers i h) ∙ meets.virtual (suc i) (omega arith, omega arith) ∙
            sym (cond-true (ltb i (virtuals N)) 𝟎 (sent (i - virtuals N)) (lt-ltb i (virtuals N) h))
        go (inr h) =
            ap (λ s. aligned F N s (node N j) b y) (chosen_high N helpers i h) ∙ meets.helped (i - virtuals N) (omega arith) ∙
            sym (cond-false (ltb i (virtuals N)) 𝟎 (sent (i - virtuals N)) (le-ltb i (virtuals N) h))

    -- so R has these values at 2α points
    pub meets_through : (b y : ℕ → E) → Meets F N j helpers sent b y → (i : ℕ) → i < virtuals N + N.d →
        poly F (alpha N + alpha N) (unknowns (alpha N) (mu F N (node N j)) b y) (point F N (chosen N helpers i)) ≡
        (mu F N (chosen N helpers i) ⊕ mu F N (node N j)) ⊗ cond (ltb i (virtuals N)) 𝟎 (sent (i - virtuals N))
    meets_through b y meets i l =
        sym (aligned_value N (chosen N helpers i) (node N j) b y
        (apart_sum L N (chosen N helpers i) (node N j) suits (chosen_node N N.d helpers other.0 i l) (box_node N j box) (not_newcomer i l))) ∙
        ap (F.mul (mu F N (chosen N helpers i) ⊕ mu F N (node N j))) (meets_at b y meets i l)

    pub helper_points : Apart (alpha N + alpha N) (λ i. point F N (chosen N helpers i))
    helper_points i k l h e =
        points_apart F N suits (virtuals N + N.d) (chosen N helpers) (chosen_node N N.d helpers other.0) (chosen_different N N.d helpers other.0) i k
        (omega (arith, helpful N)) (omega (arith, helpful N)) e

    module _ (b y b' y' : ℕ → E) (meets : Meets F N j helpers sent b y) (meets' : Meets F N j helpers sent b' y') where
      same : Same (alpha N + alpha N) (unknowns (alpha N) (mu F N (node N j)) b y) (unknowns (alpha N) (mu F N (node N j)) b' y')
      same =
          agree L (alpha N + alpha N) (λ i. point F N (chosen N helpers i)) (unknowns (alpha N) (mu F N (node N j)) b y) (unknowns (alpha N) (mu F N (node N j)) b' y') helper_points
          (λ i l. let h : i < virtuals N + N.d = omega (arith, helpful N) in meets_through b y meets i h ∙ sym (meets_through b' y' meets' i h))

      same_y : Same (alpha N) y y'
      same_y k l =
          sym (joined_high (alpha N) (λ k. b k ⊕ mu F N (node N j) ⊗ y k) y k) ∙ same (alpha N + k) (omega arith) ∙
          joined_high (alpha N) (λ k. b' k ⊕ mu F N (node N j) ⊗ y' k) y' k

      same_b : Same (alpha N) b b'
      same_b k l =
          add_cancel L (b k) (b' k) (mu F N (node N j) ⊗ y' k)
          (ap (λ v. b k ⊕ mu F N (node N j) ⊗ v) (sym (same_y k l)) ∙
          sym (joined_low (alpha N) (λ k. b k ⊕ mu F N (node N j) ⊗ y k) y k l) ∙ same k (omega arith) ∙
          joined_low (alpha N) (λ k. b' k ⊕ mu F N (node N j) ⊗ y' k) y' k l)

  pub helpers_fix : HelpersFixTheFirstPart F
  helpers_fix N suits j box helpers other sent b y b' y' meets meets' =
      (same_b N suits j box helpers other sent b y b' y' meets meets', same_y N suits j box helpers other sent b y b' y' meets meets')

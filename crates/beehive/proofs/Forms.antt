-- Forms φ(x)·M·φ(y), what a node holds of symmetric S and T, and that α + 1 nodes fix S and T.
use Rattle.std.proofs.Common.{◌≡◌, ℕ, suc, ◌<◌, sym, ap, ◌∙◌, ap₂, arith}
use mathlib.Core.Path.{◌≡⟨◌⟩◌, ◌∎}
use Rattle.field.specs.Laws.{Ops, Laws}
use Rattle.algebra.specs.Poly.{sum, power, poly, Apart}
use Rattle.algebra.proofs.Ring.{ring, add_zero, add_self, mul_zero, cancel, eq_of_add}
use Rattle.algebra.proofs.Sum.{sum_cong, sum_mul, sum_swap}
use Rattle.algebra.proofs.Poly.{poly_is, poly_cong, poly_zero, poly_add, poly_scaled}
use Rattle.algebra.proofs.Roots.{root_count}
use Rattle.beehive.specs.Rule.{Symmetric}
use Rattle.beehive.proofs.Skip.{skip, skip_not, skip_below, skip_same}

module _ {E : Type 0} (F : Ops E) where
  -- entry j of φ(x)·M
  abbrev pub row : ℕ → (ℕ → ℕ → E) → E → ℕ → E
  row n M x j = poly F n (λ i. M i j) x

  -- entry j of what the node at x holds
  abbrev pub share : ℕ → (ℕ → ℕ → E) → (ℕ → ℕ → E) → E → ℕ → E
  share n S T x j = F.add (row n S x j) (F.mul (power F x n) (row n T x j))

module _ {E : Type 0} {F : Ops E} (L : Laws F) where
  open F use {add as ◌⊕◌, mul as ◌⊗◌, zero as 𝟎}

  infixl 60 ◌⊕◌
  infixl 70 ◌⊗◌
  both : (n : ℕ) (M : ℕ → ℕ → E) (x y : E) → poly F n (row F n M x) y ≡ sum F n (λ j. sum F n (λ i. M i j ⊗ power F x i ⊗ power F y j))
  both n M x y =
      poly_is F n (row F n M x) y ∙
      sum_cong F n (λ j. row F n M x j ⊗ power F y j) (λ j. sum F n (λ i. M i j ⊗ power F x i ⊗ power F y j))
      (λ j l. ap (λ v. v ⊗ power F y j) (poly_is F n (λ i. M i j) x) ∙ sum_mul L n (λ i. M i j ⊗ power F x i) (power F y j))

  -- φ(x)·M·φ(y) = φ(y)·M·φ(x) for a symmetric M
  pub flip : (n : ℕ) (M : ℕ → ℕ → E) (x y : E) → Symmetric n M → poly F n (row F n M x) y ≡ poly F n (row F n M y) x
  flip n M x y s =
      poly F n (row F n M x) y ≡⟨ (both n M x y) ⟩
      sum F n (λ j. sum F n (λ i. M i j ⊗ power F x i ⊗ power F y j)) ≡⟨ (sum_swap L n n (λ j i. M i j ⊗ power F x i ⊗ power F y j)) ⟩
      sum F n (λ i. sum F n (λ j. M i j ⊗ power F x i ⊗ power F y j)) ≡⟨ (sum_cong F n (λ i. sum F n (λ j. M i j ⊗ power F x i ⊗ power F y j)) (λ i. sum F n (λ j. M j i ⊗ power F y j ⊗ power F x i)) (λ i l. sum_cong F n (λ j. M i j ⊗ power F x i ⊗ power F y j) (λ j. M j i ⊗ power F y j ⊗ power F x i) (λ j k. rw (s i j l k) (simp (ring, L))))) ⟩
      sum F n (λ j. sum F n (λ i. M i j ⊗ power F y i ⊗ power F x j)) ≡⟨ (sym (both n M y x)) ⟩
      poly F n (row F n M y) x ∎

  pub poly_share : (n : ℕ) (S T : ℕ → ℕ → E) (x y : E) → poly F n (share F n S T x) y ≡ poly F n (row F n S x) y ⊕ power F x n ⊗ poly F n (row F n T x) y
  poly_share n S T x y = poly_scaled L n (row F n S x) (power F x n) (row F n T x) y

  two : (a q u v : E) → (u ≡ v → ⊥) → a ⊕ u ⊗ q ≡ 𝟎 → a ⊕ v ⊗ q ≡ 𝟎 → q ≡ 𝟎
  two a q u v ne h k = cancel L (u ⊕ v) q (λ e. ne (eq_of_add L u v e)) (
      (u ⊕ v) ⊗ q ≡⟨ (simp (ring, L)) ⟩
      (a ⊕ u ⊗ q) ⊕ (a ⊕ v ⊗ q) ≡⟨ (ap₂ F.add h k ∙ add_self L 𝟎) ⟩
      𝟎 ∎)

  -- The only S and T that give zero at α + 1 nodes are zero.
  module _ (n : ℕ) (S T : ℕ → ℕ → E) (p : ℕ → E) (s : Symmetric n S) (t : Symmetric n T) (ps : Apart (suc n) p) (ms : Apart (suc n) (λ i. power F (p i) n))
      (h : (i j : ℕ) → i < suc n → j < n → share F n S T (p i) j ≡ 𝟎) where
    met : (i k : ℕ) → i < suc n → poly F n (row F n S (p i)) (p k) ⊕ power F (p i) n ⊗ poly F n (row F n T (p i)) (p k) ≡ 𝟎
    met i k l = sym (poly_share n S T (p i) (p k)) ∙ poly_zero L n (share F n S T (p i)) (p k) (λ j m. h i j l m)

    met_t : (i k : ℕ) → i < suc n → k < suc n → (i ≡ k → ⊥) → poly F n (row F n T (p i)) (p k) ≡ 𝟎
    met_t i k l m ne = two (poly F n (row F n S (p i)) (p k)) (poly F n (row F n T (p i)) (p k)) (power F (p i) n) (power F (p k) n) (λ e. ne (ms i k l m e)) (met i k l)
        (ap₂ (λ u v. u ⊕ power F (p k) n ⊗ v) (flip n S (p i) (p k) s) (flip n T (p i) (p k) t) ∙ met k i m)

    row_t : (i : ℕ) → i < suc n → (j : ℕ) → j < n → row F n T (p i) j ≡ 𝟎
    row_t i l = root_count L n n (row F n T (p i)) (λ a. p (skip i a)) (omega arith)
        (λ a b m k e. skip_same i a b (ps (skip i a) (skip i b) (skip_below i a n m) (skip_below i b n k) e))
        (λ a m. met_t i (skip i a) l (skip_below i a n m) (skip_not i a))

    row_s : (i : ℕ) → i < suc n → (j : ℕ) → j < n → row F n S (p i) j ≡ 𝟎
    row_s i l j m = sym (add_zero L _) ∙ ap (F.add (row F n S (p i) j)) (sym (mul_zero L (power F (p i) n)) ∙ ap (F.mul (power F (p i) n)) (sym (row_t i l j m))) ∙ h i j l m

    zero_t : (i j : ℕ) → i < n → j < n → T i j ≡ 𝟎
    zero_t i j l m = root_count L n (suc n) (λ i. T i j) p (omega arith) ps (λ a k. row_t a k j m) i l

    zero_s : (i j : ℕ) → i < n → j < n → S i j ≡ 𝟎
    zero_s i j l m = root_count L n (suc n) (λ i. S i j) p (omega arith) ps (λ a k. row_s a k j m) i l

  share_add : (n : ℕ) (S T S' T' : ℕ → ℕ → E) (x : E) (j : ℕ) → share F n (λ i j. S i j ⊕ S' i j) (λ i j. T i j ⊕ T' i j) x j ≡ share F n S T x j ⊕ share F n S' T' x j
  share_add n S T S' T' x j =
      ap₂ (λ u v. u ⊕ power F x n ⊗ v) (poly_add L n (λ i. S i j) (λ i. S' i j) x) (poly_add L n (λ i. T i j) (λ i. T' i j) x) ∙
      regroup (row F n S x j) (row F n S' x j) (power F x n) (row F n T x j) (row F n T' x j)
    where
      regroup : (a b m c d : E) → (a ⊕ b) ⊕ m ⊗ (c ⊕ d) ≡ (a ⊕ m ⊗ c) ⊕ (b ⊕ m ⊗ d)
      regroup a b m c d = simp (ring, L)

  -- Two pairs of symmetric matrices that agree at α + 1 nodes agree at every node.
  module _ (n : ℕ) (p : ℕ → E) (ps : Apart (suc n) p) (ms : Apart (suc n) (λ i. power F (p i) n)) (S T S' T' : ℕ → ℕ → E)
      (s : Symmetric n S) (t : Symmetric n T) (s' : Symmetric n S') (t' : Symmetric n T')
      (h : (i j : ℕ) → i < suc n → j < n → share F n S T (p i) j ≡ share F n S' T' (p i) j) where
    sym_s : Symmetric n (λ i j. S i j ⊕ S' i j)
    sym_s a b u v = ap₂ F.add (s a b u v) (s' a b u v)

    sym_t : Symmetric n (λ i j. T i j ⊕ T' i j)
    sym_t a b u v = ap₂ F.add (t a b u v) (t' a b u v)

    none : (i j : ℕ) → i < suc n → j < n → share F n (λ i j. S i j ⊕ S' i j) (λ i j. T i j ⊕ T' i j) (p i) j ≡ 𝟎
    none a b u v = share_add n S T S' T' (p a) b ∙ ap (λ z. z ⊕ share F n S' T' (p a) b) (h a b u v) ∙ add_self L (share F n S' T' (p a) b)

    pub same_s : (i j : ℕ) → i < n → j < n → S i j ≡ S' i j
    same_s i j l m = eq_of_add L (S i j) (S' i j) (zero_s n (λ i j. S i j ⊕ S' i j) (λ i j. T i j ⊕ T' i j) p sym_s sym_t ps ms none i j l m)

    pub same_t : (i j : ℕ) → i < n → j < n → T i j ≡ T' i j
    same_t i j l m = eq_of_add L (T i j) (T' i j) (zero_t n (λ i j. S i j ⊕ S' i j) (λ i j. T i j ⊕ T' i j) p sym_s sym_t ps ms none i j l m)

    pub same_share : (x : E) (j : ℕ) → j < n → share F n S T x j ≡ share F n S' T' x j
    same_share x j m =
        ap₂ (λ u v. u ⊕ power F x n ⊗ v) (poly_cong F n (λ i. S i j) (λ i. S' i j) x (λ i l. same_s i j l m)) (poly_cong F n (λ i. T i j) (λ i. T' i j) x (λ i l. same_t i j l m))

-- The closed form: from what α + 1 nodes hold to what any node holds, as a sum over the pairs of the nodes.
use Rattle.std.proofs.Common.{◌≡◌, ℕ, zero, suc, ◌<◌, ◌⊎◌, sym, ap, ◌∙◌, ap₂, inl, inr}
use Rattle.std.proofs.lemmas.Bool.{cases_eq, both_ways}
use Rattle.field.specs.Laws.{Ops, Laws}
use Rattle.algebra.specs.Poly.{sum, power, poly, product, factors, besides, Apart, Same}
use Rattle.algebra.proofs.Ring.{ring, add_self, mul_zero, mul_nonzero, eq_of_add}
use Rattle.algebra.proofs.Sum.{sum_none, sum_more, sum_cong, sum_zero, sum_add, mul_sum, sum_single}
use Rattle.algebra.proofs.Poly.{poly_cong, poly_zero, poly_add, poly_mix}
use Rattle.algebra.proofs.Factors.{product_zero, product_nonzero, factors_value}
use Rattle.algebra.proofs.Interpolation.{besides_in, besides_first, besides_second}
use Rattle.beehive.specs.Rule.{Symmetric}
use Rattle.beehive.proofs.Skip.{skip, skip_not, skip_below, skip_same}
use Rattle.beehive.proofs.Count.{count_besides_two}
use Rattle.beehive.proofs.Values.{agree}
use Rattle.beehive.proofs.Forms.{share}

module _ {E : Type 0} (F : Ops E) where
  -- the sum over the ordered pairs of numbers below m
  abbrev pub pairs : ℕ → (ℕ → ℕ → E) → E
  pairs m f = sum F m (λ i. sum F m (λ j. f i j))

  pub pairs_cong : (m : ℕ) (f g : ℕ → ℕ → E) → ((i j : ℕ) → i < m → j < m → f i j ≡ g i j) → pairs m f ≡ pairs m g
  pairs_cong m f g h = sum_cong F m (λ i. sum F m (λ j. f i j)) (λ i. sum F m (λ j. g i j)) (λ i l. sum_cong F m (λ j. f i j) (λ j. g i j) (λ j k. h i j l k))

  -- The n + 1 points p; α is n.
  module _ (n : ℕ) (p : ℕ → E) where
    -- v i j, the product of X + p c over the other points c
    abbrev pub others : ℕ → ℕ → ℕ → E
    others i j = factors F (besides i j) p (suc n)

    -- (μ(x) + μ(j)) / (μ(i) + μ(j)) · v(x) / (v(i) · v(j)); nothing for i = j, since the inverse of zero is zero
    unfoldable pub share_weight : ℕ → ℕ → E → E
    share_weight i j x =
        F.mul (F.mul (F.add (power F x n) (power F (p j) n)) (F.inv (F.add (power F (p i) n) (power F (p j) n))))
        (F.mul (poly F n (others i j) x) (F.inv (F.mul (poly F n (others i j) (p i)) (poly F n (others i j) (p j)))))

    -- entry q of what the node at x holds, where node i holds (held i)
    unfoldable pub closed : (ℕ → ℕ → E) → E → ℕ → E
    closed held x q = pairs (suc n) (λ i j. F.mul (F.mul (poly F n (held i) (p j)) (share_weight i j x)) (others i j q))

module _ {E : Type 0} {F : Ops E} (L : Laws F) where
  open F use {add as ◌⊕◌, mul as ◌⊗◌, zero as 𝟎, one as 𝟏, inv as inv}

  infixl 60 ◌⊕◌
  infixl 70 ◌⊗◌
  poly_sum : (n m : ℕ) (h : ℕ → ℕ → E) (x : E) → poly F n (λ k. sum F m (λ i. h i k)) x ≡ sum F m (λ i. poly F n (h i) x)
  poly_sum n zero h x = poly_zero L n (λ k. sum F 0 (λ i. h i k)) x (λ k l. sum_none F (λ i. h i k)) ∙ sym (sum_none F (λ i. poly F n (h i) x))
  poly_sum n (suc m) h x =
      poly_cong F n (λ k. sum F (suc m) (λ i. h i k)) (λ k. sum F m (λ i. h i k) ⊕ h m k) x (λ k l. sum_more F m (λ i. h i k)) ∙
      poly_add L n (λ k. sum F m (λ i. h i k)) (h m) x ∙
      ap (λ v. v ⊕ poly F n (h m) x) (poly_sum n m h x) ∙
      sym (sum_more F m (λ i. poly F n (h i) x))

  poly_pairs : (n m : ℕ) (y : ℕ → ℕ → E) (l : ℕ → ℕ → ℕ → E) (x : E) → poly F n (λ k. pairs F m (λ i j. y i j ⊗ l i j k)) x ≡ pairs F m (λ i j. y i j ⊗ poly F n (l i j) x)
  poly_pairs n m y l x =
      poly_sum n m (λ i k. sum F m (λ j. y i j ⊗ l i j k)) x ∙
      sum_cong F m (λ i. poly F n (λ k. sum F m (λ j. y i j ⊗ l i j k)) x) (λ i. sum F m (λ j. y i j ⊗ poly F n (l i j) x)) (λ i h. poly_mix L n m (y i) (l i) x)

  pairs_add : (m : ℕ) (f g : ℕ → ℕ → E) → pairs F m (λ i j. f i j ⊕ g i j) ≡ pairs F m f ⊕ pairs F m g
  pairs_add m f g =
      sum_cong F m (λ i. sum F m (λ j. f i j ⊕ g i j)) (λ i. sum F m (λ j. f i j) ⊕ sum F m (λ j. g i j)) (λ i l. sum_add L m (λ j. f i j) (λ j. g i j)) ∙
      sum_add L m (λ i. sum F m (λ j. f i j)) (λ i. sum F m (λ j. g i j))

  mul_pairs : (m : ℕ) (c : E) (f : ℕ → ℕ → E) → c ⊗ pairs F m f ≡ pairs F m (λ i j. c ⊗ f i j)
  mul_pairs m c f =
      mul_sum L m c (λ i. sum F m (λ j. f i j)) ∙
      sum_cong F m (λ i. c ⊗ sum F m (λ j. f i j)) (λ i. sum F m (λ j. c ⊗ f i j)) (λ i l. mul_sum L m c (λ j. f i j))

  -- a sum over pairs of which one term alone is not zero
  pairs_single : (m : ℕ) (f : ℕ → ℕ → E) (a k : ℕ) → a < m → k < m → ((i j : ℕ) → i < m → j < m → (i ≡ a → ⊥) → f i j ≡ 𝟎) →
      ((j : ℕ) → j < m → (j ≡ k → ⊥) → f a j ≡ 𝟎) → pairs F m f ≡ f a k
  pairs_single m f a k la lk h g =
      sum_single L m (λ i. sum F m (λ j. f i j)) a la (λ i l ne. sum_zero L m (λ j. f i j) (λ j b. h i j l b ne)) ∙
      sum_single L m (λ j. f a j) k lk g

  module _ (n : ℕ) (p : ℕ → E) (ps : Apart (suc n) p) (ms : Apart (suc n) (λ i. power F (p i) n)) where
    value_is : (i j : ℕ) (x : E) → i < suc n → j < suc n → (i ≡ j → ⊥) → poly F n (others F n p i j) x ≡ product F (besides i j) (suc n) (λ c. x ⊕ p c)
    value_is i j x l h ne = factors_value L (besides i j) p (suc n) n x (count_besides_two i j n l h ne)

    -- it is zero at every other point
    pub others_zero : (i j a : ℕ) → i < suc n → j < suc n → a < suc n → (i ≡ j → ⊥) → (a ≡ i → ⊥) → (a ≡ j → ⊥) → poly F n (others F n p i j) (p a) ≡ 𝟎
    others_zero i j a l h b ne na nb = value_is i j (p a) l h ne ∙ product_zero L (besides i j) (suc n) (λ c. p a ⊕ p c) a b (besides_in i j a na nb) (add_self L (p a))

    -- but not at these two
    pub others_first : (i j : ℕ) → i < suc n → j < suc n → (i ≡ j → ⊥) → poly F n (others F n p i j) (p i) ≡ 𝟎 → ⊥
    others_first i j l h ne z =
        product_nonzero L (besides i j) (suc n) (λ c. p i ⊕ p c)
        (λ c b k e. both_ways (besides i j c) (besides_first i j c (sym (ps i c l b (eq_of_add L (p i) (p c) e)))) k) (sym (value_is i j (p i) l h ne) ∙ z)

    pub others_second : (i j : ℕ) → i < suc n → j < suc n → (i ≡ j → ⊥) → poly F n (others F n p i j) (p j) ≡ 𝟎 → ⊥
    others_second i j l h ne z =
        product_nonzero L (besides i j) (suc n) (λ c. p j ⊕ p c)
        (λ c b k e. both_ways (besides i j c) (besides_second i j c (sym (ps j c h b (eq_of_add L (p j) (p c) e)))) k) (sym (value_is i j (p j) l h ne) ∙ z)

    far : (u w v i : E) → (u ⊕ u) ⊗ w ⊗ (v ⊗ i) ≡ 𝟎
    far u w v i = simp (ring, L)

    same_inv : (u a v i : E) → (u ⊗ inv (a ⊕ a)) ⊗ (v ⊗ i) ≡ 𝟎
    same_inv u a v i = ap (λ z. (u ⊗ inv z) ⊗ (v ⊗ i)) (add_self L a) ∙ ap (λ z. (u ⊗ z) ⊗ (v ⊗ i)) L.inv_zero ∙ simp (ring, L)

    off : (u v i : E) → v ≡ 𝟎 → u ⊗ (v ⊗ i) ≡ 𝟎
    off u v i z = ap (λ t. u ⊗ (t ⊗ i)) z ∙ simp (ring, L)

    -- a pair of equal nodes gives nothing
    pub weight_same : (i : ℕ) (x : E) → share_weight F n p i i x ≡ 𝟎
    unfolding share_weight
    weight_same i x =
        same_inv (power F x n ⊕ power F (p i) n) (power F (p i) n) (poly F n (others F n p i i) x) (inv (poly F n (others F n p i i) (p i) ⊗ poly F n (others F n p i i) (p i)))

    -- at its second node a pair gives nothing
    weight_second : (i a : ℕ) → share_weight F n p i a (p a) ≡ 𝟎
    unfolding share_weight
    weight_second i a =
        far (power F (p a) n) (inv (power F (p i) n ⊕ power F (p a) n)) (poly F n (others F n p i a) (p a)) (inv (poly F n (others F n p i a) (p i) ⊗ poly F n (others F n p i a) (p a)))

    weight_far : (i j a : ℕ) → i < suc n → j < suc n → a < suc n → (i ≡ j → ⊥) → (a ≡ i → ⊥) → (a ≡ j → ⊥) → share_weight F n p i j (p a) ≡ 𝟎
    unfolding share_weight
    weight_far i j a l h b ne na nb = off ((power F (p a) n ⊕ power F (p j) n) ⊗ inv (power F (p i) n ⊕ power F (p j) n)) (poly F n (others F n p i j) (p a)) (inv (poly F n (others F n p i j) (p i) ⊗ poly F n (others F n p i j) (p j))) (others_zero i j a l h b ne na nb)

    -- at a node of the list only the pairs that begin with it count
    pub weight_other : (i j a : ℕ) → i < suc n → j < suc n → a < suc n → (i ≡ a → ⊥) → share_weight F n p i j (p a) ≡ 𝟎
    weight_other i j a l h b na = go (cases_eq a j) (cases_eq i j)
      where
        go : (a ≡ j) ⊎ (a ≡ j → ⊥) → (i ≡ j) ⊎ (i ≡ j → ⊥) → share_weight F n p i j (p a) ≡ 𝟎
        go (inl e) w = ap (λ c. share_weight F n p i c (p a)) (sym e) ∙ weight_second i a
        go (inr nb) (inl e) = ap (λ c. share_weight F n p i c (p a)) (sym e) ∙ weight_same i (p a)
        go (inr nb) (inr ne) = weight_far i j a l h b ne (λ e. na (sym e)) nb

    unit_all : (m v w : E) → (m ≡ 𝟎 → ⊥) → (v ≡ 𝟎 → ⊥) → (w ≡ 𝟎 → ⊥) → ((m ⊗ inv m) ⊗ (v ⊗ inv (v ⊗ w))) ⊗ w ≡ 𝟏
    unit_all m v w nm nv nw =
        ap (λ z. (z ⊗ (v ⊗ inv (v ⊗ w))) ⊗ w) (L.mul_inv m nm) ∙ order v w (inv (v ⊗ w)) ∙ L.mul_inv (v ⊗ w) (mul_nonzero L v w nv nw)
      where
        order : (v w z : E) → (𝟏 ⊗ (v ⊗ z)) ⊗ w ≡ (v ⊗ w) ⊗ z
        order v w z = simp (ring, L)

    weight_here : (a k : ℕ) → a < suc n → k < suc n → (a ≡ k → ⊥) → share_weight F n p a k (p a) ⊗ poly F n (others F n p a k) (p k) ≡ 𝟏
    unfolding share_weight
    weight_here a k l h ne =
        unit_all (power F (p a) n ⊕ power F (p k) n) (poly F n (others F n p a k) (p a)) (poly F n (others F n p a k) (p k))
        (λ e. ne (ms a k l h (eq_of_add L (power F (p a) n) (power F (p k) n) e))) (others_first a k l h ne) (others_second a k l h ne)

    module _ (held : ℕ → ℕ → E) where
      known : ℕ → ℕ → E
      known i j = poly F n (held i) (p j)

      part : ℕ → ℕ → E
      part i j = known i j ⊗ (inv (power F (p i) n ⊕ power F (p j) n) ⊗ inv (poly F n (others F n p i j) (p i) ⊗ poly F n (others F n p i j) (p j)))

      -- the S and T of the closed form
      pub S : ℕ → ℕ → E
      S a b = pairs F (suc n) (λ i j. (part i j ⊗ power F (p j) n ⊗ others F n p i j b) ⊗ others F n p i j a)

      pub T : ℕ → ℕ → E
      T a b = pairs F (suc n) (λ i j. (part i j ⊗ others F n p i j b) ⊗ others F n p i j a)

      swap : (c u v : E) → (c ⊗ u) ⊗ v ≡ (c ⊗ v) ⊗ u
      swap c u v = simp (ring, L)

      pub s_symmetric : Symmetric n S
      unfolding S
      s_symmetric a b l h = pairs_cong F (suc n) _ _ (λ i j u v. swap (part i j ⊗ power F (p j) n) (others F n p i j b) (others F n p i j a))

      pub t_symmetric : Symmetric n T
      unfolding T
      t_symmetric a b l h = pairs_cong F (suc n) _ _ (λ i j u v. swap (part i j) (others F n p i j b) (others F n p i j a))

      gather : (k w z m x o v : E) → ((k ⊗ (w ⊗ z)) ⊗ m ⊗ o) ⊗ v ⊕ x ⊗ (((k ⊗ (w ⊗ z)) ⊗ o) ⊗ v) ≡ (k ⊗ (((x ⊕ m) ⊗ w) ⊗ (v ⊗ z))) ⊗ o
      gather k w z m x o v = simp (ring, L)

      pub share_closed : (x : E) (q : ℕ) → share F n S T x q ≡ closed F n p held x q
      unfolding S T closed share_weight part known
      share_closed x q =
          ap₂ (λ u v. u ⊕ power F x n ⊗ v)
          (poly_pairs n (suc n) (λ i j. part i j ⊗ power F (p j) n ⊗ others F n p i j q) (λ i j. others F n p i j) x)
          (poly_pairs n (suc n) (λ i j. part i j ⊗ others F n p i j q) (λ i j. others F n p i j) x) ∙
          ap (λ v. pairs F (suc n) (λ i j. (part i j ⊗ power F (p j) n ⊗ others F n p i j q) ⊗ poly F n (others F n p i j) x) ⊕ v)
          (mul_pairs (suc n) (power F x n) (λ i j. (part i j ⊗ others F n p i j q) ⊗ poly F n (others F n p i j) x)) ∙
          sym (pairs_add (suc n) (λ i j. (part i j ⊗ power F (p j) n ⊗ others F n p i j q) ⊗ poly F n (others F n p i j) x)
          (λ i j. power F x n ⊗ ((part i j ⊗ others F n p i j q) ⊗ poly F n (others F n p i j) x))) ∙
          pairs_cong F (suc n) _ _ (λ i j l h.
          gather (poly F n (held i) (p j)) (inv (power F (p i) n ⊕ power F (p j) n)) (inv (poly F n (others F n p i j) (p i) ⊗ poly F n (others F n p i j) (p j)))
          (power F (p j) n) (power F x n) (others F n p i j q) (poly F n (others F n p i j) x))

      closed_value : (x y : E) → poly F n (closed F n p held x) y ≡ pairs F (suc n) (λ i j. (known i j ⊗ share_weight F n p i j x) ⊗ poly F n (others F n p i j) y)
      unfolding closed known
      closed_value x y = poly_pairs n (suc n) (λ i j. poly F n (held i) (p j) ⊗ share_weight F n p i j x) (λ i j. others F n p i j) y

      none : (k w v : E) → w ≡ 𝟎 → (k ⊗ w) ⊗ v ≡ 𝟎
      none k w v z = ap (λ t. (k ⊗ t) ⊗ v) z ∙ simp (ring, L)

      none_right : (k w v : E) → v ≡ 𝟎 → (k ⊗ w) ⊗ v ≡ 𝟎
      none_right k w v z = ap (λ t. (k ⊗ w) ⊗ t) z ∙ mul_zero L (k ⊗ w)

      one : (k w v : E) → w ⊗ v ≡ 𝟏 → (k ⊗ w) ⊗ v ≡ k
      one k w v e = L.mul_assoc k w v ∙ ap (F.mul k) e ∙ L.mul_one k

      closed_at : (a k : ℕ) → a < suc n → k < suc n → (a ≡ k → ⊥) → poly F n (closed F n p held (p a)) (p k) ≡ poly F n (held a) (p k)
      unfolding known
      closed_at a k l h ne =
          closed_value (p a) (p k) ∙
          pairs_single (suc n) (λ i j. (known i j ⊗ share_weight F n p i j (p a)) ⊗ poly F n (others F n p i j) (p k)) a k l h
          (λ i j u v na. none (known i j) (share_weight F n p i j (p a)) (poly F n (others F n p i j) (p k)) (weight_other i j a u v l na))
          (λ j v nk. go j v nk (cases_eq a j)) ∙
          one (known a k) (share_weight F n p a k (p a)) (poly F n (others F n p a k) (p k)) (weight_here a k l h ne)
        where
          go : (j : ℕ) → j < suc n → (j ≡ k → ⊥) → (a ≡ j) ⊎ (a ≡ j → ⊥) → (known a j ⊗ share_weight F n p a j (p a)) ⊗ poly F n (others F n p a j) (p k) ≡ 𝟎
          go j v nk (inl e) = none (known a j) (share_weight F n p a j (p a)) (poly F n (others F n p a j) (p k)) (ap (λ c. share_weight F n p a c (p a)) (sym e) ∙ weight_same a (p a))
          go j v nk (inr na) =
              none_right (known a j) (share_weight F n p a j (p a)) (poly F n (others F n p a j) (p k)) (others_zero a j k l v h na (λ e. ne (sym e)) (λ e. nk (sym e)))

      -- the closed form gives each node of the list what it holds
      pub closed_here : (a : ℕ) → a < suc n → Same n (closed F n p held (p a)) (held a)
      closed_here a l =
          agree L n (λ c. p (skip a c)) (closed F n p held (p a)) (held a)
          (λ b c m k e. skip_same a b c (ps (skip a b) (skip a c) (skip_below a b n m) (skip_below a c n k) e))
          (λ c m. closed_at a (skip a c) l (skip_below a c n m) (skip_not a c))

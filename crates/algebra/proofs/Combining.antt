-- The sum of values times Lagrange polynomials, one term at a time.
use Rattle.std.proofs.Common.{◌≡◌, ℕ, ◌+◌, ◌<◌, ◌≤◌, ◌⊎◌, sym, ap, ◌∙◌, ap₂, inl, inr, add-one, arith, below_more}
use Rattle.std.proofs.lemmas.Bool.{cases_eq}
use Rattle.field.specs.Laws.{Ops, Laws}
use Rattle.algebra.specs.Poly.{Apart, Same, sum, poly, plus, unit, OneAt, Through}
use Rattle.algebra.proofs.Ring.{ring}
use Rattle.algebra.proofs.Sum.{sum_none, sum_more, unit_same, unit_other}
use Rattle.algebra.proofs.Poly.{poly_cong, poly_zero, poly_scaled}
use Rattle.algebra.proofs.Interpolation.{uniqueness, interpolation, basis, basis_lagrange}

-- The polynomial f has the values at the first n of m points, and is zero at the others.
pub record Partial {E : Type 0} (F : Ops E) (m : ℕ) (p y f : ℕ → E) (n : ℕ) : Type 0 where
  pub done : (j : ℕ) → j < n → poly F m f (p j) ≡ y j
  pub left : (j : ℕ) → n ≤ j → j < m → poly F m f (p j) ≡ F.zero

module _ {E : Type 0} {F : Ops E} (L : Laws F) (m : ℕ) (p y : ℕ → E) where
  pub partial_none : (f : ℕ → E) → Same m f (λ k. F.zero) → Partial F m p y f 0
  partial_none f h = record { done = λ j l. absurd (omega arith); left = λ j a b. poly_zero L m f (p j) h }

  pub partial_more : (f g l : ℕ → E) (i : ℕ) (c : E) → i < m → c ≡ y i → OneAt F m p i l → Same m g (plus F f c l) → Partial F m p y f i → Partial F m p y g (i + 1)
  partial_more f g l i c b e h s a = record {
    done = below_more (λ j. poly F m g (p j) ≡ y j) i
        (λ j d. val j ∙ ap₂ (λ u v. F.add u (F.mul c v)) (a.done j d) (h.1 j (omega arith) (λ q. omega arith)) ∙ simp (ring, L))
        (val i ∙ ap₂ (λ u v. F.add u (F.mul c v)) (a.left i (omega arith) b) h.0 ∙ (simp (ring, L) e));
    left = λ j d q. val j ∙ ap₂ (λ u v. F.add u (F.mul c v)) (a.left j (omega arith) q) (h.1 j q (λ z. omega arith)) ∙ simp (ring, L);
  }
    where
      val : (j : ℕ) → poly F m g (p j) ≡ F.add (poly F m f (p j)) (F.mul c (poly F m l (p j)))
      val j = poly_cong F m g (plus F f c l) (p j) s ∙ poly_scaled L m f c l (p j)

  -- the first n terms of the value at x
  unfoldable pub blend : E → ℕ → E
  blend x n = sum F n (λ i. F.mul (y i) (poly F m (basis L m p i) x))

  pub blend_none : (x : E) → blend x 0 ≡ F.zero
  unfolding blend
  blend_none x = sum_none F (λ i. F.mul (y i) (poly F m (basis L m p i) x))

  one_at_unit : (i : ℕ) (f : ℕ → E) → i < m → OneAt F m p i f → Through F m p (unit F i) f
  one_at_unit i f l h j b = go (cases_eq i j)
    where
      go : (i ≡ j) ⊎ (i ≡ j → ⊥) → poly F m f (p j) ≡ unit F i j
      go (inl e) = ap (λ k. poly F m f (p k)) (sym e) ∙ h.0 ∙ sym (unit_same F i) ∙ ap (unit F i) e
      go (inr ne) = h.1 j b ne ∙ sym (unit_other F i j ne)

  -- there is one Lagrange polynomial for each point
  pub one_at_only : (i : ℕ) (f g : ℕ → E) → Apart m p → i < m → OneAt F m p i f → OneAt F m p i g → Same m f g
  one_at_only i f g apart l a b = uniqueness L m p (unit F i) f g apart (one_at_unit i f l a) (one_at_unit i g l b)

  pub blend_more : (x : E) (i : ℕ) (l : ℕ → E) (s c v u r : E) → Apart m p → i < m → OneAt F m p i l → s ≡ blend x i → c ≡ y i → v ≡ poly F m l x → u ≡ F.mul c v → r ≡ F.add s u → r ≡ blend x (i + 1)
  unfolding blend
  blend_more x i l s c v u r apart b h es ec ev eu er =
      let o = basis_lagrange L m p apart in
      let e = one_at_only i l (basis L m p i) apart b h (o.here i b, λ j d ne. o.there i j b d ne) in
      er ∙ ap₂ F.add es (eu ∙ ap₂ F.mul ec (ev ∙ poly_cong F m l (basis L m p i) x e)) ∙
      sym (sum_more F i (λ i. F.mul (y i) (poly F m (basis L m p i) x))) ∙ ap (λ n. sum F n (λ i. F.mul (y i) (poly F m (basis L m p i) x))) (sym (add-one i))

  pub blend_all : (x v : E) → Apart m p → v ≡ blend x m → (f : ℕ → E) → Through F m p y f → v ≡ poly F m f x
  unfolding blend
  blend_all x v apart e f t = e ∙ sym ((interpolation L m p y (basis L m p) apart (basis_lagrange L m p apart)).1 f t x)

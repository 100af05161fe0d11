-- φ(s)·v as the value of the polynomial v at the point of s, and two polynomials that agree.
use Rattle.std.proofs.Common.{◌≡◌, ℕ, ◌+◌, ◌<◌, sym, refl, ap, ◌∙◌, add-one}
use Rattle.field.specs.Laws.{Ops, Laws}
use Rattle.algebra.specs.Poly.{poly, Apart, Same}
use Rattle.algebra.proofs.Ring.{ring, mul_comm}
use Rattle.algebra.proofs.Sum.{sum_cong, sum_none, sum_more}
use Rattle.algebra.proofs.Poly.{poly_is}
use Rattle.algebra.proofs.Interpolation.{uniqueness}
use Rattle.beehive.specs.declared.numbers.Numbers.{Numbers}
use Rattle.beehive.specs.Points.{dot, powers, point}

module _ {E : Type 0} {F : Ops E} (L : Laws F) where
  pub dot_poly : (N : Numbers) (n s : ℕ) (v : ℕ → E) → dot F n (powers F N s) v ≡ poly F n v (point F N s)
  dot_poly N n s v =
      sum_cong F n (λ i. F.mul (powers F N s i) (v i)) (λ i. F.mul (v i) (powers F N s i)) (λ i l. mul_comm L (powers F N s i) (v i)) ∙
      sym (poly_is F n v (point F N s))

  -- two polynomials of m coefficients that agree at m points
  pub agree : (m : ℕ) (p f g : ℕ → E) → Apart m p → ((i : ℕ) → i < m → poly F m f (p i) ≡ poly F m g (p i)) → Same m f g
  agree m p f g apart h = uniqueness L m p (λ i. poly F m g (p i)) f g apart h (λ i l. refl)

  pub add_cancel : (x y z : E) → F.add x z ≡ F.add y z → x ≡ y
  add_cancel x y z h = sym (twice x z) ∙ ap (λ v. F.add v z) h ∙ twice y z
    where
      twice : (a b : E) → F.add (F.add a b) b ≡ a
      twice a b = simp (ring, L)

module _ {E : Type 0} (F : Ops E) where
  -- one more term of a product of vectors
  pub dot_none : (f v : ℕ → E) → dot F 0 f v ≡ F.zero
  dot_none f v = sum_none F (λ i. F.mul (f i) (v i))

  pub dot_more : (n : ℕ) (f v : ℕ → E) → dot F (n + 1) f v ≡ F.add (dot F n f v) (F.mul (f n) (v n))
  dot_more n f v = ap (λ k. dot F k f v) (add-one n) ∙ sum_more F n (λ i. F.mul (f i) (v i))

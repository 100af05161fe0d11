-- The steps of the solver.
use Rattle.std.proofs.Common.{◌≡◌, ℕ, ◌+◌, ◌-◌, ◌*◌, ◌<◌, ◌≤◌, List, ◌++◌, length, get_or, take, drop, sym, ap, ◌∙◌, ap₂, ⊎_elim, mul-le-mul_right, suc-mul, arith, length-take-le, below_more}
use borrow.Rule.Slice.PartMut.{put_mid, post_of}
use Rattle.std.proofs.lemmas.List.{get_or_append_left, get_or-append_right, get_or-take, get_or-drop}
use Rattle.std.proofs.lemmas.Bool.{cases_lt}
use Rattle.field.specs.Laws.{Ops, Laws}
use Rattle.algebra.specs.Poly.{Apart, Same, poly, product, factors, besides, scaled, OneAt}
use Rattle.algebra.specs.Cells.{entry, matrix}
use Rattle.algebra.specs.Solutions.{Solved}
use Rattle.algebra.proofs.Ring.{add_self, mul_zero, inv_mul}
use Rattle.algebra.proofs.Poly.{poly_cong, poly_mul}
use Rattle.algebra.proofs.Factors.{product_zero, factors_value}
use Rattle.algebra.proofs.Interpolation.{besides_in, count_besides, rest_nonzero}

module _ {E : Type 0} {F : Ops E} (L : Laws F) (m : ℕ) (p : ℕ → E) (i : ℕ) (f : ℕ → E) (l : i < m) (s : Same m f (factors F (besides i i) p m)) where
  others_value : (x : E) → poly F m f x ≡ product F (besides i i) m (λ c. F.add x (p c))
  others_value x = poly_cong F m f (factors F (besides i i) p m) x s ∙ factors_value L (besides i i) p m m x (omega (arith, count_besides i m l))

  -- the product over the other points is not zero at point i
  pub height_nonzero : Apart m p → (u : E) → u ≡ poly F m f (p i) → u ≡ F.zero → ⊥
  height_nonzero apart u e z = rest_nonzero L m p i apart l (sym (others_value (p i)) ∙ sym e ∙ z)

  -- and divided by its value there, it is the Lagrange polynomial
  pub one_at : Apart m p → (u w : E) (g : ℕ → E) → u ≡ poly F m f (p i) → w ≡ F.inv u → Same m g (scaled F w f) → OneAt F m p i g
  one_at apart u w g eu ew h = (
    val (p i) ∙ ap₂ F.mul ew (sym eu) ∙ inv_mul L u (height_nonzero apart u eu),
    λ j b ne. val (p j) ∙
        ap (F.mul w) (others_value (p j) ∙ product_zero L (besides i i) m (λ c. F.add (p j) (p c)) j b (besides_in i i j (λ e. ne (sym e)) (λ e. ne (sym e))) (add_self L (p j))) ∙
        mul_zero L w,
  )
    where
      val : (x : E) → poly F m g x ≡ F.mul w (poly F m f x)
      val x = poly_cong F m g (scaled F w f) x h ∙ poly_mul L m w f x

-- What a list holds after its k elements from a on were replaced by ys.
module _ {E : Type 0} (a k : ℕ) (xs ys : List E) (z : E) (fit : a + k ≤ length xs) (long : length ys ≡ k) where
  front : length (take a xs) ≡ a
  front = length-take-le a xs (omega arith)

  pub put_below : (q : ℕ) → q < a → get_or (put_mid a k xs ys) q z ≡ get_or xs q z
  put_below q l = get_or_append_left (take a xs) (ys ++ post_of a k xs) z q (omega (arith, front)) ∙ get_or-take a xs q z l

  pub put_inside : (j : ℕ) → j < k → get_or (put_mid a k xs ys) (a + j) z ≡ get_or ys j z
  put_inside j l =
      get_or-append_right (take a xs) (ys ++ post_of a k xs) a (a + j) z front (omega arith) ∙
      ap (λ q. get_or (ys ++ post_of a k xs) q z) (omega arith) ∙
      get_or_append_left ys (post_of a k xs) z j (omega arith)

  pub put_above : (q : ℕ) → a + k ≤ q → get_or (put_mid a k xs ys) q z ≡ get_or xs q z
  put_above q l =
      get_or-append_right (take a xs) (ys ++ post_of a k xs) a q z front (omega arith) ∙
      get_or-append_right ys (post_of a k xs) k (q - a) z long (omega arith) ∙
      get_or-drop k (drop a xs) (q - a - k) z ∙
      get_or-drop a xs (k + (q - a - k)) z ∙
      ap (λ q. get_or xs q z) (omega arith)

-- What it holds after its first k elements were replaced by ys.
module _ {E : Type 0} (k : ℕ) (xs ys : List E) (z : E) (long : length ys ≡ k) where
  pub front_inside : (j : ℕ) → j < k → get_or (ys ++ drop k xs) j z ≡ get_or ys j z
  front_inside j l = get_or_append_left ys (drop k xs) z j (omega arith)

  pub front_above : (q : ℕ) → k ≤ q → get_or (ys ++ drop k xs) q z ≡ get_or xs q z
  front_above q l =
      get_or-append_right ys (drop k xs) k q z long l ∙
      get_or-drop k xs (q - k) z ∙
      ap (λ q. get_or xs q z) (omega arith)

-- The rows below n are done, and no other cell has changed.
pub record Filled {E : Type 0} (F : Ops E) (m : ℕ) (p : ℕ → E) (cols : ℕ) (old new : List E) (n : ℕ) : Type 0 where
  pub done : (i : ℕ) → i < n → OneAt F m p i (matrix F new cols i)
  pub rest : (q : ℕ) → ((i k : ℕ) → i < n → k < m → q ≡ i * cols + k → ⊥) → entry F new q ≡ entry F old q

-- Row i of at least m rows lies in the memory, and before the next one.
pub row_ends : (i m cols n : ℕ) → i < m → m * cols ≤ n → i * cols + cols ≤ n
row_ends i m cols n l h = omega (arith, mul-le-mul_right cols l, suc-mul i cols)

row_before : (r i cols : ℕ) → r < i → r * cols + cols ≤ i * cols
row_before r i cols l = omega (arith, mul-le-mul_right cols l, suc-mul r cols)

module _ {E : Type 0} (F : Ops E) (m : ℕ) (p : ℕ → E) where
  one_at_same : (i : ℕ) (f g : ℕ → E) → Same m f g → OneAt F m p i g → OneAt F m p i f
  one_at_same i f g s h = (poly_cong F m f g (p i) s ∙ h.0, λ j l ne. poly_cong F m f g (p j) s ∙ h.1 j l ne)

  module _ (cols : ℕ) (old : List E) where
    pub filled_more : (new ys : List E) (i : ℕ) → m ≤ cols → i * cols + m ≤ length new → length ys ≡ m → OneAt F m p i (entry F ys) →
        Filled F m p cols old new i → Filled F m p cols old (put_mid (i * cols) m new ys) (i + 1)
    filled_more new ys i w fit long h s = record {
      done = below_more (λ r. OneAt F m p r (matrix F (put_mid (i * cols) m new ys) cols r)) i
          (λ r b. one_at_same r (matrix F (put_mid (i * cols) m new ys) cols r) (matrix F new cols r)
          (λ k c. put_below (i * cols) m new ys F.zero fit long (r * cols + k) (omega (arith, row_before r i cols b))) (s.done r b))
          (one_at_same i (matrix F (put_mid (i * cols) m new ys) cols i) (entry F ys) (λ k c. put_inside (i * cols) m new ys F.zero fit long k c) h);
      rest = λ q out. ⊎_elim
          (λ b. put_below (i * cols) m new ys F.zero fit long q b ∙ s.rest q (λ r k a c. out r k (omega arith) c))
          (λ b. ⊎_elim
          (λ a. absurd (out i (q - i * cols) (omega arith) (omega arith) (omega arith)))
          (λ a. put_above (i * cols) m new ys F.zero fit long q a ∙ s.rest q (λ r k d c. out r k (omega arith) c))
          (cases_lt q (i * cols + m)))
          (cases_lt q (i * cols));
    }

pub filled_all : {E : Type 0} (F : Ops E) (points : List E) (cols : ℕ) (old new : List E) → Filled F (length points) (entry F points) cols old new (length points) → Solved F points cols old new
filled_all F points cols old new s = record {
  lagrange = record { here = λ i l. (s.done i l).0; there = λ i j l b ne. (s.done i l).1 j b ne };
  rest = s.rest;
}

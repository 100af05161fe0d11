-- Sums, powers, products and polynomials over a field. A vector is a function from ℕ of which the first values count,
-- and a polynomial of n coefficients is the vector of them, the lowest first.
use Rattle.std.specs.Prelude.{◌≡◌, ℕ, zero, suc, ◌<◌, ◌≤◌, Bool, cond, not, ◌&&◌, ◌==◌, ◌≢◌}
use Rattle.field.specs.Laws.{Ops}

-- The first m of the points are pairwise different.
abbrev pub Apart : {E : Type 0} → ℕ → (ℕ → E) → Type 0
Apart m p = (i j : ℕ) → i < m → j < m → p i ≡ p j → i ≡ j

-- The two vectors have the same first n values.
abbrev pub Same : {E : Type 0} → ℕ → (ℕ → E) → (ℕ → E) → Type 0
Same n f g = (k : ℕ) → k < n → f k ≡ g k

-- how many of the numbers below n are kept
unfoldable pub count : (ℕ → Bool) → ℕ → ℕ
count keep zero = 0
count keep (suc n) = cond (keep n) (suc (count keep n)) (count keep n)

-- every number but i and j, which may be equal
abbrev pub besides : ℕ → ℕ → ℕ → Bool
besides i j c = not (c == i) && not (c == j)

module _ {E : Type 0} (F : Ops E) where
  -- f 0 + f 1 + .. + f (n - 1)
  unfoldable pub sum : ℕ → (ℕ → E) → E
  sum zero f = F.zero
  sum (suc n) f = F.add (sum n f) (f n)

  -- the product of f c over the c below n that are kept
  unfoldable pub product : (ℕ → Bool) → ℕ → (ℕ → E) → E
  product keep zero f = F.one
  product keep (suc n) f = cond (keep n) (F.mul (f n) (product keep n f)) (product keep n f)

  unfoldable pub power : E → ℕ → E
  power x zero = F.one
  power x (suc n) = F.mul x (power x n)

  -- the value at x: f 0 + f 1 x + .. + f (n - 1) x ^ (n - 1)
  unfoldable pub poly : ℕ → (ℕ → E) → E → E
  poly n f x = sum n (λ k. F.mul (f k) (power x k))

  -- entry j of the unit vector i; as a polynomial, X ^ i
  abbrev pub unit : ℕ → ℕ → E
  unit i j = cond (i == j) F.one F.zero

  -- the coefficients of X times f
  abbrev pub before : (ℕ → E) → ℕ → E
  before f zero = F.zero
  before f (suc k) = f k

  -- the coefficients of (X + p) times f
  abbrev pub times : E → (ℕ → E) → ℕ → E
  times p f k = F.add (before f k) (F.mul p (f k))

  -- the coefficients of c times f
  abbrev pub scaled : E → (ℕ → E) → ℕ → E
  scaled c f k = F.mul c (f k)

  -- the coefficients of f + c times g
  abbrev pub plus : (ℕ → E) → E → (ℕ → E) → ℕ → E
  plus f c g k = F.add (f k) (F.mul c (g k))

  -- the coefficients of the product of X + p c over the c below n that are kept
  unfoldable pub factors : (ℕ → Bool) → (ℕ → E) → ℕ → ℕ → E
  factors keep p zero = unit 0
  factors keep p (suc n) = cond (keep n) (times (p n) (factors keep p n)) (factors keep p n)

  -- The polynomial f of m coefficients has the value y i at the point p i, for each i below m.
  abbrev pub Through : ℕ → (ℕ → E) → (ℕ → E) → (ℕ → E) → Type 0
  Through m p y f = (i : ℕ) → i < m → poly m f (p i) ≡ y i

  -- The polynomial f of m coefficients is 1 at the point i and 0 at the others.
  abbrev pub OneAt : ℕ → (ℕ → E) → ℕ → (ℕ → E) → Type 0
  OneAt m p i f = (poly m f (p i) ≡ F.one) × ((j : ℕ) → j < m → (i ≢ j) → poly m f (p j) ≡ F.zero)

  -- The polynomials l 0, .., l (m - 1) of m coefficients: l i is 1 at the point i and 0 at the others.
  pub record Lagrange (m : ℕ) (p : ℕ → E) (l : ℕ → ℕ → E) : Type 0 where
    pub here : (i : ℕ) → i < m → poly m (l i) (p i) ≡ F.one
    pub there : (i j : ℕ) → i < m → j < m → (i ≢ j) → poly m (l i) (p j) ≡ F.zero

  -- the coefficients of y 0 times l 0 + .. + y (m - 1) times l (m - 1)
  abbrev pub mix : ℕ → (ℕ → E) → (ℕ → ℕ → E) → ℕ → E
  mix m y l k = sum m (λ i. F.mul (y i) (l i k))

  -- The entries of the product of two m by m matrices are those of the unit matrix.
  abbrev pub Inverse : ℕ → (ℕ → ℕ → E) → (ℕ → ℕ → E) → Type 0
  Inverse m a b = (i j : ℕ) → i < m → j < m → sum m (λ k. F.mul (a i k) (b k j)) ≡ unit i j

  -- A polynomial of n coefficients with n different roots, or more, is zero.
  abbrev pub RootCount : Type 0
  RootCount = (n m : ℕ) (f p : ℕ → E) → n ≤ m → Apart m p → ((i : ℕ) → i < m → poly n f (p i) ≡ F.zero) → Same n f (λ k. F.zero)

  -- Through any values at m different points goes a polynomial of m coefficients.
  abbrev pub Existence : Type 0
  Existence = (m : ℕ) (p y : ℕ → E) → Apart m p → (f : ℕ → E) × Through m p y f

  -- And no other one.
  abbrev pub Uniqueness : Type 0
  Uniqueness = (m : ℕ) (p y f g : ℕ → E) → Apart m p → Through m p y f → Through m p y g → Same m f g

  -- Lagrange's polynomials with the values for weights make the polynomial through the values, everywhere.
  abbrev pub Interpolation : Type 0
  Interpolation = (m : ℕ) (p y : ℕ → E) (l : ℕ → ℕ → E) → Apart m p → Lagrange m p l →
      Through m p y (mix m y l) × ((f : ℕ → E) → Through m p y f → (x : E) → poly m f x ≡ sum m (λ i. F.mul (y i) (poly m (l i) x)))

  -- The Lagrange polynomials are the rows of the inverse of Vandermonde's matrix, whose column j is 1, p j, (p j) ^ 2, ...
  abbrev pub Vandermonde : Type 0
  Vandermonde = (m : ℕ) (p : ℕ → E) (l : ℕ → ℕ → E) → Apart m p → Lagrange m p l →
      Inverse m l (λ k j. power (p j) k) × Inverse m (λ k j. power (p j) k) l

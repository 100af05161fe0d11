-- What the solver promises: over the lists of points, values and cells that the slices hold.
use Rattle.std.specs.Prelude.{◌≡◌, ℕ, ◌+◌, ◌*◌, ◌<◌, ◌≤◌, List, length, ◌≢◌}
use Rattle.field.specs.Laws.{Ops}
use Rattle.algebra.specs.declared.grid.Grid.{Grid}
use Rattle.algebra.specs.declared.solver.Unsolved.{Unsolved}
use Rattle.algebra.specs.declared.solver.Unsolved.TheVariants.{Room, Values, Repeated}
use Rattle.algebra.specs.Poly.{Apart, Lagrange, Through, poly}
use Rattle.algebra.specs.Cells.{entry, matrix}

-- The grid has m rows and m columns, or more, and its memory has room for it.
abbrev pub Roomy : {E : Type 0} → ℕ → Grid E → Type 0
Roomy m g = (m ≤ g.rows) × (m ≤ g.cols) × (g.rows * g.cols ≤ length g.cells.now)

-- From number n on the two lists hold the same elements.
abbrev pub SameFrom : {E : Type 0} → Ops E → ℕ → List E → List E → Type 0
SameFrom F n old new = (k : ℕ) → n ≤ k → entry F new k ≡ entry F old k

module _ {E : Type 0} (F : Ops E) where
  -- No two of the points are equal.
  abbrev pub Distinct : List E → Type 0
  Distinct points = Apart (length points) (entry F points)

  -- The first m cells of row i are the coefficients of Lagrange polynomial i, for each of the m points; no other cell has changed.
  pub record Solved (points : List E) (cols : ℕ) (old new : List E) : Type 0 where
    pub lagrange : Lagrange F (length points) (entry F points) (matrix F new cols)
    pub rest : (q : ℕ) → ((i k : ℕ) → i < length points → k < length points → q ≢ i * cols + k) → entry F new q ≡ entry F old q

  -- Why the solver refuses the points.
  abbrev pub Denied : List E → Grid E → Unsolved → Type 0
  Denied points g Room = Roomy (length points) g → ⊥
  Denied points g Values = ⊥
  Denied points g Repeated = Roomy (length points) g × (Distinct points → ⊥)

  -- Why so many values at the points, with memory for so many elements, are refused.
  abbrev pub Unfit : List E → ℕ → ℕ → Unsolved → Type 0
  Unfit points values room Values = values ≡ length points → ⊥
  Unfit points values room Room = (values ≡ length points) × (room < length points)
  Unfit points values room Repeated = (values ≡ length points) × (length points ≤ room) × (Distinct points → ⊥)

  -- And what is known if they are not.
  abbrev pub Fit : List E → ℕ → ℕ → Type 0
  Fit points values room = (values ≡ length points) × (length points ≤ room) × Distinct points

  -- The first coefficients of new, one for each point, are the polynomial through the values; the others are as in old.
  pub record Interpolated (points values old new : List E) : Type 0 where
    pub through : Through F (length points) (entry F points) (entry F values) (entry F new)
    pub rest : SameFrom F (length points) old new

  -- The value v at x of the polynomial through the values.
  abbrev pub ValueThrough : List E → List E → E → E → Type 0
  ValueThrough points values x v = (f : ℕ → E) → Through F (length points) (entry F points) (entry F values) f → v ≡ poly F (length points) f x

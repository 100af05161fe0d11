-- Lists as vectors, and as grids: row after row, cell (i, j) of a grid of cols columns at i · cols + j.
use Rattle.std.specs.Prelude.{ℕ, ◌+◌, ◌*◌, ◌<◌, ◌≤◌, List, length, slice_index_or}
use Rattle.field.specs.Laws.{Ops}
use Rattle.algebra.specs.declared.grid.Grid.{Grid}

-- Cell (i, j) lies in the grid and in its memory.
abbrev pub Inside : {E : Type 0} → Grid E → ℕ → ℕ → Type 0
Inside g i j = (i < g.rows) × (j < g.cols) × (i * g.cols + j < length g.cells.now)

-- Row i lies in the grid and in its memory.
abbrev pub Whole : {E : Type 0} → Grid E → ℕ → Type 0
Whole g i = (i < g.rows) × (i * g.cols + g.cols ≤ length g.cells.now)

module _ {E : Type 0} (F : Ops E) where
  -- The list as a vector: its elements, and then zeros.
  abbrev pub entry : List E → ℕ → E
  entry xs i = slice_index_or xs i F.zero

  -- The list as the matrix of a grid.
  abbrev pub matrix : List E → ℕ → ℕ → ℕ → E
  matrix xs cols i j = entry xs (i * cols + j)

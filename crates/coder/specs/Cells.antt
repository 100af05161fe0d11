-- Rows of 16-bit cells: a cell is read by its low bits, as the element of that code, and a result is written as a code.
use Rattle.std.specs.Prelude.{ℕ, zero, suc, cond, List, [], ◌∷◌, ◌==◌}
use Rattle.field.specs.Laws.{Ops}

module _ {E : Type 0} (F : Ops E) where
  -- the cell o after c times the cell r was added to it
  abbrev pub sum_cell : E → ℕ → ℕ → ℕ
  sum_cell c r o = F.code (F.add (F.element o) (F.mul c (F.element r)))

  -- the row out after c times the other row was added to it, as far as the shorter of the two goes
  abbrev pub added : E → List ℕ → List ℕ → List ℕ
  added c [] out = out
  added c (r ∷ row) [] = []
  added c (r ∷ row) (o ∷ out) = sum_cell c r o ∷ added c row out

  -- the same, where a coefficient of zero leaves the row as it is
  abbrev pub folded : E → List ℕ → List ℕ → List ℕ
  folded c row out = cond (F.code c == 0) out (added c row out)

  -- the row out after n multiples of rows were added to it, one after the other
  abbrev pub mixed : (ℕ → E) → (ℕ → List ℕ) → ℕ → List ℕ → List ℕ
  mixed weight rows zero out = out
  mixed weight rows (suc n) out = folded (weight n) (rows n) (mixed weight rows n out)

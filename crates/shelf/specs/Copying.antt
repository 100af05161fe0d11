-- Copying a row from one box to another.
use Rattle.std.specs.Prelude.{ℕ, List, length, Result}
use Rattle.refusal.specs.declared.denial.Denial.{Denial}
use Rattle.refusal.specs.Checks.{and_then}
use Rattle.shelf.specs.Model.{Model}
use Rattle.shelf.specs.Calls.{take_says, take_leaves, put_says, put_does, row_in}

-- `from` and `to` are the boxes; n is the length of the buffer that the row goes through.
abbrev pub copy_says : Model → (from to row n : ℕ) → Result Unit Denial
copy_says m from to row n = and_then (take_says m from row n) (put_says m to row (row_in m from row))

abbrev pub copy_does : Result Unit Denial → Model → (from to row : ℕ) → Model
copy_does r m from to row = put_does r m to row (row_in m from row)

-- The buffer holds the row once it could be taken, even if it could not be put.
abbrev pub copy_leaves : Model → (from row : ℕ) → List ℕ → List ℕ
copy_leaves m from row work = take_leaves (take_says m from row (length work)) m from row work

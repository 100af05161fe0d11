-- The entries of a row that was cut out of a grid.
use Rattle.std.proofs.Common.{◌≡◌, ℕ, ◌+◌, ◌-◌, ◌*◌, ◌<◌, List, drop, ◌∙◌, arith}
use Rattle.std.specs.List.{between}
use Rattle.std.proofs.lemmas.List.{get_or-take, get_or-drop}
use Rattle.field.specs.Laws.{Ops}
use Rattle.algebra.specs.Cells.{entry, matrix}

pub row_entry : {E : Type 0} (F : Ops E) (cells : List E) (cols i k : ℕ) → k < cols → entry F (between (i * cols) (i * cols + cols) cells) k ≡ matrix F cells cols i k
row_entry F cells cols i k l =
    get_or-take (i * cols + cols - i * cols) (drop (i * cols) cells) k F.zero (omega arith) ∙ get_or-drop (i * cols) cells k F.zero

-- Blocks that come from given matrices S, T and Z: the rule read as a formula.
use Rattle.std.specs.Prelude.{ℕ, ◌-◌, cond, List, nat_lt}
use Rattle.field.specs.Laws.{Ops}
use Rattle.algebra.specs.Cells.{matrix}
use Rattle.beehive.specs.declared.numbers.Numbers.{Numbers}
use Rattle.beehive.specs.Numbers.{alpha, tail, tail_length}
use Rattle.beehive.specs.Points.{dot, powers, mu}
use Rattle.beehive.specs.Rule.{phi_times}

module _ {E : Type 0} (F : Ops E) (N : Numbers) where
  -- row j of the block of node s
  abbrev pub from_matrices : (S T Z : ℕ → ℕ → E) → ℕ → ℕ → E
  from_matrices S T Z s j =
      cond (nat_lt j (alpha N)) (F.add (phi_times F N s S j) (F.mul (mu F N s) (phi_times F N s T j)))
      (dot F (tail_length N) (powers F N s) (λ i. Z i (j - alpha N)))

  -- the matrices as lists of cells, row after row
  abbrev pub square : List E → ℕ → ℕ → E
  square cells = matrix F cells (alpha N)

  abbrev pub narrow : List E → ℕ → ℕ → E
  narrow cells = matrix F cells (tail N)

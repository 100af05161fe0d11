-- What holds of the memory for plans, and of their application.
use Rattle.std.specs.Prelude.{◌≡◌, ℕ, ◌+◌, ◌*◌, ◌^◌, ◌<◌, ◌≤◌, List, length, slice_index}
use Rattle.field.specs.Laws.{Ops}
use Rattle.algebra.specs.Poly.{sum}
use Rattle.beehive.specs.declared.numbers.Numbers.{Numbers}
use Rattle.beehive.specs.Numbers.{tail, beta}
use Rattle.coder.specs.Cells.{mixed}
use Rattle.coder.specs.Plans.{room, largest}

-- Every plan fits into the largest plan's memory, and with the room to work in into 12,800 elements.
abbrev pub PlansFit : Type 0
PlansFit = (N : Numbers) → (N.k * beta N ≤ largest) × (beta N ≤ largest) × (N.d + tail N ≤ largest) × (largest + room ≤ 12800)

module _ {E : Type 0} (F : Ops E) where
  -- Apply: a cell that holds a code, after n multiples of rows were added to its row, holds the code of the sum.
  abbrev pub ApplySumsRows : Type 0
  ApplySumsRows = (weight : ℕ → E) (rows : ℕ → List ℕ) (n : ℕ) (out : List ℕ) (q : ℕ) → q < length out → ((e : ℕ) → e < n → q < length (rows e)) → slice_index out q < 2 ^ F.bits →
      slice_index (mixed F weight rows n out) q ≡ F.code (F.add (F.element (slice_index out q)) (sum F n (λ e. F.mul (weight e) (F.element (slice_index (rows e) q)))))

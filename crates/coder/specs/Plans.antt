-- What the plans hold: n coefficients at the front of a list.
use Rattle.std.specs.Prelude.{◌≡◌, ℕ, ◌≤◌, Ok, Err, Result, List, length}
use Rattle.refusal.specs.declared.denial.Denial.{Denial}
use Rattle.refusal.specs.declared.denial.Denial.TheVariants.{Length}
use Rattle.field.specs.Laws.{Ops}
use Rattle.algebra.specs.Poly.{Same}
use Rattle.algebra.specs.Cells.{entry}

module _ {E : Type 0} (F : Ops E) where
  -- The first n elements of new are the coefficients; the others are as in old.
  pub record Planned (n : ℕ) (weight : ℕ → E) (old new : List E) : Type 0 where
    pub made : Same n (entry F new) weight
    pub rest : (k : ℕ) → n ≤ k → entry F new k ≡ entry F old k

-- The most coefficients that a plan has: for 8 boxes of 11 rows.
abbrev pub largest : ℕ
largest = 88

-- The elements that a plan works in besides the plan.
abbrev pub room : ℕ
room = 128

-- There is memory for a plan of n coefficients and for the work on it.
abbrev pub FitsPlan : {E : Type 0} → ℕ → List E → List E → Type 0
FitsPlan n plan work = (n ≤ length plan) × (room ≤ length work)

-- A plan is made where it fits into the memory; else it is refused for the length, and stays as it was.
abbrev pub Made : {E : Type 0} → Ops E → Type 0 → ℕ → (ℕ → E) → List E → List E → Result Unit Denial → Type 0
Made F fits n weight old new (Ok _) = fits × Planned F n weight old new
Made F fits n weight old new (Err e) = (e ≡ Length) × (fits → ⊥) × (new ≡ old)

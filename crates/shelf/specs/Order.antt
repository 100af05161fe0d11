-- The order of the checks as callers see it: by the number that is told, and the box.
use Rattle.std.specs.Prelude.{◌≡◌, ℕ, ◌-◌, ◌*◌, ◌^◌, ◌<◌, ◌≤◌, true, List, length, Ok, Err, Result, slice_index}
use Rattle.refusal.specs.declared.denial.Denial.{Denial}
use Rattle.refusal.specs.Denials.{number_of, box_named}
use Rattle.shelf.specs.Limits.{max_boxes, max_rows, max_width, max_bits}
use Rattle.shelf.specs.Model.{Model, box_at, is_standing}
use Rattle.shelf.specs.Calls.{take_says, put_says, box_says}
use Rattle.shelf.specs.Lay.{lay_says}

-- The call is denied with this number, and names this box.
abbrev pub Refused : {A : Type 0} → Result A Denial → (number box : ℕ) → Type 0
Refused r number box = (d : Denial) × (r ≡ Err d) × (number_of d ≡ number) × (box_named d ≡ box)

abbrev pub OneOf : ℕ → ℕ → Type 0
OneOf i n = (1 ≤ i) × (i ≤ n)

-- The first of these that does not hold decides the answer.
pub record Ordered (box row long codes alive : Type 0) (b : ℕ) (r : Result Unit Denial) : Type 0 where
  pub range : (box × row → ⊥) → Refused r 6 b
  pub length : box → row → (long → ⊥) → Refused r 5 0
  pub symbol : box → row → long → (codes → ⊥) → Refused r 8 0
  pub dead : box → row → long → codes → (alive → ⊥) → Refused r 9 b
  pub accepted : box → row → long → codes → alive → r ≡ Ok tt

abbrev pub TakeOrder : Type 0
TakeOrder = (m : Model) (b row n : ℕ)
    → Ordered (OneOf b (length m.boxes)) (OneOf row m.rows) (n ≡ m.width) (Unit {0}) (is_standing (box_at m (b - 1)) ≡ true) b (take_says m b row n)

abbrev pub PutOrder : Type 0
PutOrder = (m : Model) (b row : ℕ) (vs : List ℕ)
    → Ordered (OneOf b (length m.boxes)) (OneOf row m.rows) (length vs ≡ m.width) ((j : ℕ) → j < length vs → slice_index vs j < 2 ^ m.bits) (is_standing (box_at m (b - 1)) ≡ true) b (put_says m b row vs)

abbrev pub BoxOrder : Type 0
BoxOrder = (m : Model) (b : ℕ) → ((OneOf b (length m.boxes) → ⊥) → Refused (box_says m b) 6 b) × (OneOf b (length m.boxes) → box_says m b ≡ Ok tt)

-- Numbers in their limits, and room for all symbols.
abbrev pub Fit : (boxes rows width bits : ℕ) → Type 0
Fit boxes rows width bits = (OneOf boxes max_boxes × OneOf rows max_rows) × (OneOf width max_width × OneOf bits max_bits)

abbrev pub LayOrder : Type 0
LayOrder = (boxes rows width bits room : ℕ)
    → ((Fit boxes rows width bits → ⊥) → Refused (lay_says boxes rows width bits room) 1 0)
    × (Fit boxes rows width bits → room < (boxes * rows) * width → Refused (lay_says boxes rows width bits room) 5 0)
    × (Fit boxes rows width bits → (boxes * rows) * width ≤ room → lay_says boxes rows width bits room ≡ Ok tt)

-- What the numbers say of every taking, putting, killing, renewing and laying out.
abbrev pub ChecksInOrder : Type 0
ChecksInOrder = TakeOrder × PutOrder × BoxOrder × LayOrder

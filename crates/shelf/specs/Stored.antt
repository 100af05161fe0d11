-- How lent memory holds a shelf: symbols at places that are counted from 0, rows and boxes following without gaps.
use Rattle.std.specs.Prelude.{◌≡◌, ℕ, zero, suc, ◌+◌, ◌*◌, ◌%◌, ◌^◌, ◌<◌, ◌≤◌, Bool, true, false, cond, ◌&&◌, List, [], ◌∷◌, nat_le, slice_index_or}
use Rattle.shelf.specs.declared.shape.Shape.{Shape}
use Rattle.shelf.specs.Limits.{in_limits}
use Rattle.shelf.specs.Model.{Model, Box, dead, standing}

-- The list of f 0, f 1 .. f (n - 1).
abbrev pub tab : {A : Type 0} → ℕ → (ℕ → A) → List A
tab zero f = []
tab (suc n) f = f 0 ∷ tab n (λ i. f (suc i))

-- The place of the first symbol of row r of box i.
abbrev pub place : (rows width i r : ℕ) → ℕ
place rows width i r = (i * rows + r) * width

-- `held p` is what the memory holds at place p; its low bits are the symbol.
abbrev pub row_of : (held : ℕ → ℕ) → (rows width bits i r : ℕ) → List ℕ
row_of held rows width bits i r = tab width (λ j. held (place rows width i r + j) % 2 ^ bits)

abbrev pub box_of : Bool → List (List ℕ) → Box
box_of true rs = standing rs
box_of false rs = dead

abbrev pub box_kept : List Bool → (held : ℕ → ℕ) → (rows width bits i : ℕ) → Box
box_kept live held rows width bits i = box_of (slice_index_or live i false) (tab rows (row_of held rows width bits i))

-- `live` has a mark for each box: whether it stands.
abbrev pub model_of : List Bool → (held : ℕ → ℕ) → Shape → Model
model_of live held s = record { rows = s.rows; width = s.width; bits = s.bits; boxes = tab s.boxes (box_kept live held s.rows s.width s.bits) }

-- How many symbols the boxes of a shape hold.
abbrev pub size : Shape → ℕ
size s = (s.boxes * s.rows) * s.width

-- The numbers of a shelf that is not laid out.
abbrev pub none : Shape
none = record { boxes = 0; rows = 1; width = 1; bits = 1 }

-- The numbers that a shelf tells: its own, where they are in their limits and its memory has room for them.
abbrev pub told : Shape → (room : ℕ) → Shape
told s room = cond (in_limits s.boxes s.rows s.width s.bits && nat_le (size s) room) s none

-- `symbol m p` is what the memory holds at place p of m bits, and it has room for `room m` of these.
abbrev pub model_by : List Bool → (symbol : ℕ → ℕ → ℕ) → (room : ℕ → ℕ) → Shape → Model
model_by live symbol room s = let t = told s (room s.bits) in model_of live (symbol t.bits) t

-- The most places that a shelf can have.
abbrev pub max_size : ℕ
max_size = 2 ^ 18

-- The n places at `start` are places of a shelf, and in the memory, which has room for `room` symbols.
abbrev pub InRoom : (start n room : ℕ) → Type 0
InRoom start n room = (start + n ≤ max_size) × (start + n ≤ room)

-- From `old` to `new`, just the n places at `start` changed, to v 0, v 1 ..
pub record Written (old new : ℕ → ℕ) (start n : ℕ) (v : ℕ → ℕ) : Type 0 where
  pub inside : (j : ℕ) → j < n → new (start + j) ≡ v j
  pub below : (p : ℕ) → p < start → new p ≡ old p
  pub above : (p : ℕ) → start + n ≤ p → new p ≡ old p

-- What a shelf holds, whatever memory it keeps it in.
use Rattle.std.specs.Prelude.{◌≡◌, ℕ, ◌^◌, ◌<◌, Bool, true, false, List, [], length, slice_index, slice_index_or, slice_set}
use Rattle.shelf.specs.Limits.{Limits}

-- A box is dead, or stands and holds its rows of codes.
pub data Box : Type 0 where
  dead : Box
  standing : List (List ℕ) → Box

-- Rows a box, symbols a row, bits a symbol, and the boxes.
pub record Model : Type 0 where
  pub rows : ℕ
  pub width : ℕ
  pub bits : ℕ
  pub boxes : List Box

-- Callers count boxes and rows from 1; here they are counted from 0.
abbrev pub box_at : Model → ℕ → Box
box_at m i = slice_index_or m.boxes i dead

abbrev pub row_at : Box → ℕ → List ℕ
row_at dead r = []
row_at (standing rs) r = slice_index_or rs r []

abbrev pub is_standing : Box → Bool
is_standing dead = false
is_standing (standing rs) = true

abbrev pub with_box : Model → ℕ → Box → Model
with_box m i x = record { rows = m.rows; width = m.width; bits = m.bits; boxes = slice_set m.boxes i x }

abbrev pub with_row : Box → ℕ → List ℕ → Box
with_row dead r vs = dead
with_row (standing rs) r vs = standing (slice_set rs r vs)

-- A box that stands has its rows, all of one width, of codes below 2 ^ bits.
abbrev pub Lawful : (rows width bits : ℕ) → Box → Type 0
Lawful rows width bits dead = Unit {0}
Lawful rows width bits (standing rs) = (length rs ≡ rows) × ((r : ℕ) → r < rows → (length (slice_index_or rs r []) ≡ width) × ((j : ℕ) → slice_index (slice_index_or rs r []) j < 2 ^ bits))

-- What holds of every shelf.
pub record Shaped (m : Model) : Type 0 where
  pub limits : Limits (length m.boxes) m.rows m.width m.bits
  pub each : (i : ℕ) → Lawful m.rows m.width m.bits (box_at m i)

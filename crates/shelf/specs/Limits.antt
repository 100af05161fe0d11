-- The limits of a shelf's numbers.
use Rattle.std.specs.Prelude.{ℕ, ◌≤◌, Bool, ◌&&◌, nat_le, nat_lt}

abbrev pub max_boxes : ℕ
max_boxes = 16

abbrev pub max_rows : ℕ
max_rows = 16

abbrev pub max_width : ℕ
max_width = 1024

abbrev pub max_bits : ℕ
max_bits = 16

-- i is one of 1 .. n.
abbrev pub within : ℕ → ℕ → Bool
within i n = nat_lt 0 i && nat_le i n

-- The numbers that a shelf can be laid out with.
abbrev pub in_limits : (boxes rows width bits : ℕ) → Bool
in_limits boxes rows width bits = within boxes max_boxes && (within rows max_rows && (within width max_width && within bits max_bits))

abbrev pub BitsInLimits : ℕ → Type 0
BitsInLimits bits = (1 ≤ bits) × (bits ≤ max_bits)

-- The numbers of any shelf, which may have no boxes yet.
abbrev pub Limits : (boxes rows width bits : ℕ) → Type 0
Limits boxes rows width bits = (boxes ≤ max_boxes) × ((1 ≤ rows) × (rows ≤ max_rows)) × ((1 ≤ width) × (width ≤ max_width)) × BitsInLimits bits

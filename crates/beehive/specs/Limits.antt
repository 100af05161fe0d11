-- The limits on a stripe's numbers: k boxes give the data back, r more are kept, d boxes help, t boxes are refilled
-- together, and a row has w symbols. Each limit has its name here and nowhere else.
use Rattle.std.specs.Prelude.{ℕ, ◌+◌, ◌-◌, ◌*◌, ◌≤◌}

abbrev pub most_boxes : ℕ
most_boxes = 16

abbrev pub most_needed : ℕ
most_needed = 8

abbrev pub most_newcomers : ℕ
most_newcomers = 4

abbrev pub most_symbols : ℕ
most_symbols = 1024

-- the most rows of a block's first part
abbrev pub most_depth : ℕ
most_depth = 8

-- Each number is within its own limits.
abbrev pub InLimits : (k r t w : ℕ) → Type 0
InLimits k r t w =
    ((2 ≤ k) × (k ≤ most_needed)) × ((1 ≤ r) × (k + r ≤ most_boxes)) × ((2 ≤ t) × (t ≤ most_newcomers)) × ((1 ≤ w) × (w ≤ most_symbols))

-- There are enough helpers for the code, and boxes left for the newcomers; the first part is not too deep.
abbrev pub WellHelped : (k r d t : ℕ) → Type 0
WellHelped k r d t = (2 * k - 2 ≤ d) × (d + t ≤ k + r) × (d - k + 1 ≤ most_depth)

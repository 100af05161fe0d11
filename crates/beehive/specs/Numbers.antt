-- What follows from a stripe's numbers, and how its nodes and boxes are counted.
use Rattle.std.specs.Prelude.{ℕ, ◌+◌, ◌-◌, ◌*◌, ◌≤◌}
use Rattle.beehive.specs.declared.numbers.Numbers.{Numbers}

-- n, how many boxes there are
abbrev pub boxes : Numbers → ℕ
boxes N = N.k + N.r

-- α, the rows of a block's first part
abbrev pub alpha : Numbers → ℕ
alpha N = N.d - N.k + 1

-- the rows of a block's second part, t − 1
abbrev pub tail : Numbers → ℕ
tail N = N.t - 1

-- β, the rows of a block
abbrev pub beta : Numbers → ℕ
beta N = alpha N + tail N

-- x, how many virtual nodes stand before the boxes
abbrev pub virtuals : Numbers → ℕ
virtuals N = N.d + 2 - 2 * N.k

-- B, the rows of the data
abbrev pub data_rows : Numbers → ℕ
data_rows N = N.k * alpha N + (N.k - 1) * tail N

-- Boxes are counted from 1 to n, and nodes from 1 to n + x: the virtual ones first, and box i is node x + i.
abbrev pub Box : Numbers → ℕ → Type 0
Box N i = (1 ≤ i) × (i ≤ boxes N)

abbrev pub Node : Numbers → ℕ → Type 0
Node N s = (1 ≤ s) × (s ≤ virtuals N + boxes N)

abbrev pub Virtual : Numbers → ℕ → Type 0
Virtual N s = (1 ≤ s) × (s ≤ virtuals N)

abbrev pub node : Numbers → ℕ → ℕ
node N i = virtuals N + i

-- How many coefficients the polynomial has whose values are one row of the second parts.
abbrev pub tail_length : Numbers → ℕ
tail_length N = alpha N

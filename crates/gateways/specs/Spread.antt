-- What is asked of a record and of the gateways that answer.
use Rattle.std.specs.Prelude.{ℕ, ◌<◌, ◌≤◌, List, length, slice_index}

-- Each number of the list is below n.
abbrev pub AllBelow : ℕ → List ℕ → Type 0
AllBelow n xs = (k : ℕ) → k < length xs → slice_index xs k < n

-- Each number of the list is one of 1 to n.
abbrev pub Named : ℕ → List ℕ → Type 0
Named n xs = (k : ℕ) → k < length xs → (1 ≤ slice_index xs k) × (slice_index xs k ≤ n)

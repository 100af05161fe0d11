-- Laying a shelf out.
use Rattle.std.specs.Prelude.{ℕ, ◌*◌, [], replicate, Result, nat_le}
use Rattle.refusal.specs.declared.denial.Denial.{Denial}
use Rattle.refusal.specs.declared.denial.Denial.TheVariants.{Limit, Length}
use Rattle.refusal.specs.Checks.{check, and_then, if_ok}
use Rattle.shelf.specs.Limits.{in_limits}
use Rattle.shelf.specs.Model.{Model}
use Rattle.shelf.specs.Calls.{blank}

-- A shelf that is not laid out.
abbrev pub unlaid : Model
unlaid = record { rows = 1; width = 1; bits = 1; boxes = [] }

-- A shelf that was just laid out: every box stands, with rows of zeros.
abbrev pub laid : (boxes rows width bits : ℕ) → Model
laid boxes rows width bits = record { rows = rows; width = width; bits = bits; boxes = replicate boxes (blank rows width) }

-- `room` is the number of symbols of `bits` bits that the memory has room for.
abbrev pub lay_says : (boxes rows width bits room : ℕ) → Result Unit Denial
lay_says boxes rows width bits room =
    and_then (check (in_limits boxes rows width bits) Limit)
    (check (nat_le ((boxes * rows) * width) room) Length)

abbrev pub lay_does : Result Unit Denial → Model → (boxes rows width bits : ℕ) → Model
lay_does r m boxes rows width bits = if_ok r (laid boxes rows width bits) m

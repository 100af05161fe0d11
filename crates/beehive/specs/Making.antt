-- When a stripe's numbers are refused, and what they are if they are not.
use Rattle.std.specs.Prelude.{◌≡◌, ℕ, ◌⊎◌, Ok, Err, Result}
use Rattle.refusal.specs.declared.Denial.{Denial}
use Rattle.refusal.specs.declared.Denial.TheVariants.{Limit, Helpers}
use Rattle.beehive.specs.declared.numbers.Numbers.{Numbers}
use Rattle.beehive.specs.Limits.{InLimits, WellHelped}

-- The first check that fails is answered: each number's own limits, then what d has to be beside the others.
abbrev pub Judged : (k r d t w : ℕ) → Result Numbers Denial → Type 0
Judged k r d t w (Ok N) = (N.k ≡ k) × (N.r ≡ r) × (N.d ≡ d) × (N.t ≡ t) × (N.w ≡ w)
Judged k r d t w (Err e) = ((e ≡ Limit) × (InLimits k r t w → ⊥)) ⊎ ((e ≡ Helpers) × InLimits k r t w × (WellHelped k r d t → ⊥))

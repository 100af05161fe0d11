-- The numbers that a shelf tells.
use Rattle.std.proofs.Common.{◌≡◌, ℕ, true, ◌&&◌, leb}
use Rattle.std.proofs.lemmas.Bool.{and_from, cond-true}
use Rattle.shelf.specs.declared.shape.Shape.{Shape}
use Rattle.shelf.specs.Limits.{in_limits}
use Rattle.shelf.specs.Stored.{size, none, told}

-- Numbers in their limits, with room for them, are told.
pub told_is : (s : Shape) (room : ℕ) → in_limits s.boxes s.rows s.width s.bits ≡ true → leb (size s) room ≡ true → told s room ≡ s
told_is s room i h = cond-true (in_limits s.boxes s.rows s.width s.bits && leb (size s) room) s none (and_from (in_limits s.boxes s.rows s.width s.bits) (leb (size s) room) i h)

-- What each call on a shelf answers, and what it does.
use Rattle.std.specs.Prelude.{ℕ, ◌-◌, ◌^◌, Bool, true, ◌&&◌, List, [], ◌∷◌, length, replicate, Ok, Result, ◌==◌, nat_lt}
use Rattle.refusal.specs.declared.denial.Denial.{Denial}
use Rattle.refusal.specs.declared.denial.Denial.TheVariants.{Length, Range, Symbol, Dead}
use Rattle.refusal.specs.Checks.{check, and_then, if_ok}
use Rattle.shelf.specs.Limits.{within}
use Rattle.shelf.specs.Model.{Model, Box, standing, box_at, row_at, is_standing, with_box, with_row}

-- Every code is below n.
abbrev pub all_below : ℕ → List ℕ → Bool
all_below n [] = true
all_below n (x ∷ xs) = nat_lt x n && all_below n xs

-- Box b is one of the boxes; row `row` is one of its rows, and has n symbols.
abbrev pub placed : (boxes rows width b row n : ℕ) → Result Unit Denial
placed boxes rows width b row n =
    and_then (check (within b boxes) (Range b))
    (and_then (check (within row rows) (Range b))
    (check (n == width) Length))

abbrev pub coded : (bits : ℕ) → List ℕ → Result Unit Denial
coded bits vs = check (all_below (2 ^ bits) vs) Symbol

abbrev pub living : Bool → (b : ℕ) → Result Unit Denial
living alive b = check alive (Dead b)

abbrev pub alive : Model → ℕ → Bool
alive m b = is_standing (box_at m (b - 1))

-- Taking row `row` of box b into n cells.
abbrev pub take_says : Model → (b row n : ℕ) → Result Unit Denial
take_says m b row n = and_then (placed (length m.boxes) m.rows m.width b row n) (living (alive m b) b)

-- Row `row` of box b.
abbrev pub row_in : Model → (b row : ℕ) → List ℕ
row_in m b row = row_at (box_at m (b - 1)) (row - 1)

-- What the caller's buffer holds after a taking that was answered by r.
abbrev pub take_leaves : Result Unit Denial → Model → (b row : ℕ) → List ℕ → List ℕ
take_leaves r m b row out = if_ok r (row_in m b row) out

-- Putting the symbols vs as row `row` of box b.
abbrev pub put_says : Model → (b row : ℕ) → List ℕ → Result Unit Denial
put_says m b row vs =
    and_then (placed (length m.boxes) m.rows m.width b row (length vs))
    (and_then (coded m.bits vs)
    (living (alive m b) b))

abbrev pub with_row_in : Model → (b row : ℕ) → List ℕ → Model
with_row_in m b row vs = with_box m (b - 1) (with_row (box_at m (b - 1)) (row - 1) vs)

abbrev pub put_does : Result Unit Denial → Model → (b row : ℕ) → List ℕ → Model
put_does r m b row vs = if_ok r (with_row_in m b row vs) m

-- Killing, renewing and asking whether a box stands want only a box of the shelf.
abbrev pub box_says : Model → ℕ → Result Unit Denial
box_says m b = check (within b (length m.boxes)) (Range b)

abbrev pub box_does : Result Unit Denial → Model → ℕ → Box → Model
box_does r m b x = if_ok r (with_box m (b - 1) x) m

abbrev pub stands_says : Model → ℕ → Result Bool Denial
stands_says m b = and_then (box_says m b) (Ok (alive m b))

-- A box whose rows are all zeros.
abbrev pub blank : (rows width : ℕ) → Box
blank rows width = standing (replicate rows (replicate width 0))

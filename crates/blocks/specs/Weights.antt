-- The coefficients of the rows of boxes, by the closed forms of interpolation. The inverse of zero is read as zero, so that each
-- is defined for all boxes and lists.
use Rattle.std.specs.Prelude.{ℕ, suc, ◌+◌, ◌-◌, ◌*◌, ◌/◌, ◌%◌, cond, ◌&&◌, ◌==◌, nat_lt}
use Rattle.field.specs.Laws.{Ops}
use Rattle.algebra.specs.Poly.{sum, power, poly, factors, besides}
use Rattle.beehive.specs.declared.numbers.Numbers.{Numbers}
use Rattle.beehive.specs.Numbers.{alpha, beta, virtuals, node}
use Rattle.beehive.specs.Points.{point}
use Rattle.coder.specs.Points.{chosen_point, lagrange}

-- The points that a row's plan goes over: one more for a row of the first part.
abbrev pub points_used : Numbers → ℕ → ℕ
points_used N r = cond (nat_lt r (alpha N)) (alpha N + 1) (alpha N)

module _ {E : Type 0} (F : Ops E) where
  -- Of n + 1 points, v i j is the product of X + p c over all but i and j.
  module _ (n : ℕ) (p : ℕ → E) where
    abbrev pub others : ℕ → ℕ → ℕ → E
    others i j = factors F (besides i j) p (suc n)

    -- (μ(x) + μ(j)) / (μ(i) + μ(j)) · v(x) / (v(i) · v(j)), where μ is the n-th power; nothing for i = j
    abbrev pub share_weight : ℕ → ℕ → E → E
    share_weight i j x =
        F.mul (F.mul (F.add (power F x n) (power F (p j) n)) (F.inv (F.add (power F (p i) n) (power F (p j) n))))
        (F.mul (poly F n (others i j) x) (F.inv (F.mul (poly F n (others i j) (p i)) (poly F n (others i j) (p j)))))

    -- how often row l of node i goes into row q of the node at x
    abbrev pub row_weight : ℕ → ℕ → E → ℕ → E
    row_weight i l x q = sum F (suc n) (λ j. F.mul (F.mul (power F (p j) l) (share_weight i j x)) (others i j q))

  -- how often row l of box number i of the list goes into row r, of the first part and of the second, of the node at x
  abbrev pub first_weight : Numbers → (ℕ → E) → E → ℕ → ℕ → ℕ → E
  first_weight N p x r i l = cond (nat_lt l (alpha N)) (row_weight (alpha N) p (virtuals N + i) l x r) F.zero

  abbrev pub second_weight : Numbers → (ℕ → E) → E → ℕ → ℕ → ℕ → E
  second_weight N p x r i l = cond (l == r && nat_lt i (N.k - 1)) (poly F (alpha N) (lagrange F (alpha N) p (virtuals N + i)) x) F.zero

  -- the same for any row, and for any box from the boxes of a list: cell e is for row e % β of box number e / β
  abbrev pub row_from : Numbers → (ℕ → E) → E → ℕ → ℕ → ℕ → E
  row_from N p x r i l = cond (nat_lt r (alpha N)) (first_weight N p x r i l) (second_weight N p x r i l)

  abbrev pub from_boxes : Numbers → (ℕ → ℕ) → ℕ → ℕ → ℕ → E
  from_boxes N list to r e = row_from N (chosen_point F N list) (point F N (node N to)) r (e / beta N) (e % beta N)

  -- cell e of the grid of pairs: of the box of its row with the point of its column, coefficient q of what they give the node at x
  abbrev pub pair_cell : ℕ → (ℕ → E) → ℕ → E → ℕ → ℕ → E
  pair_cell n p virtuals x q e =
      F.mul (share_weight n p (virtuals + e / suc n) (e % suc n) x) (others n p (virtuals + e / suc n) (e % suc n) q)

  -- from a grid of m columns of pairs: the sum over row i of each weight times its point to the power l, for a row l of the first part
  abbrev pub grid_sum : ℕ → (ℕ → E) → (ℕ → E) → ℕ → ℕ → ℕ → E
  grid_sum m p pairs alpha i l = cond (nat_lt l alpha) (sum F m (λ j. F.mul (pairs (i * m + j)) (power F (p j) l))) F.zero

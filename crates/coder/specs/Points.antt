-- The points that plans go over, and their Lagrange polynomials. The inverse of zero is read as zero, so that all is defined for
-- all boxes and lists; a list shorter than it is read is followed by zeros.
use Rattle.std.specs.Prelude.{ℕ, suc, ◌-◌, cond, List, nat_lt, slice_index}
use Rattle.field.specs.Laws.{Ops}
use Rattle.algebra.specs.Poly.{poly, factors, besides}
use Rattle.beehive.specs.declared.numbers.Numbers.{Numbers}
use Rattle.beehive.specs.Numbers.{virtuals, node}
use Rattle.beehive.specs.Points.{point}

-- entry i of a list of boxes
abbrev pub listed : List ℕ → ℕ → ℕ
listed list i = slice_index list i

-- the virtual nodes, and after them the boxes of the list
abbrev pub chosen : Numbers → (ℕ → ℕ) → ℕ → ℕ
chosen N list i = cond (nat_lt i (virtuals N)) (suc i) (node N (list (i - virtuals N)))

module _ {E : Type 0} (F : Ops E) where
  -- the points of these nodes
  abbrev pub chosen_point : Numbers → (ℕ → ℕ) → ℕ → E
  chosen_point N list i = point F N (chosen N list i)

  -- The product of X + p c over all m points but point i, cut after n coefficients and divided by its value at point i.
  abbrev pub cut_lagrange : ℕ → ℕ → (ℕ → E) → ℕ → ℕ → E
  cut_lagrange n m p i k = F.mul (F.inv (poly F n (factors F (besides i i) p m) (p i))) (factors F (besides i i) p m k)

  -- The Lagrange polynomial of point i of m points, 1 there and 0 at the others: the same, of which m coefficients are all.
  abbrev pub lagrange : ℕ → (ℕ → E) → ℕ → ℕ → E
  lagrange m p = cut_lagrange m m p

-- The coefficients of a repair: of the segments that boxes send, and of the rows that are settled from them.
use Rattle.std.specs.Prelude.{ℕ, ◌+◌, ◌-◌, cond, nat_lt}
use Rattle.field.specs.Laws.{Ops}
use Rattle.algebra.specs.Poly.{sum, power, poly}
use Rattle.beehive.specs.declared.numbers.Numbers.{Numbers}
use Rattle.beehive.specs.Numbers.{alpha, tail, virtuals, node}
use Rattle.beehive.specs.Points.{point, powers, mu}
use Rattle.coder.specs.Points.{chosen_point, lagrange}

module _ {E : Type 0} (F : Ops E) (N : Numbers) where
  -- The segment from box i about box j, over the rows of box i: (μ(i) + μ(j))⁻¹ φ(j), and then h(j).
  abbrev pub help_weight : ℕ → ℕ → ℕ → E
  help_weight i j r =
      cond (nat_lt r (alpha N)) (F.mul (F.inv (F.add (mu F N (node N i)) (mu F N (node N j)))) (powers F N (node N j) r)) (powers F N (node N j) (r - alpha N))

  -- The Lagrange polynomials over the 2α points of the virtual nodes and the helpers: that of helper number i.
  abbrev pub helper_poly : (ℕ → ℕ) → ℕ → ℕ → E
  helper_poly helpers i = lagrange F (alpha N + alpha N) (chosen_point F N helpers) (virtuals N + i)

  -- What box j passes to box e, over the segments of its helpers: (μ(e) + μ(j))⁻¹ (μ(h) + μ(j)) L(p(e)) for the helper h.
  abbrev pub pass_weight : ℕ → ℕ → (ℕ → ℕ) → ℕ → E
  pass_weight j e helpers i =
      F.mul (F.inv (F.add (mu F N (node N e)) (mu F N (node N j))))
      (F.mul (F.add (mu F N (node N (helpers i))) (mu F N (node N j))) (poly F (alpha N + alpha N) (helper_poly helpers i) (point F N (node N e))))

  -- Row k of the first part of box j, over the same: the lower half of (μ(h) + μ(j)) L and μ(j) times its upper half.
  abbrev pub helper_share : ℕ → (ℕ → ℕ) → ℕ → ℕ → E
  helper_share j helpers i k =
      F.mul (F.add (mu F N (node N (helpers i))) (mu F N (node N j))) (F.add (helper_poly helpers i k) (F.mul (mu F N (node N j)) (helper_poly helpers i (alpha N + k))))

  -- The Lagrange polynomials over the points of the t − 1 other newcomers, which pass.
  abbrev pub pass_poly : (ℕ → ℕ) → ℕ → ℕ → E
  pass_poly others = lagrange F (tail N) (λ m. point F N (node N (others m)))

  -- What a share of the first part of box j is to the pass of the box at the point p, times the weight of that pass.
  abbrev pub pass_term : ℕ → (ℕ → E) → E → E → E
  pass_term j share p weight = F.mul (F.mul (F.inv (F.add (mu F N (node N j)) (power F p (alpha N)))) (poly F (alpha N) share p)) weight

  -- Row q of the second part of box j, over the segment of helper number i: what each pass holds of the first part is taken
  -- away, by the weight of the pass. Here for any points of the boxes that pass, and any weights.
  abbrev pub tail_over : ℕ → (ℕ → ℕ) → (ℕ → E) → (ℕ → E) → ℕ → E
  tail_over j helpers passes weights i = sum F (tail N) (λ m. pass_term j (helper_share j helpers i) (passes m) (weights m))

  abbrev pub second_over : ℕ → (ℕ → ℕ) → (ℕ → E) → (ℕ → E) → ℕ → E
  second_over j helpers passes weights c = cond (nat_lt c N.d) (tail_over j helpers passes weights c) (weights (c - N.d))

  -- Row r of box j over the segments of d helpers and then of t − 1 passes.
  abbrev pub settle_first : ℕ → (ℕ → ℕ) → ℕ → ℕ → E
  settle_first j helpers r c = cond (nat_lt c N.d) (helper_share j helpers c r) F.zero

  abbrev pub settle_second : ℕ → (ℕ → ℕ) → (ℕ → ℕ) → ℕ → ℕ → E
  settle_second j helpers others q = second_over j helpers (λ m. point F N (node N (others m))) (λ m. pass_poly others m q)

  abbrev pub settle_weight : ℕ → (ℕ → ℕ) → (ℕ → ℕ) → ℕ → ℕ → E
  settle_weight j helpers others r c = cond (nat_lt r (alpha N)) (settle_first j helpers r c) (settle_second j helpers others (r - alpha N) c)

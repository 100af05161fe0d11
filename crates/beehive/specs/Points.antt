-- The points of the nodes, and what is built from them. Everything else uses only that points differ and μ differ.
use Rattle.std.specs.Prelude.{◌≡◌, ℕ, ◌+◌, ◌^◌, ◌<◌, Ok, Err, Result}
use Rattle.refusal.specs.declared.Denial.{Denial}
use Rattle.refusal.specs.declared.Denial.TheVariants.{Points}
use Rattle.field.specs.Laws.{Ops}
use Rattle.algebra.specs.Poly.{sum, power}
use Rattle.beehive.specs.declared.numbers.Numbers.{Numbers}
use Rattle.beehive.specs.Numbers.{alpha, boxes, virtuals, Node}

-- the product of two vectors of n entries: f 0 · g 0 + .. + f (n − 1) · g (n − 1)
abbrev pub dot : {E : Type 0} → Ops E → ℕ → (ℕ → E) → (ℕ → E) → E
dot F n f g = sum F n (λ i. F.mul (f i) (g i))

module _ {E : Type 0} (F : Ops E) (N : Numbers) where
  -- the point p of node s: the element of code s
  abbrev pub point : ℕ → E
  point s = F.element s

  -- the powers 1, p, p², .. of the point of node s: φ(s) is the first α of them, and h(s) the first t − 1
  abbrev pub powers : ℕ → ℕ → E
  powers s i = power F (point s) i

  -- μ(s) = p^α
  abbrev pub mu : ℕ → E
  mu s = power F (point s) (alpha N)

  -- The field has a point for each node, and no two nodes agree in their point or in μ.
  pub record Suits : Type 0 where
    pub points_differ : (s u : ℕ) → Node N s → Node N u → point s ≡ point u → s ≡ u
    pub mus_differ : (s u : ℕ) → Node N s → Node N u → mu s ≡ mu u → s ≡ u

  -- The field has more elements than there are nodes, so that each node has its own point, not zero.
  abbrev pub Enough : Type 0
  Enough = virtuals N + boxes N < 2 ^ F.bits

  abbrev pub MusDiffer : Type 0
  MusDiffer = (s u : ℕ) → Node N s → Node N u → mu s ≡ mu u → s ≡ u

  -- The field is refused exactly where it has too few points, or two μ are equal; where it is accepted, it suits the numbers.
  abbrev pub Fitting : Result Unit Denial → Type 0
  Fitting (Ok _) = Enough × MusDiffer × Suits
  Fitting (Err e) = (e ≡ Points) × (Enough × MusDiffer → ⊥)

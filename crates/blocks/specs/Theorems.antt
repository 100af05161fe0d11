-- What the plans do, over every field that suits the stripe's numbers: applied to rows of lawful blocks each gives the lawful
-- row. For one symbol position; at w positions they hold at each by itself.
use Rattle.std.specs.Prelude.{◌≡◌, ℕ, suc, ◌*◌, ◌/◌, ◌%◌, ◌<◌}
use Rattle.field.specs.Laws.{Ops}
use Rattle.algebra.specs.Poly.{sum}
use Rattle.beehive.specs.declared.numbers.Numbers.{Numbers}
use Rattle.beehive.specs.Numbers.{beta, data_rows, Box, node}
use Rattle.beehive.specs.Points.{Suits}
use Rattle.beehive.specs.Rule.{Lawful, Holds}
use Rattle.beehive.specs.Theorems.{Boxes}
use Rattle.blocks.specs.Weights.{from_boxes}

module _ {E : Type 0} (F : Ops E) where
  -- Load: the rows of the data make each row of each box.
  abbrev pub LoadMakesBlocks : Type 0
  LoadMakesBlocks = (N : Numbers) → Suits F N → (blocks : ℕ → ℕ → E) (original : ℕ → E) → Lawful F N blocks → Holds F N blocks original →
      (i r : ℕ) → Box N i → r < beta N → sum F (data_rows N) (λ e. F.mul (from_boxes F N suc i r e) (original e)) ≡ blocks (node N i) r

  -- Any k boxes, in any order, make each row of each box.
  abbrev pub BoxesMakeBlocks : Type 0
  BoxesMakeBlocks = (N : Numbers) → Suits F N → (list : ℕ → ℕ) → Boxes N N.k list → (blocks : ℕ → ℕ → E) → Lawful F N blocks →
      (i r : ℕ) → Box N i → r < beta N →
      sum F (N.k * beta N) (λ c. F.mul (from_boxes F N list i r c) (blocks (node N (list (c / beta N))) (c % beta N))) ≡ blocks (node N i) r

  -- Read: so they make the data, whose row e is row e % β of box e / β + 1.
  abbrev pub ReadMakesData : Type 0
  ReadMakesData = (N : Numbers) → Suits F N → (list : ℕ → ℕ) → Boxes N N.k list → (blocks : ℕ → ℕ → E) (original : ℕ → E) → Lawful F N blocks → Holds F N blocks original →
      (e : ℕ) → e < data_rows N →
      sum F (N.k * beta N) (λ c. F.mul (from_boxes F N list (suc (e / beta N)) (e % beta N) c) (blocks (node N (list (c / beta N))) (c % beta N))) ≡ original e

-- What the plans do, over every field that suits the stripe's numbers: applied to rows or segments of lawful blocks each gives
-- the lawful segment or row. For one symbol position; at w positions they hold at each by itself.
use Rattle.std.specs.Prelude.{◌≡◌, ℕ, ◌+◌, ◌<◌, ◌≢◌}
use Rattle.field.specs.Laws.{Ops}
use Rattle.algebra.specs.Poly.{sum}
use Rattle.beehive.specs.declared.numbers.Numbers.{Numbers}
use Rattle.beehive.specs.Numbers.{tail, beta, Box, node}
use Rattle.beehive.specs.Points.{Suits}
use Rattle.beehive.specs.Rule.{Lawful, segment}
use Rattle.beehive.specs.Theorems.{Others}
use Rattle.repair.specs.Repair.{help_weight, pass_weight, settle_weight}

module _ {E : Type 0} (F : Ops E) where
  -- Help: the rows of box i make the segment from i about j, by the segment rule.
  abbrev pub HelpMakesSegments : Type 0
  HelpMakesSegments = (N : Numbers) (blocks : ℕ → ℕ → E) (i j : ℕ) →
      sum F (beta N) (λ r. F.mul (help_weight F N i j r) (blocks (node N i) r)) ≡ segment F N blocks (node N i) (node N j)

  -- Pass: the segments of d helpers about box j make the segment from box e about j.
  abbrev pub PassMakesSegments : Type 0
  PassMakesSegments = (N : Numbers) → Suits F N → (blocks : ℕ → ℕ → E) → Lawful F N blocks → (j e : ℕ) → Box N j → Box N e → (e ≢ j) →
      (helpers : ℕ → ℕ) → Others N j N.d helpers →
      sum F N.d (λ i. F.mul (pass_weight F N j e helpers i) (segment F N blocks (node N (helpers i)) (node N j))) ≡ segment F N blocks (node N e) (node N j)

  -- Settle: they make each row of box j, with the segments from j about t − 1 other boxes, which these passed to it.
  abbrev pub SettleMakesBlocks : Type 0
  SettleMakesBlocks = (N : Numbers) → Suits F N → (blocks : ℕ → ℕ → E) → Lawful F N blocks → (j r : ℕ) → Box N j → r < beta N →
      (helpers : ℕ → ℕ) → Others N j N.d helpers → (others : ℕ → ℕ) → Others N j (tail N) others →
      F.add (sum F N.d (λ i. F.mul (settle_weight F N j helpers others r i) (segment F N blocks (node N (helpers i)) (node N j))))
      (sum F (tail N) (λ m. F.mul (settle_weight F N j helpers others r (N.d + m)) (segment F N blocks (node N j) (node N (others m))))) ≡ blocks (node N j) r

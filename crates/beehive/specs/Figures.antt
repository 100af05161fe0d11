-- Figures of the rule that are known from outside: blocks and segments, by the codes of their symbols, w = 1.
use Rattle.std.specs.Prelude.{◌≡◌, ℕ, ◌<◌, List, [], ◌∷◌, slice_index}
use Rattle.std.proofs.Common.{lit≤}
use Rattle.field.specs.Laws.{Ops}
use Rattle.field.specs.Figures.{nibble, byte}
use Rattle.beehive.specs.declared.numbers.Numbers.{Numbers}
use Rattle.beehive.specs.Numbers.{beta, node}
use Rattle.beehive.specs.Rule.{Lawful, Holds, segment}

-- k = 3, r = 3, d = 4, t = 2: six boxes, none virtual
abbrev pub six_boxes : Numbers
six_boxes = record {
  k = 3;
  r = 3;
  d = 4;
  t = 2;
  w = 1;
  limits = ((lit≤ tt, lit≤ tt), (lit≤ tt, lit≤ tt), (lit≤ tt, lit≤ tt), (lit≤ tt, lit≤ tt));
  helped = (lit≤ tt, lit≤ tt, lit≤ tt);
}

-- k = 2, r = 3, d = 3, t = 2: five boxes after one virtual node
abbrev pub five_boxes : Numbers
five_boxes = record {
  k = 2;
  r = 3;
  d = 3;
  t = 2;
  w = 1;
  limits = ((lit≤ tt, lit≤ tt), (lit≤ tt, lit≤ tt), (lit≤ tt, lit≤ tt), (lit≤ tt, lit≤ tt));
  helped = (lit≤ tt, lit≤ tt, lit≤ tt);
}

abbrev pub eight_rows : List ℕ
eight_rows = 1 ∷ 1 ∷ 1 ∷ 1 ∷ 8 ∷ 2 ∷ 1 ∷ 15 ∷ []

abbrev pub five_rows : List ℕ
five_rows = 3 ∷ 9 ∷ 3 ∷ 2 ∷ 14 ∷ []

module _ {E : Type 0} (F : Ops E) (N : Numbers) where
  -- The lawful list for the data with these codes, whichever it is, has the property.
  abbrev pub LawfulList : List ℕ → ((ℕ → ℕ → E) → Type 0) → Type 0
  LawfulList codes P = (blocks : ℕ → ℕ → E) → Lawful F N blocks → Holds F N blocks (λ r. F.element (slice_index codes r)) → P blocks

  -- Box i's block has these codes.
  abbrev pub Shows : (ℕ → ℕ → E) → ℕ → List ℕ → Type 0
  Shows blocks i codes = (j : ℕ) → j < beta N → F.code (blocks (node N i) j) ≡ slice_index codes j

  -- The segment from box i about box j has this code.
  abbrev pub Sends : (ℕ → ℕ → E) → ℕ → ℕ → ℕ → Type 0
  Sends blocks i j code = F.code (segment F N blocks (node N i) (node N j)) ≡ code

pub record Figures : Type 0 where
  pub nibble_blocks : LawfulList nibble six_boxes eight_rows (λ b.
      Shows nibble six_boxes b 3 (1 ∷ 15 ∷ 3 ∷ []) × Shows nibble six_boxes b 4 (1 ∷ 12 ∷ 4 ∷ [])
      × Shows nibble six_boxes b 5 (1 ∷ 10 ∷ 5 ∷ []) × Shows nibble six_boxes b 6 (1 ∷ 1 ∷ 6 ∷ []))
  pub byte_blocks : LawfulList byte six_boxes eight_rows (λ b.
      Shows byte six_boxes b 4 (1 ∷ 64 ∷ 4 ∷ []) × Shows byte six_boxes b 5 (1 ∷ 85 ∷ 5 ∷ []) × Shows byte six_boxes b 6 (1 ∷ 120 ∷ 6 ∷ []))
  -- newcomers 1 and 2, helpers 3 to 6
  pub box_1_gets : LawfulList nibble six_boxes eight_rows (λ b.
      Sends nibble six_boxes b 3 1 9 × Sends nibble six_boxes b 4 1 11 × Sends nibble six_boxes b 5 1 13 × Sends nibble six_boxes b 6 1 6)
  pub box_2_gets : LawfulList nibble six_boxes eight_rows (λ b.
      Sends nibble six_boxes b 3 2 15 × Sends nibble six_boxes b 4 2 13 × Sends nibble six_boxes b 5 2 4 × Sends nibble six_boxes b 6 2 7)
  -- box 1 passes the segment from 2 about 1 to box 2, which passes the segment from 1 about 2 back
  pub passes : LawfulList nibble six_boxes eight_rows (λ b. Sends nibble six_boxes b 2 1 14 × Sends nibble six_boxes b 1 2 15)
  pub with_a_virtual_node : LawfulList nibble five_boxes five_rows (λ b.
      Shows nibble five_boxes b 3 (5 ∷ 13 ∷ 5 ∷ []) × Shows nibble five_boxes b 4 (4 ∷ 11 ∷ 4 ∷ []) × Shows nibble five_boxes b 5 (7 ∷ 0 ∷ 7 ∷ []))

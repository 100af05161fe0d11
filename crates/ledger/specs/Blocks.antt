-- Blocks and segments as rows of codes, given by the code rule's relation.
use Rattle.std.specs.Prelude.{◌≡◌, ℕ, ◌+◌, ◌*◌, List, slice_index}
use Rattle.field.specs.Laws.{Ops}
use Rattle.beehive.specs.declared.numbers.Numbers.{Numbers}
use Rattle.beehive.specs.Numbers.{beta, node}
use Rattle.beehive.specs.Rule.{LawfulRows, HoldsRows, segment}
use Rattle.shelf.specs.Stored.{tab}

module _ {E : Type 0} (F : Ops E) (N : Numbers) where
  -- The data as elements, by row and position; the codes follow row after row.
  abbrev pub symbols : List ℕ → ℕ → ℕ → E
  symbols original row q = F.element (slice_index original (row * N.w + q))

  -- The rows of box i as codes, of blocks that are given by node, row and position.
  abbrev pub block_rows : (ℕ → ℕ → ℕ → E) → ℕ → List (List ℕ)
  block_rows blocks i = tab (beta N) (λ j. tab N.w (λ q. F.code (blocks (node N i) j q)))

  -- The segment from box i about box j as codes.
  abbrev pub segment_codes : (ℕ → ℕ → ℕ → E) → (i j : ℕ) → List ℕ
  segment_codes blocks i j = tab N.w (λ q. F.code (segment F N (λ s r. blocks s r q) (node N i) (node N j)))

  -- The blocks are lawful, and their data are these.
  abbrev pub Lists : List ℕ → (ℕ → ℕ → ℕ → E) → Type 0
  Lists original blocks = LawfulRows F N blocks × HoldsRows F N blocks (symbols original)

  -- The rows are exactly the block that the code rule gives to box i for the data: there is a lawful list for the data, and in every
  -- one box i has these rows.
  abbrev pub IsBlock : List ℕ → (i : ℕ) → List (List ℕ) → Type 0
  IsBlock original i rows =
      ((blocks : ℕ → ℕ → ℕ → E) × Lists original blocks)
      × ((blocks : ℕ → ℕ → ℕ → E) → Lists original blocks → rows ≡ block_rows blocks i)

  -- The row is exactly the segment from box i about box j for the data.
  abbrev pub IsSegment : List ℕ → (i j : ℕ) → List ℕ → Type 0
  IsSegment original i j row =
      ((blocks : ℕ → ℕ → ℕ → E) × Lists original blocks)
      × ((blocks : ℕ → ℕ → ℕ → E) → Lists original blocks → row ≡ segment_codes blocks i j)

  -- A choice of a lawful list for each data. There is one, and any two agree on all boxes (specs/Laws); the ledger speaks of blocks
  -- through it, so that nothing is said of how they are computed.
  pub record Encoder : Type 0 where
    pub blocks : List ℕ → ℕ → ℕ → ℕ → E
    pub lists : (original : List ℕ) → Lists original (blocks original)

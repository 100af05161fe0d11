-- What holds of the code rule over every field that suits the stripe's numbers.
use Rattle.std.specs.Prelude.{◌≡◌, ℕ, ◌<◌, ◌≢◌}
use Rattle.field.specs.Laws.{Ops}
use Rattle.algebra.specs.Poly.{Same}
use Rattle.beehive.specs.declared.numbers.Numbers.{Numbers}
use Rattle.beehive.specs.Numbers.{alpha, tail, beta, data_rows, Box, Node, Virtual, node}
use Rattle.beehive.specs.Points.{dot, powers, mu, Suits}
use Rattle.beehive.specs.Rule.{first, second, Lawful, Holds, LawfulRows, HoldsRows, SameBlocks, segment}

-- The first m of the numbers are pairwise different.
abbrev pub Different : ℕ → (ℕ → ℕ) → Type 0
Different m f = (i j : ℕ) → i < m → j < m → f i ≡ f j → i ≡ j

-- m different boxes, in any order.
abbrev pub Boxes : Numbers → ℕ → (ℕ → ℕ) → Type 0
Boxes N m list = ((i : ℕ) → i < m → Box N (list i)) × Different m list

-- m different boxes, none of which is j.
abbrev pub Others : Numbers → ℕ → ℕ → (ℕ → ℕ) → Type 0
Others N j m list = Boxes N m list × ((i : ℕ) → i < m → list i ≢ j)

module _ {E : Type 0} (F : Ops E) where
  -- For every data there is a lawful list of blocks, and only one.
  abbrev pub OneLawfulList : Type 0
  OneLawfulList = (N : Numbers) → Suits F N → (original : ℕ → E)
      → ((blocks : ℕ → ℕ → E) × Lawful F N blocks × Holds F N blocks original)
      × ((a b : ℕ → ℕ → E) → Lawful F N a → Holds F N a original → Lawful F N b → Holds F N b original → SameBlocks F N a b)

  -- The same of rows of w symbols.
  abbrev pub OneLawfulListOfRows : Type 0
  OneLawfulListOfRows = (N : Numbers) → Suits F N → (original : ℕ → ℕ → E)
      → ((blocks : ℕ → ℕ → ℕ → E) × LawfulRows F N blocks × HoldsRows F N blocks original)
      × ((a b : ℕ → ℕ → ℕ → E) → LawfulRows F N a → HoldsRows F N a original → LawfulRows F N b → HoldsRows F N b original
      → (q : ℕ) → q < N.w → SameBlocks F N (λ s j. a s j q) (λ s j. b s j q))

  -- Any k boxes of a lawful list, in any order, fix the data, and with them all blocks.
  abbrev pub AnyKFixTheData : Type 0
  AnyKFixTheData = (N : Numbers) → Suits F N → (list : ℕ → ℕ) → Boxes N N.k list
      → (a b : ℕ → ℕ → E) → Lawful F N a → Lawful F N b
      → ((i j : ℕ) → i < N.k → j < beta N → a (node N (list i)) j ≡ b (node N (list i)) j)
      → SameBlocks F N a b × ((x y : ℕ → E) → Holds F N a x → Holds F N b y → Same (data_rows N) x y)

  module _ (N : Numbers) where
    -- what a segment from s about j says of b = b(j) and y = y(j): (μ(s) − μ(j))⁻¹ (φ(s)·b) + φ(s)·y
    abbrev pub aligned : ℕ → ℕ → (ℕ → E) → (ℕ → E) → E
    aligned s j b y =
        F.add (F.mul (F.inv (F.add (mu F N s) (mu F N j))) (dot F (alpha N) (powers F N s) b)) (dot F (alpha N) (powers F N s) y)

    -- b and y meet the d segments that the helpers sent to box j, and the zero segments of the virtual nodes.
    pub record Meets (j : ℕ) (helpers : ℕ → ℕ) (sent : ℕ → E) (b y : ℕ → E) : Type 0 where
      pub helped : (i : ℕ) → i < N.d → aligned (node N (helpers i)) (node N j) b y ≡ sent i
      pub virtual : (s : ℕ) → Virtual N s → aligned s (node N j) b y ≡ F.zero

  -- For some y(j), the segment from any node about j has that form.
  abbrev pub SegmentsAlign : Type 0
  SegmentsAlign = (N : Numbers) → Suits F N → (blocks : ℕ → ℕ → E) → Lawful F N blocks → (j : ℕ) → Node N j
      → (y : ℕ → E) × ((s : ℕ) → Node N s → (s ≢ j) → segment F N blocks s j ≡ aligned N s j (first F N blocks j) y)

  -- d segments and the zero segments of the virtual nodes fix b(j) and y(j).
  abbrev pub HelpersFixTheFirstPart : Type 0
  HelpersFixTheFirstPart = (N : Numbers) → Suits F N → (j : ℕ) → Box N j → (helpers : ℕ → ℕ) → Others N j N.d helpers
      → (sent b y b' y' : ℕ → E) → Meets N j helpers sent b y → Meets N j helpers sent b' y' → Same (alpha N) b b' × Same (alpha N) y y'

  -- b(j), and the segments from j about t − 1 other boxes, which these pass to it, fix c(j).
  abbrev pub PassesFixTheSecondPart : Type 0
  PassesFixTheSecondPart = (N : Numbers) → Suits F N → (j : ℕ) → Box N j → (others : ℕ → ℕ) → Others N j (tail N) others
      → (a b : ℕ → ℕ → E) → Same (alpha N) (first F N a (node N j)) (first F N b (node N j))
      → ((i : ℕ) → i < tail N → segment F N a (node N j) (node N (others i)) ≡ segment F N b (node N j) (node N (others i)))
      → Same (tail N) (second F N a (node N j)) (second F N b (node N j))

-- The code rule, for one symbol position; at w positions it holds at each by itself.
use Rattle.std.specs.Prelude.{◌≡◌, ℕ, suc, ◌+◌, ◌*◌, ◌<◌}
use Rattle.field.specs.Laws.{Ops}
use Rattle.beehive.specs.declared.numbers.Numbers.{Numbers}
use Rattle.beehive.specs.Numbers.{alpha, tail, beta, data_rows, tail_length, Box, Node, Virtual, node}
use Rattle.beehive.specs.Points.{dot, powers, mu}

-- The n by n matrix is symmetric.
abbrev pub Symmetric : {E : Type 0} → ℕ → (ℕ → ℕ → E) → Type 0
Symmetric n A = (i j : ℕ) → i < n → j < n → A i j ≡ A j i

module _ {E : Type 0} (F : Ops E) (N : Numbers) where
  -- Blocks are given by node and row: a block's first α rows are b, and the t − 1 rows after them are c.
  abbrev pub first : (ℕ → ℕ → E) → ℕ → ℕ → E
  first blocks s j = blocks s j

  abbrev pub second : (ℕ → ℕ → E) → ℕ → ℕ → E
  second blocks s q = blocks s (alpha N + q)

  -- Column j of φ(s) · A.
  abbrev pub phi_times : ℕ → (ℕ → ℕ → E) → ℕ → E
  phi_times s A j = dot F (alpha N) (powers F N s) (λ i. A i j)

  -- The blocks are lawful: there are symmetric S and T, and Z, with b(s) = φ·S + μ·φ·T and c(s) = φ·Z at every node s,
  -- and the blocks of the virtual nodes are zero.
  pub record Lawful (blocks : ℕ → ℕ → E) : Type 0 where
    pub S : ℕ → ℕ → E
    pub T : ℕ → ℕ → E
    pub Z : ℕ → ℕ → E
    pub s_symmetric : Symmetric (alpha N) S
    pub t_symmetric : Symmetric (alpha N) T
    pub first_part : (s j : ℕ) → Node N s → j < alpha N → first blocks s j ≡ F.add (phi_times s S j) (F.mul (mu F N s) (phi_times s T j))
    pub second_part : (s q : ℕ) → Node N s → q < tail N → second blocks s q ≡ dot F (tail_length N) (powers F N s) (λ i. Z i q)
    pub virtual_zero : (s j : ℕ) → Virtual N s → j < beta N → blocks s j ≡ F.zero

  -- The data are the rows of boxes 1 to k, row after row, up to the last of b(k): box k's second part is computed, not data.
  abbrev pub Holds : (ℕ → ℕ → E) → (ℕ → E) → Type 0
  Holds blocks original =
      (i j : ℕ) → i < N.k → j < beta N → i * beta N + j < data_rows N → blocks (node N (suc i)) j ≡ original (i * beta N + j)

  -- The two have the same blocks in all boxes.
  abbrev pub SameBlocks : (ℕ → ℕ → E) → (ℕ → ℕ → E) → Type 0
  SameBlocks a b = (i j : ℕ) → Box N i → j < beta N → a (node N i) j ≡ b (node N i) j

  -- The segment from node i about node j: h(j)·c(i) + (μ(i) − μ(j))⁻¹ (φ(j)·b(i)), where − is +. A helper i sends it to
  -- the newcomer j; in a pass, newcomer j sends to newcomer e the segment from e about j.
  abbrev pub segment : (ℕ → ℕ → E) → ℕ → ℕ → E
  segment blocks i j =
      F.add (dot F (tail N) (powers F N j) (second blocks i))
      (F.mul (F.inv (F.add (mu F N i) (mu F N j))) (dot F (alpha N) (powers F N j) (first blocks i)))

  -- At w symbol positions.
  abbrev pub LawfulRows : (ℕ → ℕ → ℕ → E) → Type 0
  LawfulRows blocks = (q : ℕ) → q < N.w → Lawful (λ s j. blocks s j q)

  abbrev pub HoldsRows : (ℕ → ℕ → ℕ → E) → (ℕ → ℕ → E) → Type 0
  HoldsRows blocks original = (q : ℕ) → q < N.w → Holds (λ s j. blocks s j q) (λ r. original r q)

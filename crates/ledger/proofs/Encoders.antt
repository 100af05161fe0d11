-- Two lawful lists for the same data have the same rows and segments.
use Rattle.std.proofs.Common.{◌≡◌, ℕ, ◌+◌, ◌<◌, List, ap, ap₂, arith}
use Rattle.field.specs.Laws.{Ops, Laws}
use Rattle.algebra.proofs.Sum.{sum_cong}
use Rattle.beehive.specs.declared.numbers.Numbers.{Numbers}
use Rattle.beehive.specs.Numbers.{alpha, tail, beta, Box, node}
use Rattle.beehive.specs.Points.{dot, powers, mu, Suits}
use Rattle.beehive.specs.Rule.{segment}
use Rattle.beehive.proofs.Exists.{one_list_of_rows}
use Rattle.shelf.specs.Stored.{tab}
use Rattle.shelf.proofs.Tabs.{tab_cong}
use Rattle.ledger.specs.Blocks.{symbols, block_rows, segment_codes, Lists, IsBlock, IsSegment, Encoder}
use Rattle.ledger.specs.Laws.{OneEncoder}

dot_cong : {E : Type 0} (F : Ops E) (n : ℕ) (f g h : ℕ → E) → ((i : ℕ) → i < n → g i ≡ h i) → dot F n f g ≡ dot F n f h
dot_cong F n f g h e = sum_cong F n (λ i. F.mul (f i) (g i)) (λ i. F.mul (f i) (h i)) (λ i l. ap (F.mul (f i)) (e i l))

module _ {E : Type 0} {F : Ops E} (laws : Laws F) (N : Numbers) (suits : Suits F N) (xs : List ℕ) where
  some_list : (blocks : ℕ → ℕ → ℕ → E) × Lists F N xs blocks
  some_list = let o = (one_list_of_rows laws N suits (symbols F N xs)).0 in (o.0, (o.1, o.2))

  module _ (a b : ℕ → ℕ → ℕ → E) (la : Lists F N xs a) (lb : Lists F N xs b) where
    agree : (q : ℕ) → q < N.w → (i j : ℕ) → Box N i → j < beta N → a (node N i) j q ≡ b (node N i) j q
    agree = (one_list_of_rows laws N suits (symbols F N xs)).1 a b la.0 la.1 lb.0 lb.1

    pub same_rows : (i : ℕ) → Box N i → block_rows F N a i ≡ block_rows F N b i
    same_rows i box =
        tab_cong (beta N) (λ j. tab N.w (λ q. F.code (a (node N i) j q))) (λ j. tab N.w (λ q. F.code (b (node N i) j q)))
        (λ j l. tab_cong N.w (λ q. F.code (a (node N i) j q)) (λ q. F.code (b (node N i) j q)) (λ q m. ap F.code (agree q m i j box l)))

    pub same_segment : (i j : ℕ) → Box N i → segment_codes F N a i j ≡ segment_codes F N b i j
    same_segment i j box =
        tab_cong N.w (λ q. F.code (segment F N (λ s r. a s r q) (node N i) (node N j))) (λ q. F.code (segment F N (λ s r. b s r q) (node N i) (node N j)))
        (λ q m. ap F.code (ap₂ F.add
        (dot_cong F (tail N) (powers F N (node N j)) (λ c. a (node N i) (alpha N + c) q) (λ c. b (node N i) (alpha N + c) q) (λ c l. agree q m i (alpha N + c) box (omega arith)))
        (ap (F.mul (F.inv (F.add (mu F N (node N i)) (mu F N (node N j)))))
        (dot_cong F (alpha N) (powers F N (node N j)) (λ c. a (node N i) c q) (λ c. b (node N i) c q) (λ c l. agree q m i c box (omega arith))))))

  pub a_block : (code : Encoder F N) (i : ℕ) → Box N i → IsBlock F N xs i (block_rows F N (code.blocks xs) i)
  a_block code i box = (some_list, λ blocks l. same_rows (code.blocks xs) blocks (code.lists xs) l i box)

  pub a_segment : (code : Encoder F N) (i j : ℕ) → Box N i → IsSegment F N xs i j (segment_codes F N (code.blocks xs) i j)
  a_segment code i j box = (some_list, λ blocks l. same_segment (code.blocks xs) blocks (code.lists xs) l i j box)

pub one_encoder : {E : Type 0} {F : Ops E} → Laws F → OneEncoder F
unfolding some_list
one_encoder laws N suits = (
  record { blocks = λ xs. (some_list laws N suits xs).0; lists = λ xs. (some_list laws N suits xs).1 },
  λ a b xs. (same_rows laws N suits xs (a.blocks xs) (b.blocks xs) (a.lists xs) (b.lists xs), same_segment laws N suits xs (a.blocks xs) (b.blocks xs) (a.lists xs) (b.lists xs)),
)

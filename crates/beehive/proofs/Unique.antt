-- The first parts of k boxes and the second parts of k − 1 of them fix all blocks, and so the data.
use Rattle.std.proofs.Common.{◌≡◌, ℕ, zero, suc, ◌+◌, ◌-◌, ◌*◌, ◌<◌, ◌≤◌, ◌⊎◌, sym, ap, ◌∙◌, inl, inr, suc-mul, mul-add, arith}
use Rattle.std.proofs.lemmas.Bool.{cases_lt}
use Rattle.field.specs.Laws.{Ops, Laws}
use Rattle.algebra.specs.Poly.{Same}
use Rattle.algebra.proofs.Poly.{poly_cong}
use Rattle.beehive.specs.declared.numbers.Numbers.{Numbers}
use Rattle.beehive.specs.Numbers.{alpha, tail, beta, virtuals, data_rows, Node, node}
use Rattle.beehive.specs.Points.{point, Suits}
use Rattle.beehive.specs.Rule.{first, second, Lawful, Holds, SameBlocks}
use Rattle.beehive.specs.Theorems.{Boxes, AnyKFixTheData}
use Rattle.beehive.proofs.Nodes.{needed, needed_less, box_node, fewer_boxes, chosen, chosen_virtual, chosen_high, chosen_node, chosen_different, points_apart, mus_apart}
use Rattle.beehive.proofs.Values.{agree}
use Rattle.beehive.proofs.Forms.{same_share}
use Rattle.beehive.proofs.Parts.{first_is, second_is}

-- a number below k · n as row j of box i
pub split_row : (n k r : ℕ) → r < k * n → (i : ℕ) × (j : ℕ) × (i < k) × (j < n) × (i * n + j ≡ r)
split_row n zero r l = absurd (omega (arith))
split_row n (suc k) r l = go (cases_lt r (k * n)) (split_row n k r)
  where
    go : (r < k * n) ⊎ (k * n ≤ r) → (r < k * n → (i : ℕ) × (j : ℕ) × (i < k) × (j < n) × (i * n + j ≡ r)) → (i : ℕ) × (j : ℕ) × (i < suc k) × (j < n) × (i * n + j ≡ r)
    go (inl h) rec = let s = rec h in let b : s.0 < k = s.2 in (s.0, s.1, omega arith, s.3, s.4)
    go (inr h) rec = (k, r - k * n, omega arith, omega (arith, suc-mul k n), omega arith)

-- k · β is B and the rows of box k's second part
pub all_rows : (N : Numbers) → N.k * beta N ≡ data_rows N + tail N
all_rows N =
    let e : N.k ≡ suc (N.k - 1) = omega arith in
    let m : N.k * tail N ≡ suc (N.k - 1) * tail N = ap (λ q. q * tail N) e in
    omega (arith, mul-add N.k (alpha N) (tail N), suc-mul (N.k - 1) (tail N))

module _ {E : Type 0} {F : Ops E} (L : Laws F) where
  module _ (N : Numbers) (suits : Suits F N) (list : ℕ → ℕ) (some : Boxes N N.k list) (a b : ℕ → ℕ → E) (la : Lawful F N a) (lb : Lawful F N b) where
    fewer : Boxes N (N.k - 1) list
    fewer = fewer_boxes N N.k (N.k - 1) list (omega arith) some

    -- what the boxes of the list have in common the virtual nodes have too
    with_virtual : (m j : ℕ) → j < beta N → ((i : ℕ) → i < m → a (node N (list i)) j ≡ b (node N (list i)) j) →
        (i : ℕ) → i < virtuals N + m → a (chosen N list i) j ≡ b (chosen N list i) j
    with_virtual m j l h i k = go (cases_lt i (virtuals N))
      where
        go : (i < virtuals N) ⊎ (virtuals N ≤ i) → a (chosen N list i) j ≡ b (chosen N list i) j
        go (inl o) = rw (chosen_virtual N list i o) (la.virtual_zero (suc i) j (omega arith, omega arith) l ∙ sym (lb.virtual_zero (suc i) j (omega arith, omega arith) l))
        go (inr o) = rw (chosen_high N list i o) (h (i - virtuals N) (omega arith))

    pub first_fixed : ((i j : ℕ) → i < N.k → j < alpha N → a (node N (list i)) j ≡ b (node N (list i)) j) →
        (s : ℕ) → Node N s → Same (alpha N) (first F N a s) (first F N b s)
    first_fixed h s real j l =
        first_is L N a la s real j l ∙
        same_share L (alpha N) (λ i. point F N (chosen N list i))
        (λ i k u v e. points_apart F N suits (virtuals N + N.k) (chosen N list) there different i k (omega (arith, needed N)) (omega (arith, needed N)) e)
        (λ i k u v e. mus_apart F N suits (virtuals N + N.k) (chosen N list) there different i k (omega (arith, needed N)) (omega (arith, needed N)) e)
        la.S la.T lb.S lb.T la.s_symmetric la.t_symmetric lb.s_symmetric lb.t_symmetric
        (λ i q u v.
        let r : i < virtuals N + N.k = omega (arith, needed N) in
        sym (first_is L N a la (chosen N list i) (there i r) q v) ∙ with_virtual N.k q (omega arith) (λ c w. h c q w v) i r ∙ first_is L N b lb (chosen N list i) (there i r) q v)
        (point F N s) j l ∙
        sym (first_is L N b lb s real j l)
      where
        there : (i : ℕ) → i < virtuals N + N.k → Node N (chosen N list i)
        there = chosen_node N N.k list some

        different : (i j : ℕ) → i < virtuals N + N.k → j < virtuals N + N.k → chosen N list i ≡ chosen N list j → i ≡ j
        different = chosen_different N N.k list some

    pub second_fixed : ((i q : ℕ) → i < N.k - 1 → q < tail N → second F N a (node N (list i)) q ≡ second F N b (node N (list i)) q) →
        (s : ℕ) → Node N s → Same (tail N) (second F N a s) (second F N b s)
    second_fixed h s real q l =
        second_is L N a la s real q l ∙
        poly_cong F (alpha N) (λ i. la.Z i q) (λ i. lb.Z i q) (point F N s)
        (agree L (alpha N) (λ i. point F N (chosen N list i)) (λ i. la.Z i q) (λ i. lb.Z i q)
        (λ i k u v e. points_apart F N suits (virtuals N + (N.k - 1)) (chosen N list) there (chosen_different N (N.k - 1) list fewer) i k (omega (arith, needed_less N)) (omega (arith, needed_less N)) e)
        (λ i u.
        let r : i < virtuals N + (N.k - 1) = omega (arith, needed_less N) in
        sym (second_is L N a la (chosen N list i) (there i r) q l) ∙
        with_virtual (N.k - 1) (alpha N + q) (omega arith) (λ c w. h c q w l) i r ∙
        second_is L N b lb (chosen N list i) (there i r) q l)) ∙
        sym (second_is L N b lb s real q l)
      where
        there : (i : ℕ) → i < virtuals N + (N.k - 1) → Node N (chosen N list i)
        there = chosen_node N (N.k - 1) list fewer

    -- the two lists have the same blocks
    pub fixed : ((i j : ℕ) → i < N.k → j < alpha N → a (node N (list i)) j ≡ b (node N (list i)) j) →
        ((i q : ℕ) → i < N.k - 1 → q < tail N → second F N a (node N (list i)) q ≡ second F N b (node N (list i)) q) → SameBlocks F N a b
    fixed h g i j box l = go (cases_lt j (alpha N))
      where
        go : (j < alpha N) ⊎ (alpha N ≤ j) → a (node N i) j ≡ b (node N i) j
        go (inl o) = first_fixed h (node N i) (box_node N i box) j o
        go (inr o) =
            let e : j ≡ alpha N + (j - alpha N) = omega arith in
            ap (a (node N i)) e ∙ second_fixed g (node N i) (box_node N i box) (j - alpha N) (omega arith) ∙ ap (b (node N i)) (sym e)

  -- the data of the same blocks are the same
  pub same_data : (N : Numbers) (a b : ℕ → ℕ → E) → SameBlocks F N a b → (x y : ℕ → E) → Holds F N a x → Holds F N b y → Same (data_rows N) x y
  same_data N a b same x y hx hy r l =
      let s = split_row (beta N) N.k r (omega (arith, all_rows N)) in
      let bi : s.0 < N.k = s.2 in
      let e : s.0 * beta N + s.1 ≡ r = s.4 in
      let o : s.0 * beta N + s.1 < data_rows N = rw e l in
      ap x (sym e) ∙ sym (hx s.0 s.1 bi s.3 o) ∙ same (suc s.0) s.1 (omega arith, omega arith) s.3 ∙ hy s.0 s.1 bi s.3 o ∙ ap y e

  pub any_k : AnyKFixTheData F
  any_k N suits list some a b la lb h =
      let same = fixed N suits list some a b la lb (λ i j l m. h i j l (omega arith)) (λ i q l m. h i (alpha N + q) (omega arith) (omega arith)) in
      (same, same_data N a b same)

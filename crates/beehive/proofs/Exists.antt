-- For every data there is a lawful list of blocks: S and T by the closed form, Z by interpolation, over the first nodes.
use Rattle.std.proofs.Common.{◌≡◌, ℕ, zero, suc, ◌+◌, ◌-◌, ◌*◌, ◌<◌, ◌≤◌, cond, ltb, ◌⊎◌, sym, ap, ◌∙◌, inl, inr, mul-le-mul_right, suc-mul, mul-add, arith}
use Rattle.std.proofs.lemmas.Bool.{lt-ltb, le-ltb, cases_lt, cases_eq, cond-true, cond-false}
use Rattle.field.specs.Laws.{Ops, Laws}
use Rattle.algebra.specs.Poly.{power, poly, Apart}
use Rattle.algebra.proofs.Interpolation.{existence}
use Rattle.beehive.specs.declared.numbers.Numbers.{Numbers}
use Rattle.beehive.specs.Numbers.{alpha, tail, beta, virtuals, data_rows, Virtual, node}
use Rattle.beehive.specs.Points.{point, Suits}
use Rattle.beehive.specs.Rule.{Lawful, Holds, SameBlocks}
use Rattle.beehive.specs.Theorems.{OneLawfulList, OneLawfulListOfRows}
use Rattle.beehive.proofs.Values.{dot_poly}
use Rattle.beehive.proofs.Forms.{share}
use Rattle.beehive.proofs.Parts.{share_is}
use Rattle.beehive.proofs.Pairs.{S, T, s_symmetric, t_symmetric, share_closed, closed_here}
use Rattle.beehive.proofs.Repair.{joined, joined_low, joined_high}
use Rattle.beehive.proofs.Unique.{fixed}

-- only the boxes before the k-th have second parts that are data
early : (N : Numbers) (i j : ℕ) → i < N.k → alpha N ≤ j → i * beta N + j < data_rows N → i < N.k - 1
early N i j l m o = go (cases_eq i (N.k - 1))
  where
    go : (i ≡ N.k - 1) ⊎ (i ≡ N.k - 1 → ⊥) → i < N.k - 1
    go (inr ne) = omega arith
    go (inl e) =
        let c : N.k ≡ suc (N.k - 1) = omega arith in
        let a : N.k * alpha N ≡ suc (N.k - 1) * alpha N = ap (λ q. q * alpha N) c in
        let r : i * beta N ≡ (N.k - 1) * beta N = ap (λ q. q * beta N) e in
        absurd (omega (arith, suc-mul (N.k - 1) (alpha N), mul-add (N.k - 1) (alpha N) (tail N)))

-- the first part of box i, and the second one unless it is box k's, are data
pub first_data : (N : Numbers) (i j : ℕ) → i < N.k → j < alpha N → i * beta N + j < data_rows N
first_data N i j l m =
    let c : N.k ≡ suc (N.k - 1) = omega arith in
    let a : N.k * alpha N ≡ suc (N.k - 1) * alpha N = ap (λ q. q * alpha N) c in
    let r : i * beta N ≤ (N.k - 1) * beta N = mul-le-mul_right (beta N) (omega arith) in
    omega (arith, suc-mul (N.k - 1) (alpha N), mul-add (N.k - 1) (alpha N) (tail N))

pub second_data : (N : Numbers) (i j : ℕ) → i < N.k - 1 → j < beta N → i * beta N + j < data_rows N
second_data N i j l m =
    let c : N.k ≡ suc (N.k - 1) = omega arith in
    let a : N.k * alpha N ≡ suc (N.k - 1) * alpha N = ap (λ q. q * alpha N) c in
    let r : suc i * beta N ≤ (N.k - 1) * beta N = mul-le-mul_right (beta N) (omega arith) in
    omega (arith, suc-mul (N.k - 1) (alpha N), mul-add (N.k - 1) (alpha N) (tail N), suc-mul i (beta N))

module _ {E : Type 0} {F : Ops E} (L : Laws F) where
  module _ (N : Numbers) (suits : Suits F N) (original : ℕ → E) where
    -- row j of node i + 1, a virtual node or a box that has data
    held : ℕ → ℕ → E
    held i j = cond (ltb i (virtuals N)) F.zero (original ((i - virtuals N) * beta N + j))

    held_virtual : (i j : ℕ) → i < virtuals N → held i j ≡ F.zero
    unfolding held
    held_virtual i j l = cond-true (ltb i (virtuals N)) F.zero (original ((i - virtuals N) * beta N + j)) (lt-ltb i (virtuals N) l)

    held_box : (i j : ℕ) → held (virtuals N + i) j ≡ original (i * beta N + j)
    unfolding held
    held_box i j =
        let e : virtuals N + i - virtuals N ≡ i = omega arith in
        cond-false (ltb (virtuals N + i) (virtuals N)) F.zero (original ((virtuals N + i - virtuals N) * beta N + j)) (le-ltb (virtuals N + i) (virtuals N) (omega arith)) ∙
        ap (λ q. original (q * beta N + j)) e

    p : ℕ → E
    p i = point F N (suc i)

    ps : Apart (suc (alpha N)) p
    unfolding p
    ps i j l h e = let z : suc i ≡ suc j = suits.points_differ (suc i) (suc j) (omega arith, omega arith) (omega arith, omega arith) e in omega arith

    ms : Apart (suc (alpha N)) (λ i. power F (p i) (alpha N))
    unfolding p
    ms i j l h e = let z : suc i ≡ suc j = suits.mus_differ (suc i) (suc j) (omega arith, omega arith) (omega arith, omega arith) e in omega arith

    fewer : Apart (alpha N) p
    fewer i j l h e = ps i j (omega arith) (omega arith) e

    column : (q : ℕ) → (f : ℕ → E) × ((i : ℕ) → i < alpha N → poly F (alpha N) f (p i) ≡ held i (alpha N + q))
    column q = existence L (alpha N) p (λ i. held i (alpha N + q)) fewer

    Sₒ : ℕ → ℕ → E
    Sₒ = S L (alpha N) p ps ms held

    Tₒ : ℕ → ℕ → E
    Tₒ = T L (alpha N) p ps ms held

    -- the blocks
    pub made : ℕ → ℕ → E
    made s = joined (alpha N) (share F (alpha N) Sₒ Tₒ (point F N s)) (λ q. poly F (alpha N) (column q).0 (point F N s))

    made_first : (s j : ℕ) → j < alpha N → made s j ≡ share F (alpha N) Sₒ Tₒ (point F N s) j
    unfolding made
    made_first s j l = joined_low (alpha N) (share F (alpha N) Sₒ Tₒ (point F N s)) (λ q. poly F (alpha N) (column q).0 (point F N s)) j l

    made_second : (s q : ℕ) → made s (alpha N + q) ≡ poly F (alpha N) (column q).0 (point F N s)
    unfolding made
    made_second s q = joined_high (alpha N) (share F (alpha N) Sₒ Tₒ (point F N s)) (λ q. poly F (alpha N) (column q).0 (point F N s)) q

    first_here : (i j : ℕ) → i < suc (alpha N) → j < alpha N → made (suc i) j ≡ held i j
    unfolding Sₒ Tₒ p
    first_here i j l m = made_first (suc i) j m ∙ share_closed L (alpha N) p ps ms held (p i) j ∙ closed_here L (alpha N) p ps ms held i l j m

    second_here : (i q : ℕ) → i < alpha N → made (suc i) (alpha N + q) ≡ held i (alpha N + q)
    unfolding p
    second_here i q l = made_second (suc i) q ∙ (column q).1 i l

    here : (i j : ℕ) → i < suc (alpha N) → j < beta N → (alpha N ≤ j → i < alpha N) → made (suc i) j ≡ held i j
    here i j l m o = go (cases_lt j (alpha N))
      where
        go : (j < alpha N) ⊎ (alpha N ≤ j) → made (suc i) j ≡ held i j
        go (inl h) = first_here i j l h
        go (inr h) =
            let e : j ≡ alpha N + (j - alpha N) = omega arith in
            ap (made (suc i)) e ∙ second_here i (j - alpha N) (o h) ∙ ap (held i) (sym e)

    zero_here : (s j : ℕ) → Virtual N s → j < beta N → made s j ≡ F.zero
    zero_here zero j v l = absurd (omega arith)
    zero_here (suc i) j v l = here i j (omega arith) l (λ h. omega arith) ∙ held_virtual i j (omega arith)

    pub made_lawful : Lawful F N made
    unfolding Sₒ Tₒ
    made_lawful = record {
      S = Sₒ;
      T = Tₒ;
      Z = λ i q. (column q).0 i;
      s_symmetric = s_symmetric L (alpha N) p ps ms held;
      t_symmetric = t_symmetric L (alpha N) p ps ms held;
      first_part = λ s j real l. made_first s j l ∙ sym (share_is L N Sₒ Tₒ s j);
      second_part = λ s q real l. made_second s q ∙ sym (dot_poly L N (alpha N) s (column q).0);
      virtual_zero = zero_here;
    }

    pub made_holds : Holds F N made original
    made_holds i j l m o =
        let e : node N (suc i) ≡ suc (virtuals N + i) = omega arith in
        ap (λ s. made s j) e ∙ here (virtuals N + i) j (omega arith) m (λ h. let r = early N i j l h o in omega arith) ∙ held_box i j

    -- and no other list holds these data
    pub one_only : (a b : ℕ → ℕ → E) → Lawful F N a → Holds F N a original → Lawful F N b → Holds F N b original → SameBlocks F N a b
    one_only a b la ha lb hb =
        fixed L N suits suc (λ i l. (omega arith, omega arith), λ i j l h e. omega arith) a b la lb
        (λ i j l m. ha i j l (omega arith) (first_data N i j l m) ∙ sym (hb i j l (omega arith) (first_data N i j l m)))
        (λ i q l m.
        let o = second_data N i (alpha N + q) l (omega arith) in
        ha i (alpha N + q) (omega arith) (omega arith) o ∙ sym (hb i (alpha N + q) (omega arith) (omega arith) o))

  pub one_list : OneLawfulList F
  one_list N suits original = ((made N suits original, made_lawful N suits original, made_holds N suits original), one_only N suits original)

  pub one_list_of_rows : OneLawfulListOfRows F
  one_list_of_rows N suits original = (
    (λ s j q. made N suits (λ r. original r q) s j, λ q l. made_lawful N suits (λ r. original r q), λ q l. made_holds N suits (λ r. original r q)),
    λ a b la ha lb hb q l. one_only N suits (λ r. original r q) (λ s j. a s j q) (λ s j. b s j q) (la q l) (ha q l) (lb q l) (hb q l),
  )

-- The closed forms for lawful blocks: each node's rows as sums over the rows of any α + 1 nodes (first parts) or α nodes (second parts).
use Rattle.std.proofs.Common.{◌≡◌, ℕ, suc, ◌+◌, ◌-◌, ◌<◌, sym, ap, ◌∙◌, arith}
use Rattle.field.specs.Laws.{Ops, Laws}
use Rattle.algebra.specs.Poly.{sum, power, poly, Apart, Same, Lagrange}
use Rattle.algebra.proofs.Ring.{ring, zero_add, zero_mul}
use Rattle.algebra.proofs.Sum.{sum_cong, sum_zero, sum_mul, mul_sum, sum_swap, sum_split}
use Rattle.algebra.proofs.Poly.{poly_is}
use Rattle.algebra.proofs.Interpolation.{interpolation}
use Rattle.beehive.specs.declared.numbers.Numbers.{Numbers}
use Rattle.beehive.specs.Numbers.{alpha, tail, virtuals, Node, node}
use Rattle.beehive.specs.Points.{point, Suits}
use Rattle.beehive.specs.Rule.{first, second, Lawful}
use Rattle.beehive.specs.Theorems.{Different, Boxes}
use Rattle.beehive.proofs.Nodes.{needed, needed_less, chosen, chosen_virtual, chosen_box, chosen_node, chosen_different, points_apart, mus_apart}
use Rattle.beehive.proofs.Forms.{share, same_share}
use Rattle.beehive.proofs.Parts.{first_is, second_is}
use Rattle.beehive.proofs.Pairs.{others, share_weight, S, T, s_symmetric, t_symmetric, closed, share_closed, closed_here}

module _ {E : Type 0} (F : Ops E) (n : ℕ) (p : ℕ → E) where
  -- how often row l of node i goes into row q of the node at x
  unfoldable pub row_weight : ℕ → ℕ → E → ℕ → E
  row_weight i l x q = sum F (suc n) (λ j. F.mul (F.mul (power F (p j) l) (share_weight F n p i j x)) (others F n p i j q))

module _ {E : Type 0} {F : Ops E} (L : Laws F) where
  open F use {add as ◌⊕◌, mul as ◌⊗◌, zero as 𝟎, one as 𝟏}

  infixl 60 ◌⊕◌
  infixl 70 ◌⊗◌
  -- the closed form, row by row
  pub closed_rows : (n : ℕ) (p : ℕ → E) (held : ℕ → ℕ → E) (x : E) (q : ℕ) → closed F n p held x q ≡ sum F (suc n) (λ i. sum F n (λ l. held i l ⊗ row_weight F n p i l x q))
  unfolding closed row_weight
  closed_rows n p held x q =
      sum_cong F (suc n) (λ i. sum F (suc n) (λ j. (poly F n (held i) (p j) ⊗ w i j) ⊗ o i j)) (λ i. sum F n (λ l. held i l ⊗ sum F (suc n) (λ j. (power F (p j) l ⊗ w i j) ⊗ o i j))) (λ i h. turn i)
    where
      w : ℕ → ℕ → E
      w i j = share_weight F n p i j x

      o : ℕ → ℕ → E
      o i j = others F n p i j q

      order : (a b c d : E) → (a ⊗ b) ⊗ (c ⊗ d) ≡ a ⊗ ((b ⊗ c) ⊗ d)
      order a b c d = simp (ring, L)

      assoc : (a c d : E) → (a ⊗ c) ⊗ d ≡ a ⊗ (c ⊗ d)
      assoc a c d = L.mul_assoc a c d

      turn : (i : ℕ) → sum F (suc n) (λ j. (poly F n (held i) (p j) ⊗ w i j) ⊗ o i j) ≡ sum F n (λ l. held i l ⊗ sum F (suc n) (λ j. (power F (p j) l ⊗ w i j) ⊗ o i j))
      turn i =
          sum_cong F (suc n) (λ j. (poly F n (held i) (p j) ⊗ w i j) ⊗ o i j) (λ j. sum F n (λ l. held i l ⊗ ((power F (p j) l ⊗ w i j) ⊗ o i j)))
          (λ j h. assoc (poly F n (held i) (p j)) (w i j) (o i j) ∙ ap (λ v. v ⊗ (w i j ⊗ o i j)) (poly_is F n (held i) (p j)) ∙
          sum_mul L n (λ l. held i l ⊗ power F (p j) l) (w i j ⊗ o i j) ∙
          sum_cong F n (λ l. (held i l ⊗ power F (p j) l) ⊗ (w i j ⊗ o i j)) (λ l. held i l ⊗ ((power F (p j) l ⊗ w i j) ⊗ o i j)) (λ l k. order (held i l) (power F (p j) l) (w i j) (o i j))) ∙
          sum_swap L (suc n) n (λ j l. held i l ⊗ ((power F (p j) l ⊗ w i j) ⊗ o i j)) ∙
          sum_cong F n (λ l. sum F (suc n) (λ j. held i l ⊗ ((power F (p j) l ⊗ w i j) ⊗ o i j))) (λ l. held i l ⊗ sum F (suc n) (λ j. (power F (p j) l ⊗ w i j) ⊗ o i j))
          (λ l k. sym (mul_sum L (suc n) (held i l) (λ j. (power F (p j) l ⊗ w i j) ⊗ o i j)))

  -- a sum over the virtual nodes, whose terms are zero, and the boxes of a list
  pub boxes_only : (N : Numbers) (m : ℕ) (f : ℕ → E) → ((i : ℕ) → i < virtuals N → f i ≡ 𝟎) → sum F (virtuals N + m) f ≡ sum F m (λ i. f (virtuals N + i))
  boxes_only N m f h = sum_split L (virtuals N) m f ∙ ap (λ v. v ⊕ sum F m (λ i. f (virtuals N + i))) (sum_zero L (virtuals N) f h) ∙ zero_add L _

  module _ (N : Numbers) (suits : Suits F N) (blocks : ℕ → ℕ → E) (lawful : Lawful F N blocks) where
    -- Any α + 1 different nodes.
    module _ (nodes : ℕ → ℕ) (real : (i : ℕ) → i < suc (alpha N) → Node N (nodes i)) (different : Different (suc (alpha N)) nodes) where
      p : ℕ → E
      p i = point F N (nodes i)

      ps : Apart (suc (alpha N)) p
      unfolding p
      ps = points_apart F N suits (suc (alpha N)) nodes real different

      ms : Apart (suc (alpha N)) (λ i. power F (p i) (alpha N))
      unfolding p
      ms = mus_apart F N suits (suc (alpha N)) nodes real different

      held : ℕ → ℕ → E
      held i = first F N blocks (nodes i)

      same : (i j : ℕ) → i < suc (alpha N) → j < alpha N →
          share F (alpha N) lawful.S lawful.T (p i) j ≡ share F (alpha N) (S L (alpha N) p ps ms held) (T L (alpha N) p ps ms held) (p i) j
      unfolding p held
      same i j l m =
          sym (first_is L N blocks lawful (nodes i) (real i l) j m) ∙
          sym (share_closed L (alpha N) p ps ms held (p i) j ∙ closed_here L (alpha N) p ps ms held i l j m)

      pub closed_form : (s : ℕ) → Node N s →
          Same (alpha N) (first F N blocks s) (closed F (alpha N) (λ i. point F N (nodes i)) (λ i. first F N blocks (nodes i)) (point F N s))
      unfolding p held
      closed_form s there j l =
          first_is L N blocks lawful s there j l ∙
          same_share L (alpha N) p ps ms lawful.S lawful.T (S L (alpha N) p ps ms held) (T L (alpha N) p ps ms held)
          lawful.s_symmetric lawful.t_symmetric (s_symmetric L (alpha N) p ps ms held) (t_symmetric L (alpha N) p ps ms held) same (point F N s) j l ∙
          share_closed L (alpha N) p ps ms held (point F N s) j

    -- The first part of any node from those of any k boxes: the virtual nodes hold nothing.
    pub first_from_boxes : (list : ℕ → ℕ) → Boxes N N.k list → (s q : ℕ) → Node N s → q < alpha N →
        first F N blocks s q ≡ sum F N.k (λ i. sum F (alpha N) (λ l.
        first F N blocks (node N (list i)) l ⊗ row_weight F (alpha N) (λ c. point F N (chosen N list c)) (virtuals N + i) l (point F N s) q))
    first_from_boxes list some s q there h =
        closed_form (chosen N list) (λ i l. chosen_node N N.k list some i (omega (arith, needed N)))
        (λ i j l m e. chosen_different N N.k list some i j (omega (arith, needed N)) (omega (arith, needed N)) e) s there q h ∙
        closed_rows (alpha N) (λ c. point F N (chosen N list c)) (λ i. first F N blocks (chosen N list i)) (point F N s) q ∙
        ap (λ m. sum F m (term)) (sym (needed N)) ∙
        boxes_only N N.k term (λ i l. sum_zero L (alpha N) _ (λ r m.
        ap (λ v. v ⊗ weight i r) (ap (λ c. first F N blocks c r) (chosen_virtual N list i l) ∙ lawful.virtual_zero (suc i) r (omega arith, omega arith) (omega arith)) ∙ zero_mul L (weight i r))) ∙
        sum_cong F N.k (λ i. term (virtuals N + i)) (λ i. sum F (alpha N) (λ l. first F N blocks (node N (list i)) l ⊗ weight (virtuals N + i) l))
        (λ i l. ap (λ c. sum F (alpha N) (λ l. first F N blocks c l ⊗ weight (virtuals N + i) l)) (chosen_box N list i))
      where
        weight : ℕ → ℕ → E
        weight i l = row_weight F (alpha N) (λ c. point F N (chosen N list c)) i l (point F N s) q

        term : ℕ → E
        term i = sum F (alpha N) (λ l. first F N blocks (chosen N list i) l ⊗ weight i l)

    -- The second part of any node from those of any k − 1 boxes, by any Lagrange polynomials over the virtual and these points.
    pub second_from_boxes : (list : ℕ → ℕ) → Boxes N (N.k - 1) list → (l : ℕ → ℕ → E) → Lagrange F (alpha N) (λ c. point F N (chosen N list c)) l →
        (s q : ℕ) → Node N s → q < tail N →
        second F N blocks s q ≡ sum F (N.k - 1) (λ i. second F N blocks (node N (list i)) q ⊗ poly F (alpha N) (l (virtuals N + i)) (point F N s))
    second_from_boxes list some l lagrange s q there h =
        second_is L N blocks lawful s there q h ∙
        (interpolation L (alpha N) (λ c. point F N (chosen N list c)) (λ c. second F N blocks (chosen N list c) q) l
        (λ i j u v e. points_apart F N suits (virtuals N + (N.k - 1)) (chosen N list) real (chosen_different N (N.k - 1) list some) i j (omega (arith, needed_less N)) (omega (arith, needed_less N)) e)
        lagrange).1 (λ i. lawful.Z i q) (λ i u. sym (second_is L N blocks lawful (chosen N list i) (real i (omega (arith, needed_less N))) q h)) (point F N s) ∙
        ap (λ m. sum F m term) (sym (needed_less N)) ∙
        boxes_only N (N.k - 1) term (λ i u.
        ap (λ v. v ⊗ poly F (alpha N) (l i) (point F N s)) (ap (λ c. second F N blocks c q) (chosen_virtual N list i u) ∙ lawful.virtual_zero (suc i) (alpha N + q) (omega arith, omega arith) (omega arith)) ∙
        zero_mul L (poly F (alpha N) (l i) (point F N s))) ∙
        sum_cong F (N.k - 1) (λ i. term (virtuals N + i)) (λ i. second F N blocks (node N (list i)) q ⊗ poly F (alpha N) (l (virtuals N + i)) (point F N s))
        (λ i u. ap (λ c. second F N blocks c q ⊗ poly F (alpha N) (l (virtuals N + i)) (point F N s)) (chosen_box N list i))
      where
        real : (i : ℕ) → i < virtuals N + (N.k - 1) → Node N (chosen N list i)
        real = chosen_node N (N.k - 1) list some

        term : ℕ → E
        term c = second F N blocks (chosen N list c) q ⊗ poly F (alpha N) (l c) (point F N s)

-- The rows of k boxes of a lawful list, by the weights of the plan, make the rows of every box.
use Rattle.std.proofs.Common.{◌≡◌, ℕ, zero, suc, ◌+◌, ◌-◌, ◌*◌, ◌/◌, ◌%◌, ◌<◌, ◌≤◌, cond, ◌&&◌, eqb, ltb, sym, refl, ap, ◌∙◌, ap₂, ⊎_elim, mod-lt, suc-mul, div-add-mod', zero-mul as zero_times, mul-add as times_plus, arith}
use lib.Arith.{digits_div, digits_mod}
use Rattle.std.proofs.lemmas.Bool.{lt-ltb, le-ltb, cases_lt, eq-eqb, ne_eqb, cond-true, cond-false, and_from, and_left, and_right}
use Rattle.field.specs.Laws.{Ops, Laws}
use Rattle.algebra.specs.Poly.{sum, poly, Apart}
use Rattle.algebra.proofs.Ring.{add_zero, zero_mul, mul_comm}
use Rattle.algebra.proofs.Sum.{sum_none, sum_more, sum_cong, sum_zero, sum_split, sum_single}
use Rattle.coder.proofs.Formulas.{chosen_lagrange}
use Rattle.beehive.specs.declared.numbers.Numbers.{Numbers}
use Rattle.beehive.specs.Numbers.{alpha, tail, beta, virtuals, data_rows, Box, node}
use Rattle.beehive.specs.Points.{point, Suits}
use Rattle.beehive.specs.Rule.{Lawful, Holds}
use Rattle.beehive.specs.Theorems.{Boxes}
use Rattle.beehive.proofs.Nodes.{needed_less, box_node, fewer_boxes, points_apart, chosen_node, chosen_different, chosen as chosen_nodes}
use Rattle.beehive.proofs.Pairs.{share_weight as closed_share}
use Rattle.beehive.proofs.Closed.{row_weight as closed_weight, first_from_boxes, second_from_boxes}
use Rattle.coder.specs.Points.{chosen_point, lagrange}
use Rattle.blocks.specs.Weights.{row_weight, first_weight, second_weight, row_from, from_boxes}
use Rattle.blocks.specs.Theorems.{LoadMakesBlocks, BoxesMakeBlocks, ReadMakesData}
use Rattle.coder.proofs.Indices.{row_of}

module _ {E : Type 0} {F : Ops E} (L : Laws F) where
  open F use {add as ◌⊕◌, mul as ◌⊗◌, zero as 𝟎}

  infixl 60 ◌⊕◌
  infixl 70 ◌⊗◌
  -- a sum over a grid, row by row
  pub sum_grid : (k m : ℕ) (f : ℕ → ℕ → E) → sum F (k * m) (λ c. f (c / m) (c % m)) ≡ sum F k (λ i. sum F m (λ l. f i l))
  sum_grid zero m f = ap (λ n. sum F n (λ c. f (c / m) (c % m))) (zero_times m) ∙ sum_none F (λ c. f (c / m) (c % m)) ∙ sym (sum_none F (λ i. sum F m (λ l. f i l)))
  sum_grid (suc k) m f =
      ap (λ n. sum F n (λ c. f (c / m) (c % m))) (suc-mul k m) ∙ sum_split L (k * m) m (λ c. f (c / m) (c % m)) ∙
      ap₂ F.add (sum_grid k m f) (sum_cong F m (λ l. f ((k * m + l) / m) ((k * m + l) % m)) (λ l. f k l) (λ l b. ap₂ f (digits_div k b) (digits_mod k b))) ∙
      sym (sum_more F k (λ i. sum F m (λ l. f i l)))

  weight_is : (N : Numbers) (list : ℕ → ℕ) (i l : ℕ) (x : E) (q : ℕ) →
      row_weight F (alpha N) (chosen_point F N list) i l x q ≡ closed_weight F (alpha N) (λ c. point F N (chosen_nodes N list c)) i l x q
  unfolding closed_weight closed_share chosen_nodes
  weight_is N list i l x q = refl

  module _ (N : Numbers) (suits : Suits F N) (list : ℕ → ℕ) (some : Boxes N N.k list) (blocks : ℕ → ℕ → E) (lawful : Lawful F N blocks) (i : ℕ) (box : Box N i) where
    x : E
    x = point F N (node N i)

    held : ℕ → ℕ → E
    held a l = blocks (node N (list a)) l

    one_box_first : (r a : ℕ) → sum F (beta N) (λ l. first_weight F N (chosen_point F N list) x r a l ⊗ held a l) ≡
        sum F (alpha N) (λ l. held a l ⊗ closed_weight F (alpha N) (λ c. point F N (chosen_nodes N list c)) (virtuals N + a) l x r)
    one_box_first r a =
        sum_split L (alpha N) (tail N) (λ l. first_weight F N (chosen_point F N list) x r a l ⊗ held a l) ∙
        ap₂ F.add
        (sum_cong F (alpha N) (λ l. first_weight F N (chosen_point F N list) x r a l ⊗ held a l) (λ l. held a l ⊗ closed_weight F (alpha N) (λ c. point F N (chosen_nodes N list c)) (virtuals N + a) l x r)
        (λ l b. ap (λ v. v ⊗ held a l) (cond-true (ltb l (alpha N)) (row_weight F (alpha N) (chosen_point F N list) (virtuals N + a) l x r) 𝟎 (lt-ltb l (alpha N) b) ∙ weight_is N list (virtuals N + a) l x r) ∙
        mul_comm L (closed_weight F (alpha N) (λ c. point F N (chosen_nodes N list c)) (virtuals N + a) l x r) (held a l)))
        (sum_zero L (tail N) (λ q. first_weight F N (chosen_point F N list) x r a (alpha N + q) ⊗ held a (alpha N + q))
        (λ q b. ap (λ v. v ⊗ held a (alpha N + q)) (cond-false (ltb (alpha N + q) (alpha N)) (row_weight F (alpha N) (chosen_point F N list) (virtuals N + a) (alpha N + q) x r) 𝟎 (le-ltb (alpha N + q) (alpha N) (omega arith))) ∙
        zero_mul L (held a (alpha N + q)))) ∙
        add_zero L _

    value : ℕ → E
    value a = poly F (alpha N) (lagrange F (alpha N) (chosen_point F N list) (virtuals N + a)) x

    one_box_second : (r a : ℕ) → r < beta N → sum F (beta N) (λ l. second_weight F N (chosen_point F N list) x r a l ⊗ held a l) ≡ cond (ltb a (N.k - 1)) (held a r ⊗ value a) 𝟎
    unfolding value
    one_box_second r a h =
        sum_single L (beta N) (λ l. second_weight F N (chosen_point F N list) x r a l ⊗ held a l) r h
        (λ l b ne. ap (λ v. v ⊗ held a l) (cond-false (eqb l r && ltb a (N.k - 1)) (value a) 𝟎 (and_left (eqb l r) (ltb a (N.k - 1)) (ne_eqb l r ne))) ∙ zero_mul L (held a l)) ∙
        ⊎_elim
        (λ b. ap (λ v. v ⊗ held a r) (cond-true (eqb r r && ltb a (N.k - 1)) (value a) 𝟎 (and_from (eqb r r) (ltb a (N.k - 1)) (eq-eqb r r refl) (lt-ltb a (N.k - 1) b))) ∙
        mul_comm L (value a) (held a r) ∙ sym (cond-true (ltb a (N.k - 1)) (held a r ⊗ value a) 𝟎 (lt-ltb a (N.k - 1) b)))
        (λ b. ap (λ v. v ⊗ held a r) (cond-false (eqb r r && ltb a (N.k - 1)) (value a) 𝟎 (and_right (eqb r r) (ltb a (N.k - 1)) (le-ltb a (N.k - 1) b))) ∙
        zero_mul L (held a r) ∙ sym (cond-false (ltb a (N.k - 1)) (held a r ⊗ value a) 𝟎 (le-ltb a (N.k - 1) b)))
        (cases_lt a (N.k - 1))

    first_row : (r : ℕ) → r < alpha N → sum F N.k (λ a. sum F (beta N) (λ l. row_from F N (chosen_point F N list) x r a l ⊗ held a l)) ≡ blocks (node N i) r
    unfolding held x
    first_row r h =
        sum_cong F N.k (λ a. sum F (beta N) (λ l. row_from F N (chosen_point F N list) x r a l ⊗ held a l))
        (λ a. sum F (alpha N) (λ l. held a l ⊗ closed_weight F (alpha N) (λ c. point F N (chosen_nodes N list c)) (virtuals N + a) l x r))
        (λ a b. sum_cong F (beta N) (λ l. row_from F N (chosen_point F N list) x r a l ⊗ held a l) (λ l. first_weight F N (chosen_point F N list) x r a l ⊗ held a l)
        (λ l u. ap (λ v. v ⊗ held a l) (cond-true (ltb r (alpha N)) (first_weight F N (chosen_point F N list) x r a l) (second_weight F N (chosen_point F N list) x r a l) (lt-ltb r (alpha N) h))) ∙ one_box_first r a) ∙
        sym (first_from_boxes L N suits blocks lawful list some (node N i) r (box_node N i box) h)

    second_row : (r : ℕ) → alpha N ≤ r → r < beta N → sum F N.k (λ a. sum F (beta N) (λ l. row_from F N (chosen_point F N list) x r a l ⊗ held a l)) ≡ blocks (node N i) r
    unfolding held x value
    second_row r h u =
        sum_cong F N.k (λ a. sum F (beta N) (λ l. row_from F N (chosen_point F N list) x r a l ⊗ held a l)) (λ a. cond (ltb a (N.k - 1)) (held a r ⊗ value a) 𝟎)
        (λ a b. sum_cong F (beta N) (λ l. row_from F N (chosen_point F N list) x r a l ⊗ held a l) (λ l. second_weight F N (chosen_point F N list) x r a l ⊗ held a l)
        (λ l v. ap (λ v. v ⊗ held a l) (cond-false (ltb r (alpha N)) (first_weight F N (chosen_point F N list) x r a l) (second_weight F N (chosen_point F N list) x r a l) (le-ltb r (alpha N) h))) ∙ one_box_second r a u) ∙
        ap (λ n. sum F n (λ a. cond (ltb a (N.k - 1)) (held a r ⊗ value a) 𝟎)) (ek) ∙
        sum_more F (N.k - 1) (λ a. cond (ltb a (N.k - 1)) (held a r ⊗ value a) 𝟎) ∙
        ap₂ F.add (sum_cong F (N.k - 1) (λ a. cond (ltb a (N.k - 1)) (held a r ⊗ value a) 𝟎) (λ a. held a r ⊗ value a) (λ a b. cond-true (ltb a (N.k - 1)) (held a r ⊗ value a) 𝟎 (lt-ltb a (N.k - 1) b)))
        (cond-false (ltb (N.k - 1) (N.k - 1)) (held (N.k - 1) r ⊗ value (N.k - 1)) 𝟎 (le-ltb (N.k - 1) (N.k - 1) (omega arith))) ∙
        add_zero L _ ∙
        ap (λ q. sum F (N.k - 1) (λ a. held a q ⊗ value a)) er ∙
        sym (second_from_boxes L N suits blocks lawful list fewer (lagrange F (alpha N) (chosen_point F N list)) (chosen_lagrange L N list (alpha N) apart) (node N i) (r - alpha N) (box_node N i box) (omega arith)) ∙
        ap (blocks (node N i)) (sym er)
      where
        ek : N.k ≡ suc (N.k - 1)
        ek = omega arith

        er : r ≡ alpha N + (r - alpha N)
        er = omega arith

        fewer : Boxes N (N.k - 1) list
        fewer = fewer_boxes N N.k (N.k - 1) list (omega arith) some

        apart : Apart (alpha N) (λ c. point F N (chosen_nodes N list c))
        apart a b l m e = points_apart F N suits (virtuals N + (N.k - 1)) (chosen_nodes N list) (chosen_node N (N.k - 1) list fewer) (chosen_different N (N.k - 1) list fewer) a b
            (omega (arith, needed_less N)) (omega (arith, needed_less N)) e

    pub row_made : (r : ℕ) → r < beta N → sum F (N.k * beta N) (λ c. from_boxes F N list i r c ⊗ blocks (node N (list (c / beta N))) (c % beta N)) ≡ blocks (node N i) r
    unfolding held x
    row_made r h =
        sum_grid N.k (beta N) (λ a l. row_from F N (chosen_point F N list) x r a l ⊗ held a l) ∙
        ⊎_elim (λ b. first_row r b) (λ b. second_row r b h) (cases_lt r (alpha N))

  pub boxes_make : BoxesMakeBlocks F
  boxes_make N suits list some blocks lawful i r box h = row_made N suits list some blocks lawful i box r h

  -- the rows of k blocks: the data's, and the second part of box k
  all_rows : (N : Numbers) → N.k * beta N ≡ data_rows N + tail N
  all_rows N = omega (arith, times_plus N.k (alpha N) (tail N), ap (λ n. n * tail N) ek ∙ suc-mul (N.k - 1) (tail N))
    where
      ek : N.k ≡ suc (N.k - 1)
      ek = omega arith

  -- where the second part of box k stands
  last_rows : (N : Numbers) (m : ℕ) → data_rows N + m ≡ (N.k - 1) * beta N + (alpha N + m)
  last_rows N m = omega (arith, times_plus (N.k - 1) (alpha N) (tail N), ap (λ n. n * alpha N) ek ∙ suc-mul (N.k - 1) (alpha N))
    where
      ek : N.k ≡ suc (N.k - 1)
      ek = omega arith

  -- row e of the data stands in box e / β + 1
  row_in_box : (N : Numbers) (e : ℕ) → e < data_rows N → e / beta N < N.k
  row_in_box N e l = row_of e N.k (beta N) (omega arith) (omega (arith, all_rows N))

  data_row : (N : Numbers) (blocks : ℕ → ℕ → E) (original : ℕ → E) → Holds F N blocks original → (e : ℕ) → e < data_rows N → blocks (node N (suc (e / beta N))) (e % beta N) ≡ original e
  data_row N blocks original holds e l =
      let d : e / beta N * beta N + e % beta N ≡ e = div-add-mod' e (beta N) in
      holds (e / beta N) (e % beta N) (row_in_box N e l) (mod-lt e (omega arith)) (omega arith) ∙ ap original d

  pub read_makes : ReadMakesData F
  read_makes N suits list some blocks original lawful holds e l =
      row_made N suits list some blocks lawful (suc (e / beta N)) (omega arith, omega (arith, row_in_box N e l)) (e % beta N) (mod-lt e (omega arith)) ∙
      data_row N blocks original holds e l

  -- no plan takes the second part of box k
  last_zero : (N : Numbers) (list : ℕ → ℕ) (i r m : ℕ) → m < tail N → from_boxes F N list i r (data_rows N + m) ≡ 𝟎
  last_zero N list i r m l =
      ap (λ e. from_boxes F N list i r e) (last_rows N m) ∙
      ap₂ (λ a b. row_from F N (chosen_point F N list) (point F N (node N i)) r a b) (digits_div (N.k - 1) h) (digits_mod (N.k - 1) h) ∙
      ⊎_elim
      (λ b. cond-true (ltb r (alpha N)) one two (lt-ltb r (alpha N) b) ∙ cond-false (ltb (alpha N + m) (alpha N)) _ 𝟎 (le-ltb (alpha N + m) (alpha N) (omega arith)))
      (λ b. cond-false (ltb r (alpha N)) one two (le-ltb r (alpha N) b) ∙ cond-false (eqb (alpha N + m) r && ltb (N.k - 1) (N.k - 1)) _ 𝟎 (and_right (eqb (alpha N + m) r) (ltb (N.k - 1) (N.k - 1)) (le-ltb (N.k - 1) (N.k - 1) (omega arith))))
      (cases_lt r (alpha N))
    where
      h : alpha N + m < beta N
      h = omega arith

      one : E
      one = first_weight F N (chosen_point F N list) (point F N (node N i)) r (N.k - 1) (alpha N + m)

      two : E
      two = second_weight F N (chosen_point F N list) (point F N (node N i)) r (N.k - 1) (alpha N + m)

  pub load_makes : LoadMakesBlocks F
  load_makes N suits blocks original lawful holds i r box h =
      sum_cong F (data_rows N) (λ e. from_boxes F N suc i r e ⊗ original e) term (λ e l. ap (F.mul (from_boxes F N suc i r e)) (sym (data_row N blocks original holds e l))) ∙
      sym (add_zero L (sum F (data_rows N) term)) ∙
      ap (F.add (sum F (data_rows N) term)) (sym (sum_zero L (tail N) (λ m. term (data_rows N + m)) (λ m l. ap (λ v. v ⊗ held (data_rows N + m)) (last_zero N suc i r m l) ∙ zero_mul L (held (data_rows N + m))))) ∙
      sym (sum_split L (data_rows N) (tail N) term) ∙
      ap (λ n. sum F n term) (sym (all_rows N)) ∙
      row_made N suits suc ((λ a l. (omega arith, omega arith)), (λ a b l m e. omega arith)) blocks lawful i box r h
    where
      held : ℕ → E
      held e = blocks (node N (suc (e / beta N))) (e % beta N)

      term : ℕ → E
      term e = from_boxes F N suc i r e ⊗ held e

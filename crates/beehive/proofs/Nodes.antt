-- The numbers of a stripe, and the list of its virtual nodes followed by some boxes.
use Rattle.std.proofs.Common.{◌≡◌, ℕ, suc, ◌+◌, ◌-◌, ◌<◌, ◌≤◌, cond, ltb, ◌⊎◌, ap, ◌∙◌, inl, inr, arith}
use Rattle.std.proofs.lemmas.Bool.{lt-ltb, le-ltb, cases_lt, cond-true, cond-false}
use Rattle.field.specs.Laws.{Ops}
use Rattle.algebra.specs.Poly.{Apart}
use Rattle.beehive.specs.declared.numbers.Numbers.{Numbers}
use Rattle.beehive.specs.Numbers.{alpha, virtuals, Box, Node, Virtual, node}
use Rattle.beehive.specs.Points.{point, mu, Suits}
use Rattle.beehive.specs.Theorems.{Different, Boxes}

-- x + k = α + 1
pub needed : (N : Numbers) → virtuals N + N.k ≡ suc (alpha N)
needed N = omega arith

-- x + k − 1 = α
pub needed_less : (N : Numbers) → virtuals N + (N.k - 1) ≡ alpha N
needed_less N = omega arith

-- x + d = 2α
pub helpful : (N : Numbers) → virtuals N + N.d ≡ alpha N + alpha N
helpful N = omega arith

pub box_node : (N : Numbers) (i : ℕ) → Box N i → Node N (node N i)
box_node N i b = (omega arith, omega arith)

pub virtual_node : (N : Numbers) (s : ℕ) → Virtual N s → Node N s
virtual_node N s v = (omega arith, omega arith)

-- the virtual nodes, and after them the boxes of the list
unfoldable pub chosen : Numbers → (ℕ → ℕ) → ℕ → ℕ
chosen N list i = cond (ltb i (virtuals N)) (suc i) (node N (list (i - virtuals N)))

pub chosen_virtual : (N : Numbers) (list : ℕ → ℕ) (i : ℕ) → i < virtuals N → chosen N list i ≡ suc i
unfolding chosen
chosen_virtual N list i l = cond-true (ltb i (virtuals N)) (suc i) (node N (list (i - virtuals N))) (lt-ltb i (virtuals N) l)

pub chosen_high : (N : Numbers) (list : ℕ → ℕ) (i : ℕ) → virtuals N ≤ i → chosen N list i ≡ node N (list (i - virtuals N))
unfolding chosen
chosen_high N list i l = cond-false (ltb i (virtuals N)) (suc i) (node N (list (i - virtuals N))) (le-ltb i (virtuals N) l)

pub chosen_box : (N : Numbers) (list : ℕ → ℕ) (i : ℕ) → chosen N list (virtuals N + i) ≡ node N (list i)
chosen_box N list i =
    let e : virtuals N + i - virtuals N ≡ i = omega arith in
    chosen_high N list (virtuals N + i) (omega arith) ∙ ap (λ q. node N (list q)) e

module _ (N : Numbers) (m : ℕ) (list : ℕ → ℕ) (some : Boxes N m list) where
  pub chosen_node : (i : ℕ) → i < virtuals N + m → Node N (chosen N list i)
  chosen_node i l = go (cases_lt i (virtuals N))
    where
      go : (i < virtuals N) ⊎ (virtuals N ≤ i) → Node N (chosen N list i)
      go (inl h) = let e : chosen N list i ≡ suc i = chosen_virtual N list i h in (omega arith, omega arith)
      go (inr h) =
          let e : chosen N list i ≡ node N (list (i - virtuals N)) = chosen_high N list i h in
          let b : Box N (list (i - virtuals N)) = some.0 (i - virtuals N) (omega arith) in
          (omega arith, omega arith)

  pub chosen_different : Different (virtuals N + m) (chosen N list)
  chosen_different i j l h e = go (cases_lt i (virtuals N)) (cases_lt j (virtuals N))
    where
      go : (i < virtuals N) ⊎ (virtuals N ≤ i) → (j < virtuals N) ⊎ (virtuals N ≤ j) → i ≡ j
      go (inl a) (inl b) = let u = chosen_virtual N list i a in let v = chosen_virtual N list j b in omega arith
      go (inl a) (inr b) =
          let u = chosen_virtual N list i a in let v = chosen_high N list j b in
          let w : Box N (list (j - virtuals N)) = some.0 (j - virtuals N) (omega arith) in
          absurd (omega arith)
      go (inr a) (inl b) =
          let u = chosen_high N list i a in let v = chosen_virtual N list j b in
          let w : Box N (list (i - virtuals N)) = some.0 (i - virtuals N) (omega arith) in
          absurd (omega arith)
      go (inr a) (inr b) =
          let u = chosen_high N list i a in let v = chosen_high N list j b in
          let w : i - virtuals N ≡ j - virtuals N = some.1 (i - virtuals N) (j - virtuals N) (omega arith) (omega arith) (omega arith) in
          omega arith

-- The points of different nodes are different, and so are their μ.
module _ {E : Type 0} (F : Ops E) (N : Numbers) (suits : Suits F N) (m : ℕ) (nodes : ℕ → ℕ) (real : (i : ℕ) → i < m → Node N (nodes i)) (different : Different m nodes) where
  pub points_apart : Apart m (λ i. point F N (nodes i))
  points_apart i j l h e = different i j l h (suits.points_differ (nodes i) (nodes j) (real i l) (real j h) e)

  pub mus_apart : Apart m (λ i. mu F N (nodes i))
  mus_apart i j l h e = different i j l h (suits.mus_differ (nodes i) (nodes j) (real i l) (real j h) e)

pub boxes_different : (N : Numbers) (m : ℕ) (list : ℕ → ℕ) → Boxes N m list → Different m (λ i. node N (list i))
boxes_different N m list some i j l h e = some.1 i j l h (omega arith)

-- a list of boxes, cut short
pub fewer_boxes : (N : Numbers) (m n : ℕ) (list : ℕ → ℕ) → n ≤ m → Boxes N m list → Boxes N n list
fewer_boxes N m n list le some = (λ i l. some.0 i (omega arith), λ i j l h e. some.1 i j (omega arith) (omega arith) e)

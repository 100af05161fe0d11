-- A loop that writes a list from its front: what it holds after n turns.
use Rattle.std.proofs.Common.{◌≡◌, ℕ, zero, suc, ◌+◌, ◌<◌, ◌≤◌, ◌≢◌, List, [], ◌∷◌, length, get_or, set, sym, refl, ap, ◌∙◌, arith, get_or-set_other, get_or-set_same, below_more}
use lib.ListN.{get_or-eq_default}
use Rattle.field.specs.Laws.{Ops, Laws}
use Rattle.algebra.specs.Poly.{plus}
use Rattle.algebra.specs.Cells.{entry}
use Rattle.algebra.proofs.Ring.{ring}

pub read : {E : Type 0} (xs : List E) (i : ℕ) (a b : E) → i < length xs → get_or xs i a ≡ get_or xs i b
read [] i a b l = absurd (omega arith)
read (x ∷ xs) zero a b l = refl
read (x ∷ xs) (suc i) a b l = read xs i a b (omega arith)

-- The first n entries of new are the target's, and the others are as in old.
pub record Written {E : Type 0} (z : E) (target : ℕ → E) (old new : List E) (n : ℕ) : Type 0 where
  pub done : (k : ℕ) → k < n → get_or new k z ≡ target k
  pub left : (k : ℕ) → n ≤ k → get_or new k z ≡ get_or old k z

module _ {E : Type 0} (z : E) (target : ℕ → E) (old : List E) where
  pub written_none : Written z target old old 0
  written_none = record { done = λ k h. absurd (omega arith); left = λ k h. refl }

  pub written_more : (new : List E) (n : ℕ) (v : E) → n < length new → v ≡ target n → Written z target old new n → Written z target old (set new n v) (n + 1)
  written_more new n v l e w = record {
    done = below_more (λ k. get_or (set new n v) k z ≡ target k) n
        (λ k h. let ne : k ≢ n = omega arith in rw get_or-set_other (w.done k h))
        (get_or-set_same new n v z l ∙ e);
    left = λ k h. let ne : k ≢ n = omega arith in rw get_or-set_other (w.left k (omega arith));
  }

module _ {E : Type 0} {F : Ops E} (L : Laws F) where
  -- past its end a list reads as zeros, so that a multiple of it adds nothing
  pub past_end : (f g : List E) (c : E) (k : ℕ) → length g ≤ k → entry F f k ≡ plus F (entry F f) c (entry F g) k
  past_end f g c k l = sym (ap (λ v. F.add (entry F f k) (F.mul c v)) (get_or-eq_default g F.zero {n = k} l) ∙ simp (ring, L))

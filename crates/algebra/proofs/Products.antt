-- A loop that multiplies by one factor at a time, and a list of points that is gone through for repeated ones.
use Rattle.std.proofs.Common.{◌≡◌, ◌≢◌, ℕ, zero, suc, ◌+◌, ◌<◌, Bool, true, false, List, length, get_or, sym, refl, ap, ◌∙◌, ap₂, ⊎_elim, add-one, arith}
use Rattle.std.proofs.lemmas.Bool.{cases_lt}
use Rattle.field.specs.Laws.{Ops}
use Rattle.algebra.specs.Poly.{Apart, Same, before, times, factors}
use Rattle.algebra.specs.Cells.{entry}
use Rattle.algebra.proofs.Writes.{read}
use Rattle.algebra.proofs.Factors.{factors_kept, factors_left}

module _ {E : Type 0} (F : Ops E) where
  -- an element that was read, as an entry
  pub read_entry : (xs : List E) (i : ℕ) (v : E) → i < length xs → v ≡ get_or xs i v → v ≡ entry F xs i
  read_entry xs i v l e = e ∙ read xs i v F.zero l

  before_same : (n : ℕ) (f g : ℕ → E) → Same n f g → (k : ℕ) → k < n → before F f k ≡ before F g k
  before_same n f g h zero l = refl
  before_same n f g h (suc k) l = h k (omega arith)

  pub times_same : (n : ℕ) (p : E) (f g : ℕ → E) → Same n f g → Same n (times F p f) (times F p g)
  times_same n p f g h k l = ap₂ (λ u v. F.add u (F.mul p v)) (before_same n f g h k l) (h k l)

  pub kept_turn : (n : ℕ) (keep : ℕ → Bool) (p : ℕ → E) (c : ℕ) (x : E) (f g : ℕ → E) → keep c ≡ true → x ≡ p c → Same n f (factors F keep p c) → Same n g (times F x f) →
      Same n g (factors F keep p (c + 1))
  kept_turn n keep p c x f g t e a b k l =
      b k l ∙ ap (λ x. times F x f k) e ∙ times_same n (p c) f (factors F keep p c) a k l ∙
      ap (λ h. h k) (sym (factors_kept F keep p c t)) ∙ ap (λ m. factors F keep p m k) (sym (add-one c))

  pub left_turn : (n : ℕ) (keep : ℕ → Bool) (p : ℕ → E) (c : ℕ) (f : ℕ → E) → keep c ≡ false → Same n f (factors F keep p c) → Same n f (factors F keep p (c + 1))
  left_turn n keep p c f t a k l = a k l ∙ ap (λ h. h k) (sym (factors_left F keep p c t)) ∙ ap (λ m. factors F keep p m k) (sym (add-one c))

-- points of which each is none of those before it
pub apart_all : {E : Type 0} (m : ℕ) (p : ℕ → E) → ((n : ℕ) → n < m → (k : ℕ) → k < n → p k ≢ p n) → Apart m p
apart_all m p new i j a b e = ⊎_elim
    (λ l. absurd (new j b i l e))
    (λ l. ⊎_elim (λ h. absurd (new i a j h (sym e))) (λ h. omega arith) (cases_lt j i))
    (cases_lt i j)

-- a point that stands twice
pub not_apart : {E : Type 0} (m : ℕ) (p : ℕ → E) (k n : ℕ) → k < n → n < m → p k ≡ p n → Apart m p → ⊥
not_apart m p k n a b e h = let q : k ≡ n = h k n (omega arith) b e in omega arith

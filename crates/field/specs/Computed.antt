-- The rule of a table, proved at all of its entries by one test that the checker computes, one entry after the other.
use Rattle.std.specs.Prelude.{◌≡◌, ℕ, zero, suc, ◌+◌, ◌-◌, ◌^◌, ◌<◌, ◌≤◌, Bool, true, false, not, ◌&&◌, T, List, [], ◌∷◌, length, ◌==◌, bit_xor, nat_lt, slice_index, slice_index_or}
use Rattle.std.proofs.Common.{◌∙◌, subst, sym, ap, zero-add, add-suc, suc-add, add-zero, le_of_suc-le-suc, not-suc-le-zero, arith, eqb→eq, ltb→lt, T_not}
use Rattle.std.proofs.Math.Dec.{eqb_refl}
use Rattle.field.specs.Polynomials.{Degree, product, inverse, power}
use Rattle.field.specs.Tables.{climbed, climbs, logs}
use Rattle.field.specs.Residues.{Rootless}
use Rattle.field.specs.Modular.{climbed_power}

both_left : (a b : Bool) → T (a && b) → T a
both_left true b t = tt
both_left false b t = t

both_right : (a b : Bool) → T (a && b) → T b
both_right true b t = t
both_right false b t = absurd t

-- the test passes at each number from i on, n of them
abbrev pub every : (ℕ → Bool) → ℕ → ℕ → Bool
every f i zero = true
every f i (suc n) = f i && every f (suc i) n

from : (f : ℕ → Bool) (n i : ℕ) → T (every f i n) → (k : ℕ) → k < n → T (f (i + k))
from f zero i t k h = absurd (not-suc-le-zero h)
from f (suc n) i t zero h = subst (λ (j : ℕ). T (f j)) (sym (add-zero i)) (both_left (f i) (every f (suc i) n) t)
from f (suc n) i t (suc k) h =
    subst (λ (j : ℕ). T (f j)) (suc-add i k ∙ sym (add-suc i k)) (from f n (suc i) (both_right (f i) (every f (suc i) n) t) k (le_of_suc-le-suc h))

pub at : (f : ℕ → Bool) (n : ℕ) → T (every f 0 n) → (k : ℕ) → k < n → T (f k)
at f n t k h = subst (λ (j : ℕ). T (f j)) (zero-add k) (from f n 0 t k h)

module _ {m p : ℕ} (degree : Degree m p) where
  climbs_at : (i : ℕ) (ys : List ℕ) → T (climbs m p (climbed m p i) ys) → (k : ℕ) → k < length ys → slice_index ys k ≡ climbed m p (k + i)
  climbs_at i [] t k h = absurd (not-suc-le-zero h)
  climbs_at i (y ∷ ys) t zero h = eqb→eq y (climbed m p i) (both_left (y == climbed m p i) (climbs m p (climbed m p (suc i)) ys) t) ∙ ap (climbed m p) (sym (zero-add i))
  climbs_at i (y ∷ ys) t (suc k) h =
      climbs_at (suc i) ys (both_right (y == climbed m p i) (climbs m p (climbed m p (suc i)) ys) t) k (le_of_suc-le-suc h)
      ∙ ap (climbed m p) (add-suc k i ∙ sym (suc-add k i))

  -- each entry of a table of powers is that power
  pub power_at : (table : List ℕ) → T (climbs m p 1 table) → (k : ℕ) → k < length table → slice_index table k ≡ power m p k
  power_at table t k h = climbs_at 0 table t k h ∙ ap (climbed m p) (add-zero k) ∙ climbed_power m p degree k

  -- each entry of a table of logarithms is below n, and X to it is the number
  log_at : (n i : ℕ) (ls : List ℕ) → T (logs m p n i ls) → (k : ℕ) → k < length ls
      → (slice_index ls k < n) × (climbed m p (slice_index ls k) ≡ suc (k + i))
  log_at n i [] t k h = absurd (not-suc-le-zero h)
  log_at n i (l ∷ ls) t zero h =
      let rest = both_right (nat_lt l n) _ t in
      (ltb→lt l n (both_left (nat_lt l n) _ t), eqb→eq (climbed m p l) (suc i) (both_left (climbed m p l == suc i) _ rest) ∙ ap suc (sym (zero-add i)))
  log_at n i (l ∷ ls) t (suc k) h =
      let rest = both_right (climbed m p l == suc i) _ (both_right (nat_lt l n) _ t) in
      let e = log_at n (suc i) ls rest k (le_of_suc-le-suc h) in
      (e.0, e.1 ∙ ap suc (add-suc k i ∙ sym (suc-add k i)))

  module _ (table : List ℕ) (t : T (logs m p (length table) 0 table)) (a : ℕ) (some : 0 < a) (h : a ≤ length table) where
    here : (slice_index table (a - 1) < length table) × (climbed m p (slice_index table (a - 1)) ≡ suc (a - 1 + 0))
    here = log_at (length table) 0 table t (a - 1) (omega arith)

    pub log_below : slice_index_or table (a - 1) 0 < length table
    log_below = here.0

    pub log_is : power m p (slice_index table (a - 1)) ≡ a
    log_is = sym (climbed_power m p degree (slice_index table (a - 1))) ∙ here.1 ∙ omega arith

module _ (m p : ℕ) where
  -- Each number from 1 to n has its inverse.
  abbrev pub inverse_right : ℕ → Bool
  inverse_right k = product m p (suc k) (inverse m p (suc k)) == 1

  pub inverses : (n : ℕ) → T (every inverse_right 0 n) → (a : ℕ) → 0 < a → a < suc n → product m p a (inverse m p a) ≡ 1
  inverses n t zero pos h = absurd (not-suc-le-zero pos)
  inverses n t (suc k) pos h = eqb→eq (product m p (suc k) (inverse m p (suc k))) 1 (at inverse_right n t k (omega arith))

  -- nu is no c · c + c
  abbrev pub no_root_at : ℕ → ℕ → Bool
  no_root_at nu c = not (bit_xor (product m p c c) c == nu)

  pub rootless : (nu : ℕ) → T (every (no_root_at nu) 0 (2 ^ m)) → Rootless m p nu
  rootless nu t c h e =
      T_not (bit_xor (product m p c c) c == nu) (at (no_root_at nu) (2 ^ m) t c h) (subst (λ (x : ℕ). T (x == nu)) (sym e) (eqb_refl nu))

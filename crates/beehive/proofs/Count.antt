-- How many numbers are kept, where one or two are not.
use Rattle.std.proofs.Common.{◌≡◌, ℕ, zero, suc, ◌<◌, ◌≤◌, Bool, true, false, ◌⊎◌, sym, refl, ap, ◌∙◌, inl, inr, arith}
use Rattle.std.proofs.lemmas.Bool.{cases_eq, cases_Bool, cases_order}
use Rattle.algebra.specs.Poly.{count, besides}
use Rattle.algebra.proofs.Factors.{count_kept, count_left, count_none}
use Rattle.algebra.proofs.Interpolation.{besides_first, besides_second}

module _ (keep : ℕ → Bool) where
  count_more : (m : ℕ) → count keep (suc m) ≤ suc (count keep m)
  count_more m = go (cases_Bool (keep m))
    where
      go : (keep m ≡ true) ⊎ (keep m ≡ false) → count keep (suc m) ≤ suc (count keep m)
      go (inl t) = omega (arith, count_kept keep m t)
      go (inr t) = omega (arith, count_left keep m t)

  count_all : (m : ℕ) → count keep m ≤ m
  count_all zero = omega (arith, count_none keep)
  count_all (suc m) = let r = count_all m in omega (arith, count_more m)

  count_but : (i m : ℕ) → i < m → keep i ≡ false → suc (count keep m) ≤ m
  count_but i zero l f = absurd (omega arith)
  count_but i (suc m) l f = go (cases_eq i m) (count_but i m)
    where
      go : (i ≡ m) ⊎ (i ≡ m → ⊥) → (i < m → keep i ≡ false → suc (count keep m) ≤ m) → suc (count keep (suc m)) ≤ suc m
      go (inl e) r = omega (arith, count_left keep m (ap keep (sym e) ∙ f), count_all m)
      go (inr ne) r = omega (arith, count_more m, r (omega arith) f)

  count_but_two : (i j m : ℕ) → i < j → j < m → keep i ≡ false → keep j ≡ false → suc (suc (count keep m)) ≤ m
  count_but_two i j zero o l f g = absurd (omega arith)
  count_but_two i j (suc m) o l f g = go (cases_eq j m) (count_but_two i j m o)
    where
      go : (j ≡ m) ⊎ (j ≡ m → ⊥) → (j < m → keep i ≡ false → keep j ≡ false → suc (suc (count keep m)) ≤ m) → suc (suc (count keep (suc m))) ≤ suc m
      go (inl e) r = omega (arith, count_left keep m (ap keep (sym e) ∙ g), count_but i m (omega arith) f)
      go (inr ne) r = omega (arith, count_more m, r (omega arith) f g)

-- besides two different numbers below n + 1 there are fewer than n
pub count_besides_two : (i j n : ℕ) → i < suc n → j < suc n → (i ≡ j → ⊥) → count (besides i j) (suc n) < n
count_besides_two i j n l h ne = go (cases_order i j)
  where
    go : (i ≡ j) ⊎ ((i < j) ⊎ (j < i)) → count (besides i j) (suc n) < n
    go (inl e) = absurd (ne e)
    go (inr (inl o)) = omega (arith, count_but_two (besides i j) i j (suc n) o h (besides_first i j i refl) (besides_second i j j refl))
    go (inr (inr o)) = omega (arith, count_but_two (besides i j) j i (suc n) o l (besides_second i j j refl) (besides_first i j i refl))

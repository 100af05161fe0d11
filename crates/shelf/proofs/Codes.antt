-- Lists of codes below a limit.
use Rattle.std.proofs.Common.{◌≡◌, ℕ, ◌<◌, true, ◌&&◌, ltb, List, [], ◌∷◌, length, get_or, refl, ap}
use Rattle.std.specs.List.{list_all}
use Rattle.std.proofs.lemmas.Bool.{ltb-true}
use Rattle.std.proofs.lemmas.List.Recursion.{and_at}
use Rattle.shelf.specs.Calls.{all_below}

pub below_at : (n : ℕ) (xs : List ℕ) (i : ℕ) → all_below n xs ≡ true → i < length xs → get_or xs i 0 < n
below_at n xs i e h = ltb-true (get_or xs i 0) n (and_at (all_below n) (λ x. ltb x n) refl (λ x ys. refl) xs i 0 h e)

-- What `all` answers.
pub all_is : (n : ℕ) (xs : List ℕ) → list_all (λ x. ltb x n) xs ≡ all_below n xs
all_is n [] = refl
all_is n (x ∷ xs) = ap (λ t. ltb x n && t) (all_is n xs)

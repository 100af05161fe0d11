-- Lists that are made from a function of the index.
use Rattle.std.proofs.Common.{◌≡◌, ℕ, zero, suc, ◌+◌, ◌<◌, List, [], ◌∷◌, length, get_or, set, replicate, refl, ap, ◌∙◌, arith, get_or-set_other, get_or-set_same, below_more}
use Rattle.shelf.specs.Stored.{tab}

pub tab_length : {A : Type 0} (n : ℕ) (f : ℕ → A) → length (tab n f) ≡ n
tab_length zero f = refl
tab_length (suc n) f = ap suc (tab_length n (λ i. f (suc i)))

pub tab_get_d : {A : Type 0} (n : ℕ) (f : ℕ → A) (i : ℕ) (d : A) → i < n → get_or (tab n f) i d ≡ f i
tab_get_d zero f i d h = absurd (omega arith)
tab_get_d (suc n) f zero d h = refl
tab_get_d (suc n) f (suc i) d h = tab_get_d n (λ j. f (suc j)) i d (omega arith)

pub tab_cong : {A : Type 0} (n : ℕ) (f g : ℕ → A) → ((i : ℕ) → i < n → f i ≡ g i) → tab n f ≡ tab n g
tab_cong zero f g h = refl
tab_cong (suc n) f g h =
    let t = tab_cong n (λ i. f (suc i)) (λ i. g (suc i)) (λ i l. h (suc i) (omega arith)) in
    let z : f 0 ≡ g 0 = h 0 (omega arith) in cc

pub tab_set : {A : Type 0} (n : ℕ) (f g : ℕ → A) (i : ℕ) (v : A) → i < n → g i ≡ v
    → ((j : ℕ) → j < n → (j ≡ i → ⊥) → g j ≡ f j) → tab n g ≡ set (tab n f) i v
tab_set zero f g i v h e k = absurd (omega arith)
tab_set (suc n) f g zero v h e k =
    let t : tab n (λ j. g (suc j)) ≡ tab n (λ j. f (suc j)) = tab_cong n (λ j. g (suc j)) (λ j. f (suc j)) (λ j l. k (suc j) (omega arith) (λ q. omega arith)) in cc
tab_set (suc n) f g (suc i) v h e k =
    let t : tab n (λ j. g (suc j)) ≡ set (tab n (λ j. f (suc j))) i v = tab_set n (λ j. f (suc j)) (λ j. g (suc j)) i v (omega arith) e (λ j l q. k (suc j) (omega arith) (λ r. q (omega arith))) in
    let z : g 0 ≡ f 0 = k 0 (omega arith) (λ q. omega arith) in cc

pub tab_same : {A : Type 0} (n : ℕ) (f : ℕ → A) (x : A) → ((i : ℕ) → i < n → f i ≡ x) → tab n f ≡ replicate n x
tab_same zero f x h = refl
tab_same (suc n) f x h =
    let t = tab_same n (λ i. f (suc i)) x (λ i l. h (suc i) (omega arith)) in
    let z : f 0 ≡ x = h 0 (omega arith) in cc

-- A list that holds f k at each place k is the table of f.
pub tab_all : (xs : List ℕ) (n : ℕ) (f : ℕ → ℕ) → length xs ≡ n → ((k : ℕ) → k < n → get_or xs k 0 ≡ f k) → xs ≡ tab n f
tab_all [] zero f e h = refl
tab_all [] (suc n) f e h = absurd (omega arith)
tab_all (x ∷ xs) zero f e h = absurd (omega arith)
tab_all (x ∷ xs) (suc n) f e h =
    let t = tab_all xs n (λ k. f (suc k)) (omega arith) (λ k l. h (suc k) (omega arith)) in
    let z : x ≡ f 0 = h 0 (omega arith) in cc

-- One more place of such a list.
pub tab_more : (xs : List ℕ) (j x : ℕ) (f : ℕ → ℕ) → ((k : ℕ) → k < j → get_or xs k 0 ≡ f k) → j < length xs → x ≡ f j
    → (k : ℕ) → k < j + 1 → get_or (set xs j x) k 0 ≡ f k
tab_more xs j x f h l e = below_more _ _
    (λ k i. get_or-set_other xs j k x 0 (λ q. omega arith) ∙ h k i)
    (get_or-set_same xs j x 0 l ∙ e)

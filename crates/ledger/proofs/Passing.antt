-- What it means that checks passed.
use Rattle.std.proofs.Common.{◌≡◌, ℕ, Bool, true, false, eqb, ◌⊎◌, List, [], ◌∷◌, Ok, Err, refl, ap, ◌∙◌, inl, inr}
use Rattle.std.proofs.lemmas.Bool.{true≢false, false≢true, or_cases, or_left, or_right, eqb-true, eq-eqb}
use Rattle.refusal.specs.declared.denial.Denial.{Denial}
use Rattle.refusal.specs.Checks.{check, and_then, if_ok}
use Rattle.ledger.specs.Ledger.{named}
use Rattle.ledger.specs.Checks.{Check, each}

refused : (r : Check) → Bool
refused (Ok _) = false
refused (Err e) = true

pub not_passed : (e : Denial) → ◌≡◌ {A = Check} (Err e) (Ok tt) → ⊥
unfolding refused
not_passed e h = true≢false (ap refused h)

pub parts : (a b : Check) → and_then a b ≡ Ok tt → (a ≡ Ok tt) × (b ≡ Ok tt)
parts (Ok _) b h = (refl, h)
parts (Err e) b h = absurd (not_passed e h)

pub both : (a b : Check) → a ≡ Ok tt → b ≡ Ok tt → and_then a b ≡ Ok tt
both (Ok _) b h k = k
both (Err e) b h k = absurd (not_passed e h)

pub held : (t : Bool) (e : Denial) → check t e ≡ Ok tt → t ≡ true
held true e h = refl
held false e h = absurd (not_passed e h)

pub holds : (t : Bool) (e : Denial) → t ≡ true → check t e ≡ Ok tt
holds true e h = refl
holds false e h = absurd (false≢true h)

-- a check of each box of a list
pub each_passed : (f : ℕ → Check) (bs : List ℕ) → each f bs ≡ Ok tt → (b : ℕ) → named b bs ≡ true → f b ≡ Ok tt
each_passed f [] h b n = absurd (false≢true n)
each_passed f (x ∷ xs) h b n = go (or_cases (eqb b x) (named b xs) n) (each_passed f xs (parts (f x) (each f xs) h).1 b)
  where
    go : (eqb b x ≡ true) ⊎ (named b xs ≡ true) → (named b xs ≡ true → f b ≡ Ok tt) → f b ≡ Ok tt
    go (inl e) rec = ap f (eqb-true b x e) ∙ (parts (f x) (each f xs) h).0
    go (inr e) rec = rec e

pub each_passes : (f : ℕ → Check) (bs : List ℕ) → ((b : ℕ) → named b bs ≡ true → f b ≡ Ok tt) → each f bs ≡ Ok tt
each_passes f [] h = refl
each_passes f (x ∷ xs) h =
    both (f x) (each f xs) (h x (or_left (eqb x x) (named x xs) (eq-eqb x x refl)))
    (each_passes f xs (λ b n. h b (or_right (eqb b x) (named b xs) n)))

-- what an accepted call makes, or what a denied one leaves
pub either_way : {A : Type 0} (P : A → Type 0) (r : Check) (x y : A) → (r ≡ Ok tt → P x) → P y → P (if_ok r x y)
either_way P (Ok _) x y f p = f refl
either_way P (Err e) x y f p = p

-- a row of checks
abbrev pub chain : List Check → Check
chain [] = Ok tt
chain (c ∷ []) = c
chain (c ∷ d ∷ cs) = and_then c (chain (d ∷ cs))

abbrev pub Passed : List Check → Type 0
Passed [] = Unit {0}
Passed (c ∷ cs) = (c ≡ Ok tt) × Passed cs

pub all_passed : (cs : List Check) → chain cs ≡ Ok tt → Passed cs
all_passed [] h = tt
all_passed (c ∷ []) h = (h, tt)
all_passed (c ∷ d ∷ cs) h = let p = parts c (chain (d ∷ cs)) h in (p.0, all_passed (d ∷ cs) p.1)

pub all_pass : (cs : List Check) → Passed cs → chain cs ≡ Ok tt
all_pass [] h = refl
all_pass (c ∷ []) h = h.0
all_pass (c ∷ d ∷ cs) h = both c (chain (d ∷ cs)) h.0 (all_pass (d ∷ cs) h.1)

-- checks with one refusal pass, or give it
pub then_either : (a b : Check) (e : Denial) → (a ≡ Ok tt) ⊎ (a ≡ Err e) → (b ≡ Ok tt) ⊎ (b ≡ Err e) → (and_then a b ≡ Ok tt) ⊎ (and_then a b ≡ Err e)
then_either (Ok _) b e h k = k
then_either (Err d) b e (inl h) k = inl h
then_either (Err d) b e (inr h) k = inr h

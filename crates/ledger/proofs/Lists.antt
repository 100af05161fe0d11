-- Lists of boxes in which none is named twice.
use Rattle.std.proofs.Common.{◌≡◌, ℕ, zero, suc, ◌<◌, true, false, not, ◌||◌, eqb, ◌⊎◌, List, [], ◌∷◌, ◌++◌, length, get_or, Ok, sym, refl, ap, ◌∙◌, inl, inr, le_of_suc-le-suc, not-suc-le-zero, arith}
use Rattle.std.proofs.lemmas.Bool.{false≢true, or_cases, or_left, or_right, or_parts, or_from, eqb-true, eq-eqb, ne_eqb, not-true, not_from_false, both_ways, cases_Bool}
use Rattle.refusal.specs.declared.denial.Denial.TheVariants.{Repeated}
use Rattle.refusal.specs.Checks.{check}
use Rattle.beehive.specs.Theorems.{Different}
use Rattle.ledger.specs.Ledger.{named}
use Rattle.ledger.specs.Checks.{unrepeated}
use Rattle.ledger.proofs.Passing.{parts, both, held, holds}

abbrev pub Distinct : List ℕ → Type 0
Distinct [] = Unit {0}
Distinct (b ∷ bs) = (named b bs ≡ false) × Distinct bs

pub named_left : (b : ℕ) (xs ys : List ℕ) → named b xs ≡ true → named b (xs ++ ys) ≡ true
named_left b [] ys h = absurd (false≢true h)
named_left b (x ∷ xs) ys h = go (or_cases (eqb b x) (named b xs) h) (named_left b xs ys)
  where
    go : (eqb b x ≡ true) ⊎ (named b xs ≡ true) → (named b xs ≡ true → named b (xs ++ ys) ≡ true) → (eqb b x || named b (xs ++ ys)) ≡ true
    go (inl e) rec = or_left (eqb b x) (named b (xs ++ ys)) e
    go (inr e) rec = or_right (eqb b x) (named b (xs ++ ys)) (rec e)

pub named_right : (b : ℕ) (xs ys : List ℕ) → named b ys ≡ true → named b (xs ++ ys) ≡ true
named_right b [] ys h = h
named_right b (x ∷ xs) ys h = or_right (eqb b x) (named b (xs ++ ys)) (named_right b xs ys h)

pub distinct_left : (xs ys : List ℕ) → Distinct (xs ++ ys) → Distinct xs
distinct_left [] ys h = tt
distinct_left (x ∷ xs) ys h = (go (cases_Bool (named x xs)), distinct_left xs ys h.1)
  where
    go : (named x xs ≡ true) ⊎ (named x xs ≡ false) → named x xs ≡ false
    go (inl e) = absurd (both_ways (named x (xs ++ ys)) h.0 (named_left x xs ys e))
    go (inr e) = e

pub distinct_right : (xs ys : List ℕ) → Distinct (xs ++ ys) → Distinct ys
distinct_right [] ys h = h
distinct_right (x ∷ xs) ys h = distinct_right xs ys h.1

-- what is in the one is not in the other
pub apart : (xs ys : List ℕ) → Distinct (xs ++ ys) → (b : ℕ) → named b xs ≡ true → named b ys ≡ true → ⊥
apart [] ys h b m n = false≢true m
apart (x ∷ xs) ys h b m n = go (or_cases (eqb b x) (named b xs) m) (apart xs ys h.1 b)
  where
    go : (eqb b x ≡ true) ⊎ (named b xs ≡ true) → (named b xs ≡ true → named b ys ≡ true → ⊥) → ⊥
    go (inl e) rec = both_ways (named x (xs ++ ys)) h.0 (named_right x xs ys (ap (λ c. named c ys) (sym (eqb-true b x e)) ∙ n))
    go (inr e) rec = rec e n

-- no box of the list is one of those seen
abbrev pub Unseen : List ℕ → List ℕ → Type 0
Unseen seen bs = (b : ℕ) → named b bs ≡ true → named b seen ≡ false

pub unrepeated_passed : (bs seen : List ℕ) → unrepeated seen bs ≡ Ok tt → Distinct bs × Unseen seen bs
unrepeated_passed [] seen h = (tt, λ b n. absurd (false≢true n))
unrepeated_passed (x ∷ xs) seen h =
    let p = parts (check (not (named x seen)) (Repeated x)) (unrepeated (x ∷ seen) xs) h in
    let rest = unrepeated_passed xs (x ∷ seen) p.1 in
    let new : named x seen ≡ false = not-true (named x seen) (held (not (named x seen)) (Repeated x) p.0) in
    ((fresh rest.1 (cases_Bool (named x xs)), rest.0), λ b n. unseen rest.1 new b (or_cases (eqb b x) (named b xs) n))
  where
    fresh : Unseen (x ∷ seen) xs → (named x xs ≡ true) ⊎ (named x xs ≡ false) → named x xs ≡ false
    fresh u (inl e) = absurd (both_ways (eqb x x) (or_parts (eqb x x) (named x seen) (u x e)).0 (eq-eqb x x refl))
    fresh u (inr e) = e

    unseen : Unseen (x ∷ seen) xs → named x seen ≡ false → (b : ℕ) → (eqb b x ≡ true) ⊎ (named b xs ≡ true) → named b seen ≡ false
    unseen u new b (inl e) = ap (λ c. named c seen) (eqb-true b x e) ∙ new
    unseen u new b (inr e) = (or_parts (eqb b x) (named b seen) (u b e)).1

pub unrepeated_passes : (bs seen : List ℕ) → Distinct bs → Unseen seen bs → unrepeated seen bs ≡ Ok tt
unrepeated_passes [] seen d u = refl
unrepeated_passes (x ∷ xs) seen d u =
    both (check (not (named x seen)) (Repeated x)) (unrepeated (x ∷ seen) xs)
    (holds (not (named x seen)) (Repeated x) (not_from_false (named x seen) (u x (or_left (eqb x x) (named x xs) (eq-eqb x x refl)))))
    (unrepeated_passes xs (x ∷ seen) d.1 rest)
  where
    rest : Unseen (x ∷ seen) xs
    rest b n = or_from (eqb b x) (named b seen)
        (ne_eqb b x (λ e. both_ways (named x xs) d.0 (ap (λ c. named c xs) (sym e) ∙ n)))
        (u b (or_right (eqb b x) (named b xs) n))

-- a box at a place is in the list, and a box of the list has a place
pub at_place : (bs : List ℕ) (i : ℕ) → i < length bs → named (get_or bs i 0) bs ≡ true
at_place [] i h = absurd (not-suc-le-zero h)
at_place (x ∷ xs) zero h = or_left (eqb x x) (named x xs) (eq-eqb x x refl)
at_place (x ∷ xs) (suc i) h = or_right (eqb (get_or xs i 0) x) (named (get_or xs i 0) xs) (at_place xs i (le_of_suc-le-suc h))

pub place_of : (bs : List ℕ) (b : ℕ) → named b bs ≡ true → (i : ℕ) × (i < length bs) × (get_or bs i 0 ≡ b)
place_of [] b n = absurd (false≢true n)
place_of (x ∷ xs) b n = go (or_cases (eqb b x) (named b xs) n) (place_of xs b)
  where
    go : (eqb b x ≡ true) ⊎ (named b xs ≡ true) → (named b xs ≡ true → (i : ℕ) × (i < length xs) × (get_or xs i 0 ≡ b)) → (i : ℕ) × (i < suc (length xs)) × (get_or (x ∷ xs) i 0 ≡ b)
    go (inl e) rec = (0, omega arith, sym (eqb-true b x e))
    go (inr e) rec = let p = rec e in let l : p.0 < length xs = p.1 in (suc p.0, omega arith, p.2)

pub distinct_places : (bs : List ℕ) → Distinct bs → Different (length bs) (λ i. get_or bs i 0)
distinct_places [] d i j l m e = absurd (not-suc-le-zero l)
distinct_places (x ∷ xs) d zero zero l m e = refl
distinct_places (x ∷ xs) d zero (suc j) l m e =
    absurd (both_ways (named x xs) d.0 (ap (λ c. named c xs) e ∙ at_place xs j (le_of_suc-le-suc m)))
distinct_places (x ∷ xs) d (suc i) zero l m e =
    absurd (both_ways (named x xs) d.0 (ap (λ c. named c xs) (sym e) ∙ at_place xs i (le_of_suc-le-suc l)))
distinct_places (x ∷ xs) d (suc i) (suc j) l m e = ap suc (distinct_places xs d.1 i j (le_of_suc-le-suc l) (le_of_suc-le-suc m) e)

pub places_distinct : (bs : List ℕ) → Different (length bs) (λ i. get_or bs i 0) → Distinct bs
places_distinct [] d = tt
places_distinct (x ∷ xs) d = (go (cases_Bool (named x xs)), places_distinct xs (λ i j l m e. let z : suc i ≡ suc j = d (suc i) (suc j) (omega arith) (omega arith) e in omega arith))
  where
    go : (named x xs ≡ true) ⊎ (named x xs ≡ false) → named x xs ≡ false
    go (inl e) =
        let p = place_of xs x e in
        let l : p.0 < length xs = p.1 in
        let z : 0 ≡ suc p.0 = d 0 (suc p.0) (omega arith) (omega arith) (sym p.2) in
        absurd (omega arith)
    go (inr e) = e

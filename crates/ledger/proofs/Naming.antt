-- Which box a refusal names.
use Rattle.std.proofs.Common.{◌≡◌, ℕ, Bool, true, false, not, ◌||◌, eqb, ◌⊎◌, List, [], ◌∷◌, ◌++◌, Ok, Err, sym, refl, ap, ◌∙◌, inl, inr, arith}
use Rattle.std.proofs.lemmas.Bool.{false≢true, or_cases, or_parts, eqb-true, eq-eqb, both_ways}
use Rattle.refusal.specs.declared.denial.Denial.{Denial}
use Rattle.refusal.specs.declared.denial.Denial.TheVariants.{Repeated}
use Rattle.refusal.specs.Checks.{check, and_then}
use Rattle.ledger.specs.Ledger.{named}
use Rattle.ledger.specs.Checks.{Check, each, unrepeated}
use Rattle.ledger.specs.Laws.{FirstOffender, FirstRepeat, TheFirstIsNamed}
use Rattle.ledger.proofs.Passing.{both}
use Rattle.ledger.proofs.Lists.{Distinct, Unseen, distinct_places}

passed≢failed : (e : Denial) → ◌≡◌ {A = Check} (Ok tt) (Err e) → ⊥
passed≢failed e h = let z : ◌≡◌ {A = ℕ} 0 1 = cc in omega arith

failed_is : {d e : Denial} → ◌≡◌ {A = Check} (Err d) (Err e) → d ≡ e
failed_is h = cc

first_offender : FirstOffender
first_offender f [] e h = absurd (passed≢failed e h)
first_offender f (x ∷ xs) e h = go (f x) refl h (first_offender f xs e)
  where
    go : (r : Check) → f x ≡ r → and_then r (each f xs) ≡ Err e
        → (each f xs ≡ Err e → (before : List ℕ) × (b : ℕ) × (later : List ℕ) × (xs ≡ before ++ b ∷ later) × (each f before ≡ Ok tt) × (f b ≡ Err e))
        → (before : List ℕ) × (b : ℕ) × (later : List ℕ) × (x ∷ xs ≡ before ++ b ∷ later) × (each f before ≡ Ok tt) × (f b ≡ Err e)
    go (Ok _) is k rec =
        let r = rec k in
        (x ∷ r.0, r.1, r.2, ap (λ t. x ∷ t) r.3, both (f x) (each f r.0) is r.4, r.5)
    go (Err d) is k rec = ([], x, xs, refl, refl, is ∙ k)

-- the first box that was seen already, among those of the list or before it
first_seen : (bs seen : List ℕ) (e : Denial) → unrepeated seen bs ≡ Err e
    → (before : List ℕ) × (b : ℕ) × (later : List ℕ) × (bs ≡ before ++ b ∷ later) × Distinct before × Unseen seen before × ((named b before || named b seen) ≡ true) × (e ≡ Repeated b)
first_seen [] seen e h = absurd (passed≢failed e h)
first_seen (x ∷ xs) seen e h = go (named x seen) refl h (first_seen xs (x ∷ seen) e)
  where
    go : (t : Bool) → named x seen ≡ t → and_then (check (not t) (Repeated x)) (unrepeated (x ∷ seen) xs) ≡ Err e
        → (unrepeated (x ∷ seen) xs ≡ Err e → (before : List ℕ) × (b : ℕ) × (later : List ℕ) × (xs ≡ before ++ b ∷ later) × Distinct before × Unseen (x ∷ seen) before × ((named b before || (eqb b x || named b seen)) ≡ true) × (e ≡ Repeated b))
        → (before : List ℕ) × (b : ℕ) × (later : List ℕ) × (x ∷ xs ≡ before ++ b ∷ later) × Distinct before × Unseen seen before × ((named b before || named b seen) ≡ true) × (e ≡ Repeated b)
    go true is k rec = ([], x, xs, refl, tt, λ b n. absurd (false≢true n), is, sym (failed_is k))
    go false is k rec =
        let r = rec k in
        (x ∷ r.0, r.1, r.2, ap (λ t. x ∷ t) r.3, (fresh r.0 r.5, r.4), unseen r.0 r.5, turned (named r.1 r.0) (eqb r.1 x) (named r.1 seen) r.6, r.7)
      where
        fresh : (before : List ℕ) → Unseen (x ∷ seen) before → named x before ≡ false
        fresh before u = pick (named x before) refl
          where
            pick : (t : Bool) → named x before ≡ t → t ≡ false
            pick true n = absurd (both_ways (eqb x x) (or_parts (eqb x x) (named x seen) (u x n)).0 (eq-eqb x x refl))
            pick false n = refl

        unseen : (before : List ℕ) → Unseen (x ∷ seen) before → Unseen seen (x ∷ before)
        unseen before u b n = pick (or_cases (eqb b x) (named b before) n)
          where
            pick : (eqb b x ≡ true) ⊎ (named b before ≡ true) → named b seen ≡ false
            pick (inl q) = ap (λ c. named c seen) (eqb-true b x q) ∙ is
            pick (inr q) = (or_parts (eqb b x) (named b seen) (u b q)).1

        turned : (p q s : Bool) → (p || (q || s)) ≡ true → ((q || p) || s) ≡ true
        turned true true s h = refl
        turned true false s h = refl
        turned false true s h = refl
        turned false false s h = h

first_repeat : FirstRepeat
first_repeat bs e h =
    let r = first_seen bs [] e h in
    (r.0, r.1, r.2, r.3, distinct_places r.0 r.4, no_seen (named r.1 r.0) r.6, r.7)
  where
    no_seen : (t : Bool) → (t || false) ≡ true → t ≡ true
    no_seen true k = refl
    no_seen false k = k

pub first_named : TheFirstIsNamed
first_named = (first_offender, first_repeat)

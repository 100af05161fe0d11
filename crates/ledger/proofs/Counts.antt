-- Counting the segments that came.
use Rattle.std.proofs.Common.{◌≡◌, ℕ, suc, ◌+◌, ◌≤◌, Bool, true, false, cond, ◌&&◌, ◌||◌, eqb, ◌⊎◌, List, [], ◌∷◌, ◌++◌, length, sym, refl, ap, ◌∙◌, inl, inr, arith}
use Rattle.std.proofs.lemmas.Bool.{false≢true, or_cases, or_left, or_right, or_parts, eqb-true, eqb-false, eq-eqb, ne_eqb, both_ways, cond-true, cond-false, cases_eq}
use Rattle.ledger.specs.Ledger.{named, Segment, times_came, from_to}
use Rattle.ledger.proofs.Lists.{Distinct}

-- the sum over a list
abbrev pub total : (ℕ → ℕ) → List ℕ → ℕ
total f [] = 0
total f (p ∷ ps) = f p + total f ps

pub total_append : (f : ℕ → ℕ) (ps qs : List ℕ) → total f (ps ++ qs) ≡ total f ps + total f qs
total_append f [] qs = omega arith
total_append f (p ∷ ps) qs = let r = total_append f ps qs in omega arith

pub total_le : (f g : ℕ → ℕ) (ps : List ℕ) → ((p : ℕ) → f p ≤ g p) → total f ps ≤ total g ps
total_le f g [] h = omega arith
total_le f g (p ∷ ps) h = let r = total_le f g ps h in omega (arith, h p)

pub total_same : (f g : ℕ → ℕ) (ps : List ℕ) → ((p : ℕ) → named p ps ≡ true → f p ≡ g p) → total f ps ≡ total g ps
total_same f g [] h = refl
total_same f g (p ∷ ps) h =
    let r = total_same f g ps (λ q n. h q (or_right (eqb q p) (named q ps) n)) in
    let e : f p ≡ g p = h p (or_left (eqb p p) (named p ps) (eq-eqb p p refl)) in
    omega arith

-- what is nowhere more and as much in all is the same everywhere
pub same_total : (f g : ℕ → ℕ) (ps : List ℕ) → ((p : ℕ) → f p ≤ g p) → total f ps ≡ total g ps → (p : ℕ) → named p ps ≡ true → f p ≡ g p
same_total f g [] h e p n = absurd (false≢true n)
same_total f g (q ∷ ps) h e p n =
    let l = total_le f g ps h in
    let here : f q ≡ g q = omega (arith, h q) in
    let rest : total f ps ≡ total g ps = omega (arith, h q) in
    go here (or_cases (eqb p q) (named p ps) n) (same_total f g ps h rest p)
  where
    go : f q ≡ g q → (eqb p q ≡ true) ⊎ (named p ps ≡ true) → (named p ps ≡ true → f p ≡ g p) → f p ≡ g p
    go here (inl k) rec = ap f (eqb-true p q k) ∙ here ∙ ap g (sym (eqb-true p q k))
    go here (inr k) rec = rec k

-- one from everybody but j
abbrev pub wanted : ℕ → ℕ → ℕ
wanted j p = cond (eqb p j) 0 1

pub wanted_outside : (j : ℕ) (ps : List ℕ) → named j ps ≡ false → total (wanted j) ps ≡ length ps
wanted_outside j [] h = refl
wanted_outside j (p ∷ ps) h =
    let o = or_parts (eqb j p) (named j ps) h in
    let r = wanted_outside j ps o.1 in
    let w : wanted j p ≡ 1 = cond-false (eqb p j) 0 1 (ne_eqb p j (λ e. eqb-false j p o.0 (sym e))) in
    omega arith

pub wanted_inside : (j : ℕ) (ps : List ℕ) → Distinct ps → named j ps ≡ true → suc (total (wanted j) ps) ≡ length ps
wanted_inside j [] d h = absurd (false≢true h)
wanted_inside j (p ∷ ps) d h = go (cases_eq p j) (wanted_inside j ps d.1)
  where
    go : (p ≡ j) ⊎ (p ≡ j → ⊥) → (named j ps ≡ true → suc (total (wanted j) ps) ≡ length ps) → suc (wanted j p + total (wanted j) ps) ≡ suc (length ps)
    go (inl e) rec =
        let w : wanted j p ≡ 0 = cond-true (eqb p j) 0 1 (eq-eqb p j e) in
        let r = wanted_outside j ps (ap (λ c. named c ps) (sym e) ∙ d.0) in
        omega arith
    go (inr e) rec =
        let w : wanted j p ≡ 1 = cond-false (eqb p j) 0 1 (ne_eqb p j e) in
        let r = rec (later (or_cases (eqb j p) (named j ps) h)) in
        omega arith
      where
        later : (eqb j p ≡ true) ⊎ (named j ps ≡ true) → named j ps ≡ true
        later (inl k) = absurd (e (sym (eqb-true j p k)))
        later (inr k) = k

-- segments to j from a list of boxes that are apart: those from each
one_more : (a b c : Bool) → (b ≡ true → c ≡ true → ⊥) → cond (a && (b || c)) 1 0 ≡ cond (b && a) 1 0 + cond (a && c) 1 0
one_more true true true h = absurd (h refl refl)
one_more true true false h = refl
one_more true false true h = refl
one_more true false false h = refl
one_more false true true h = refl
one_more false true false h = refl
one_more false false true h = refl
one_more false false false h = refl

none_from : (came : List Segment) (j : ℕ) → from_to [] came j ≡ 0
none_from [] j = refl
none_from (s ∷ came) j = go (eqb s.receiver j) (none_from came j)
  where
    go : (t : Bool) → from_to [] came j ≡ 0 → cond (t && false) 1 0 + from_to [] came j ≡ 0
    go true r = omega arith
    go false r = omega arith

from_more : (p : ℕ) (ps : List ℕ) (came : List Segment) (j : ℕ) → named p ps ≡ false → from_to (p ∷ ps) came j ≡ times_came came p j + from_to ps came j
from_more p ps [] j h = refl
from_more p ps (s ∷ came) j h =
    let r = from_more p ps came j h in
    let o = one_more (eqb s.receiver j) (eqb s.sender p) (named s.sender ps)
    (λ e n. both_ways (named p ps) h (ap (λ c. named c ps) (sym (eqb-true s.sender p e)) ∙ n)) in
    omega arith

pub from_each : (ps : List ℕ) (came : List Segment) (j : ℕ) → Distinct ps → from_to ps came j ≡ total (λ p. times_came came p j) ps
from_each [] came j d = none_from came j
from_each (p ∷ ps) came j d = from_more p ps came j d.0 ∙ ap (λ r. times_came came p j + r) (from_each ps came j d.1)

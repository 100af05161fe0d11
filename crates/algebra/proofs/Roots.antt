-- A polynomial of n coefficients with n different roots is zero. By division by X + a, over the list of coefficients.
use Rattle.std.proofs.Common.{◌≡◌, ℕ, zero, suc, ◌<◌, ◌≤◌, List, [], ◌∷◌, length, sym, refl, ap, ◌∙◌, ap₂, arith}
use mathlib.Core.Path.{◌≡⟨◌⟩◌, ◌∎}
use Rattle.field.specs.Laws.{Ops, Laws}
use Rattle.algebra.specs.Poly.{poly, Apart, RootCount}
use Rattle.algebra.proofs.Ring.{ring, add_self, eq_of_add, cancel}
use Rattle.algebra.proofs.Poly.{poly_none, poly_front}

-- Each element of the list has the property.
abbrev All : {E : Type 0} → (E → Type 0) → List E → Type 0
All P [] = Unit {0}
All P (x ∷ xs) = P x × All P xs

-- No two of the elements are equal.
abbrev Distinct : {E : Type 0} → List E → Type 0
Distinct [] = Unit {0}
Distinct (x ∷ xs) = All (λ y. x ≡ y → ⊥) xs × Distinct xs

module _ {E : Type 0} where
  unfoldable tabulate : ℕ → (ℕ → E) → List E
  tabulate zero f = []
  tabulate (suc n) f = f 0 ∷ tabulate n (λ i. f (suc i))

  length_tabulate : (n : ℕ) (f : ℕ → E) → length (tabulate n f) ≡ n
  unfolding tabulate
  length_tabulate zero f = refl
  length_tabulate (suc n) f = ap suc (length_tabulate n (λ i. f (suc i)))

  all_tabulate : (P : E → Type 0) (n : ℕ) (f : ℕ → E) → ((i : ℕ) → i < n → P (f i)) → All P (tabulate n f)
  unfolding tabulate
  all_tabulate P zero f h = tt
  all_tabulate P (suc n) f h = (h 0 (omega arith), all_tabulate P n (λ i. f (suc i)) (λ i l. h (suc i) (omega arith)))

  tabulate_all : (P : E → Type 0) (n : ℕ) (f : ℕ → E) → All P (tabulate n f) → (i : ℕ) → i < n → P (f i)
  unfolding tabulate
  tabulate_all P zero f h i l = absurd (omega arith)
  tabulate_all P (suc n) f h zero l = h.0
  tabulate_all P (suc n) f h (suc i) l = tabulate_all P n (λ i. f (suc i)) h.1 i (omega arith)

  distinct_tabulate : (n : ℕ) (p : ℕ → E) → Apart n p → Distinct (tabulate n p)
  unfolding tabulate
  distinct_tabulate zero p h = tt
  distinct_tabulate (suc n) p h = (
    all_tabulate (λ y. p 0 ≡ y → ⊥) n (λ i. p (suc i)) (λ i l e. let z : ◌≡◌ {A = ℕ} 0 (suc i) = h 0 (suc i) (omega arith) (omega arith) e in omega arith),
    distinct_tabulate n (λ i. p (suc i)) (λ i j l k e. let z : suc i ≡ suc j = h (suc i) (suc j) (omega arith) (omega arith) e in omega arith),
  )

module _ {E : Type 0} (F : Ops E) where
  -- The value at x of the polynomial with these coefficients.
  unfoldable eval : List E → E → E
  eval [] x = F.zero
  eval (c ∷ cs) x = F.add c (F.mul x (eval cs x))

  abbrev Zeros : List E → Type 0
  Zeros p = All (λ c. c ≡ F.zero) p

  -- The coefficients of the quotient of c ∷ cs by X + a, whatever c is.
  unfoldable quotient : E → List E → List E
  quotient a [] = []
  quotient a (d ∷ ds) = eval (d ∷ ds) a ∷ quotient a ds

  length_quotient : (a : E) (cs : List E) → length (quotient a cs) ≡ length cs
  unfolding quotient
  length_quotient a [] = refl
  length_quotient a (d ∷ ds) = ap suc (length_quotient a ds)

module _ {E : Type 0} {F : Ops E} (L : Laws F) where
  open F use {add as ◌⊕◌, mul as ◌⊗◌, zero as 𝟎}

  infixl 60 ◌⊕◌
  infixl 70 ◌⊗◌
  divides_step : (a x d u v q : E) → x ⊗ u ⊕ a ⊗ v ≡ (x ⊕ a) ⊗ q → x ⊗ (d ⊕ x ⊗ u) ⊕ a ⊗ (d ⊕ a ⊗ v) ≡ (x ⊕ a) ⊗ ((d ⊕ a ⊗ v) ⊕ x ⊗ q)
  divides_step a x d u v q h =
      x ⊗ (d ⊕ x ⊗ u) ⊕ a ⊗ (d ⊕ a ⊗ v) ≡⟨ (simp (ring, L)) ⟩
      (x ⊕ a) ⊗ (d ⊕ a ⊗ v) ⊕ x ⊗ (x ⊗ u ⊕ a ⊗ v) ≡⟨ (rw h) ⟩
      (x ⊕ a) ⊗ (d ⊕ a ⊗ v) ⊕ x ⊗ ((x ⊕ a) ⊗ q) ≡⟨ (simp (ring, L)) ⟩
      (x ⊕ a) ⊗ ((d ⊕ a ⊗ v) ⊕ x ⊗ q) ∎

  divides : (a x : E) (cs : List E) → x ⊗ eval F cs x ⊕ a ⊗ eval F cs a ≡ (x ⊕ a) ⊗ eval F (quotient F a cs) x
  unfolding eval quotient
  divides a x [] = simp (ring, L)
  divides a x (d ∷ ds) = divides_step a x d (eval F ds x) (eval F ds a) (eval F (quotient F a ds) x) (divides a x ds)

  divides' : (a x c : E) (cs : List E) → eval F (c ∷ cs) x ⊕ eval F (c ∷ cs) a ≡ (x ⊕ a) ⊗ eval F (quotient F a cs) x
  unfolding eval
  divides' a x c cs = rw (← (divides a x cs)) (simp (ring, L))

  head_zero : (c x u : E) → u ≡ 𝟎 → c ⊕ x ⊗ u ≡ c
  head_zero c x u h = rw h (simp (ring, L))

  eval_head : (c x : E) (cs : List E) → Zeros F cs → eval F (c ∷ cs) x ≡ c
  unfolding eval
  eval_head c x [] z = head_zero c x 𝟎 refl
  eval_head c x (d ∷ ds) z = head_zero c x (eval F (d ∷ ds) x) (eval_head d x ds z.1 ∙ z.0)

  quotient_zeros : (a : E) (cs : List E) → Zeros F (quotient F a cs) → Zeros F cs
  unfolding quotient
  quotient_zeros a [] z = tt
  quotient_zeros a (d ∷ ds) z =
      let r = quotient_zeros a ds z.1 in
      (sym (eval_head d a ds r) ∙ z.0, r)

  quotient_roots : (a c : E) (cs xs : List E) → eval F (c ∷ cs) a ≡ 𝟎 → All (λ y. a ≡ y → ⊥) xs → All (λ x. eval F (c ∷ cs) x ≡ 𝟎) xs →
      All (λ x. eval F (quotient F a cs) x ≡ 𝟎) xs
  quotient_roots a c cs [] e ds rs = tt
  quotient_roots a c cs (x ∷ xs) e ds rs = (
    cancel L (x ⊕ a) (eval F (quotient F a cs) x) (λ h. ds.0 (sym (eq_of_add L x a h))) (sym (divides' a x c cs) ∙ ap₂ F.add rs.0 e ∙ add_self L 𝟎),
    quotient_roots a c cs xs e ds.1 rs.1,
  )

  roots : (xs : List E) → Distinct xs → (p : List E) → length p ≤ length xs → All (λ x. eval F p x ≡ 𝟎) xs → Zeros F p
  roots xs ds [] le rs = tt
  roots [] ds (c ∷ cs) le rs = absurd (omega arith)
  roots (a ∷ xs) ds (c ∷ cs) le rs =
      let z : Zeros F cs = quotient_zeros a cs (roots xs ds.1 (quotient F a cs) (rw length_quotient (omega arith)) (quotient_roots a c cs xs rs.0 ds.0 rs.1)) in
      (sym (eval_head c a cs z) ∙ rs.0, z)

  eval_tabulate : (n : ℕ) (f : ℕ → E) (x : E) → eval F (tabulate n f) x ≡ poly F n f x
  unfolding eval tabulate
  eval_tabulate zero f x = sym (poly_none F f x)
  eval_tabulate (suc n) f x = ap (λ v. f 0 ⊕ x ⊗ v) (eval_tabulate n (λ i. f (suc i)) x) ∙ sym (poly_front L n f x)

  pub root_count : RootCount F
  root_count n m f p le apart h =
      tabulate_all (λ c. c ≡ 𝟎) n f
      (roots (tabulate m p) (distinct_tabulate m p apart) (tabulate n f) (simp length_tabulate le)
      (all_tabulate (λ x. eval F (tabulate n f) x ≡ 𝟎) m p (λ t l. eval_tabulate n f (p t) ∙ h t l)))

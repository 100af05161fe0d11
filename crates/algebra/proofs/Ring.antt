-- Ring equations of characteristic two: the ruleset `ring`, for `simp (ring, L)` under the laws L, and the lemmas that
-- it is made of; what follows from inverses; equality is decided.
use Rattle.std.proofs.Common.{◌≡◌, ℕ, sym, refl, ap, ◌∙◌, arith}
use native.Mathlib.Decide.{ℕ_discrete}
use Rattle.field.specs.Laws.{Ops, Laws}

module _ {E : Type 0} {F : Ops E} (L : Laws F) where
  pub add_zero : (x : E) → F.add x F.zero ≡ x
  add_zero x = L.add_zero x

  pub add_self : (x : E) → F.add x x ≡ F.zero
  add_self x = L.add_self x

  pub add_comm : (x y : E) → F.add x y ≡ F.add y x
  add_comm x y = L.add_comm x y

  pub add_assoc : (x y z : E) → F.add (F.add x y) z ≡ F.add x (F.add y z)
  add_assoc x y z = L.add_assoc x y z

  pub mul_comm : (x y : E) → F.mul x y ≡ F.mul y x
  mul_comm x y = L.mul_comm x y

  pub mul_assoc : (x y z : E) → F.mul (F.mul x y) z ≡ F.mul x (F.mul y z)
  mul_assoc x y z = L.mul_assoc x y z

  pub mul_one : (x : E) → F.mul x F.one ≡ x
  mul_one x = L.mul_one x

  pub mul_add : (x y z : E) → F.mul x (F.add y z) ≡ F.add (F.mul x y) (F.mul x z)
  mul_add x y z = L.mul_add x y z

  pub zero_add : (x : E) → F.add F.zero x ≡ x
  zero_add x = add_comm F.zero x ∙ add_zero x

  pub one_mul : (x : E) → F.mul F.one x ≡ x
  one_mul x = mul_comm F.one x ∙ mul_one x

  pub add_left_comm : (x y z : E) → F.add x (F.add y z) ≡ F.add y (F.add x z)
  add_left_comm x y z = sym (add_assoc x y z) ∙ rw (add_comm x y) (add_assoc y x z)

  pub add_self_left : (x y : E) → F.add x (F.add x y) ≡ y
  add_self_left x y = rw (← (add_assoc x x y), add_self, zero_add)

  pub mul_left_comm : (x y z : E) → F.mul x (F.mul y z) ≡ F.mul y (F.mul x z)
  mul_left_comm x y z = sym (mul_assoc x y z) ∙ rw (mul_comm x y) (mul_assoc y x z)

  pub add_mul : (x y z : E) → F.mul (F.add x y) z ≡ F.add (F.mul x z) (F.mul y z)
  add_mul x y z = rw (mul_comm (F.add x y) z, mul_add, mul_comm z x, mul_comm z y)

  pub mul_zero : (x : E) → F.mul x F.zero ≡ F.zero
  mul_zero x = ap (F.mul x) (sym (add_self F.zero)) ∙ mul_add x F.zero F.zero ∙ add_self (F.mul x F.zero)

  pub zero_mul : (x : E) → F.mul F.zero x ≡ F.zero
  zero_mul x = mul_comm F.zero x ∙ mul_zero x

  -- a sum is zero only where its two parts are equal
  pub eq_of_add : (x y : E) → F.add x y ≡ F.zero → x ≡ y
  eq_of_add x y h = sym (add_zero x) ∙ ap (F.add x) (sym (add_self y)) ∙ sym (add_assoc x y y) ∙ rw h (zero_add y)

  pub add_of_eq : (x y : E) → x ≡ y → F.add x y ≡ F.zero
  add_of_eq x y e = rw e (add_self y)

  -- a product is zero only where one of its factors is
  pub cancel : (x y : E) → (x ≡ F.zero → ⊥) → F.mul x y ≡ F.zero → y ≡ F.zero
  cancel x y nz h = sym (one_mul y) ∙ rw (← (L.mul_inv x nz), mul_comm x (F.inv x), mul_assoc (F.inv x) x y, h) (mul_zero (F.inv x))

  pub mul_nonzero : (x y : E) → (x ≡ F.zero → ⊥) → (y ≡ F.zero → ⊥) → F.mul x y ≡ F.zero → ⊥
  mul_nonzero x y nx ny h = ny (cancel x y nx h)

  pub inv_mul : (x : E) → (x ≡ F.zero → ⊥) → F.mul (F.inv x) x ≡ F.one
  inv_mul x nz = mul_comm (F.inv x) x ∙ L.mul_inv x nz

  pub inv_unique : (x y : E) → F.mul x y ≡ F.one → (x ≡ F.zero → ⊥) → y ≡ F.inv x
  inv_unique x y h nz = sym (one_mul y) ∙ rw (← (inv_mul x nz), mul_assoc (F.inv x) x y, h) (mul_one (F.inv x))

  -- the equation x y = z, solved for y
  pub divide : (x y z : E) → (x ≡ F.zero → ⊥) → F.mul x y ≡ z → y ≡ F.mul (F.inv x) z
  divide x y z nz h = sym (one_mul y) ∙ rw (← (inv_mul x nz), mul_assoc (F.inv x) x y, h) refl

  pub zero_one : F.zero ≡ F.one → ⊥
  zero_one e = let h : ◌≡◌ {A = ℕ} 0 1 = sym L.code_zero ∙ ap F.code e ∙ L.code_one in omega arith

  pub inv_nonzero : (x : E) → (x ≡ F.zero → ⊥) → F.inv x ≡ F.zero → ⊥
  inv_nonzero x nz h = zero_one (sym (mul_zero x) ∙ ap (F.mul x) (sym h) ∙ L.mul_inv x nz)

  same_code : (x y : E) → F.code x ≡ F.code y → x ≡ y
  same_code x y e = sym (L.element_code x) ∙ ap F.element e ∙ L.element_code y

  pub decide : (x y : E) → Dec (x ≡ y)
  decide x y = go (ℕ_discrete (F.code x) (F.code y))
    where
      go : Dec (F.code x ≡ F.code y) → Dec (x ≡ y)
      go (yes e) = yes (same_code x y e)
      go (no ne) = no (λ e. ne (ap F.code e))

pub ruleset ring = (add_mul, mul_add, mul_zero, zero_mul, mul_one, one_mul, mul_assoc, mul_comm, mul_left_comm, add_zero, zero_add, add_assoc, add_self, add_self_left, add_comm, add_left_comm)

-- What a finite field of characteristic two is: its operations, and the laws that make them a field.
use Rattle.std.specs.Prelude.{◌≡◌, ℕ, ◌%◌, ◌^◌, ◌<◌, ◌≢◌}

-- The operations on the elements E. Each element has a code, a whole number below 2 ^ bits.
pub record Ops (E : Type 0) : Type 0 where
  pub bits : ℕ
  pub zero : E
  pub one : E
  pub add : E → E → E
  pub mul : E → E → E
  -- the inverse; of zero, which has none, it is zero, so that formulas have a value everywhere
  pub inv : E → E
  pub code : E → ℕ
  -- the element whose code is the number's low bits
  pub element : ℕ → E

-- The laws. Equal elements are those of equal codes (element_code), and zero and one differ, having the codes 0 and 1.
pub record Laws {E : Type 0} (F : Ops E) : Type 0 where
  pub add_assoc : (x y z : E) → F.add (F.add x y) z ≡ F.add x (F.add y z)
  pub add_comm : (x y : E) → F.add x y ≡ F.add y x
  pub add_zero : (x : E) → F.add x F.zero ≡ x
  pub add_self : (x : E) → F.add x x ≡ F.zero
  pub mul_assoc : (x y z : E) → F.mul (F.mul x y) z ≡ F.mul x (F.mul y z)
  pub mul_comm : (x y : E) → F.mul x y ≡ F.mul y x
  pub mul_one : (x : E) → F.mul x F.one ≡ x
  pub mul_add : (x y z : E) → F.mul x (F.add y z) ≡ F.add (F.mul x y) (F.mul x z)
  pub mul_inv : (x : E) → (x ≢ F.zero) → F.mul x (F.inv x) ≡ F.one
  pub inv_zero : F.inv F.zero ≡ F.zero
  pub code_below : (x : E) → F.code x < 2 ^ F.bits
  pub element_code : (x : E) → F.element (F.code x) ≡ x
  pub code_element : (n : ℕ) → F.code (F.element n) ≡ n % 2 ^ F.bits
  pub code_zero : F.code F.zero ≡ 0
  pub code_one : F.code F.one ≡ 1

-- No y has y · y + y = nu: the polynomial z · z + z + nu has no root, so that it extends the field.
abbrev pub NoRoot : {E : Type 0} → Ops E → E → Type 0
NoRoot {E} F nu = (y : E) → F.add (F.mul y y) y ≢ nu

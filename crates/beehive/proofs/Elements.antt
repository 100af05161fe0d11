-- Codes past 16 bits: an element by the low bits of a number is that of the number.
use Rattle.std.proofs.Common.{◌≡◌, ℕ, ◌+◌, ◌-◌, ◌%◌, ◌^◌, ◌≤◌, sym, ap, ◌∙◌, arith}
use lib.Pow.{mod-mod-pow}
use Rattle.field.specs.Laws.{Ops, Laws}

module _ {E : Type 0} {F : Ops E} (L : Laws F) where
  low_code : (n : ℕ) → F.element (n % 2 ^ F.bits) ≡ F.element n
  low_code n = ap F.element (sym (L.code_element n)) ∙ L.element_code (F.element n)

  -- an element by the low 16 bits of a number is that of the number
  pub element_low : F.bits ≤ 16 → (n : ℕ) → F.element (n % 65536) ≡ F.element n
  element_low le n =
      let e : 16 - F.bits + F.bits ≡ 16 = omega arith in
      let h : n % 2 ^ 16 % 2 ^ F.bits ≡ n % 2 ^ F.bits = ap (λ b. n % 2 ^ b % 2 ^ F.bits) (sym e) ∙ mod-mod-pow n (16 - F.bits) F.bits in
      sym (low_code (n % 65536)) ∙ ap F.element h ∙ low_code n

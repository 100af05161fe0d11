-- The four fields that are used, and the figures of their arithmetic that are known from outside, by codes.
use Rattle.std.specs.Prelude.{◌≡◌, ℕ}
use Rattle.field.specs.declared.residue.Residue.{Residue}
use Rattle.field.specs.declared.pair.Pair.{Pair}
use Rattle.field.specs.Laws.{Ops}
use Rattle.field.specs.Residues.{code_of, from_code, modulo}
use Rattle.field.specs.Pairs.{pairs}

abbrev pub nibble : Ops (Residue 4)
nibble = modulo 4 19 (code_of 4) (from_code 4)

abbrev pub byte : Ops (Residue 8)
byte = modulo 8 285 (code_of 8) (from_code 8)

abbrev pub over_nibble : Ops (Pair (Residue 4))
over_nibble = pairs nibble (from_code 4 8)

abbrev pub over_byte : Ops (Pair (Residue 8))
over_byte = pairs byte (from_code 8 32)

module _ {E : Type 0} (F : Ops E) where
  -- the code of the product of two elements, given by their codes
  abbrev pub product_code : ℕ → ℕ → ℕ
  product_code a b = F.code (F.mul (F.element a) (F.element b))

  abbrev pub inverse_code : ℕ → ℕ
  inverse_code a = F.code (F.inv (F.element a))

pub record Figures : Type 0 where
  pub in_nibble : product_code nibble 6 7 ≡ 1
  pub in_byte : product_code byte 2 128 ≡ 29
  pub over_nibble_product : product_code over_nibble 16 16 ≡ 24
  pub over_nibble_inverse : inverse_code over_nibble 16 ≡ 255
  pub over_byte_product : product_code over_byte 256 256 ≡ 288
  pub over_byte_inverse : inverse_code over_byte 256 ≡ 27756

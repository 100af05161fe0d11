-- The figures, computed from the definitions.
use Rattle.std.proofs.Common.{refl}
use Rattle.field.specs.Polynomials.{carryless, remainder, product, squares, inverse}
use Rattle.field.specs.Figures.{Figures}

pub known : Figures
unfolding carryless remainder product squares inverse
known = record {
  in_nibble = refl;
  in_byte = refl;
  over_nibble_product = refl;
  over_nibble_inverse = refl;
  over_byte_product = refl;
  over_byte_inverse = refl;
}

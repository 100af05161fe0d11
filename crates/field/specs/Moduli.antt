-- The two moduli that have tables, and the laws of their fields.
use Rattle.std.specs.Prelude.{◌-◌, ◌^◌}
use Rattle.std.proofs.Common.{lit<, lit≤}
use Rattle.field.specs.Laws.{Laws}
use Rattle.field.specs.Figures.{nibble, byte}
use Rattle.field.specs.Polynomials.{carryless, remainder, product, squares, inverse}
use Rattle.field.specs.Residues.{Modulus}
use Rattle.field.specs.Computed.{inverses}
use Rattle.field.specs.Fields.{coded, laws}

pub nibble_modulus : Modulus 4 19
unfolding carryless remainder product squares inverse
nibble_modulus = record { degree = (lit< tt, lit≤ tt, lit< tt); invertible = inverses 4 19 (2 ^ 4 - 1) tt }

pub byte_modulus : Modulus 8 285
unfolding carryless remainder product squares inverse
byte_modulus = record { degree = (lit< tt, lit≤ tt, lit< tt); invertible = inverses 8 285 (2 ^ 8 - 1) tt }

pub nibble_laws : Laws nibble
nibble_laws = laws nibble_modulus (coded 4)

pub byte_laws : Laws byte
byte_laws = laws byte_modulus (coded 8)

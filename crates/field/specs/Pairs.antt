-- The pairs low + high · z over a field, where z · z = z + nu.
use Rattle.std.specs.Prelude.{◌+◌, ◌*◌, ◌/◌, ◌^◌}
use Rattle.field.specs.declared.pair.Pair.{Pair}
use Rattle.field.specs.Laws.{Ops}

abbrev pub pair_of : {E : Type 0} → E → E → Pair E
pair_of a b = record { low = a; high = b }

module _ {E : Type 0} (B : Ops E) (nu : E) where
  -- (a + b z) (a + b + b z) = a (a + b) + nu b b, which lies in the base field
  abbrev pub norm : E → E → E
  norm a b = B.add (B.mul a (B.add a b)) (B.mul nu (B.mul b b))

  abbrev pub pairs : Ops (Pair E)
  pairs = record {
    bits = B.bits + B.bits;
    zero = pair_of B.zero B.zero;
    one = pair_of B.one B.zero;
    add = λ x y. pair_of (B.add x.low y.low) (B.add x.high y.high);
    -- (a + b z) (c + d z) = a c + nu b d + (a d + b c + b d) z
    mul = λ x y. pair_of
        (B.add (B.mul x.low y.low) (B.mul nu (B.mul x.high y.high)))
        (B.add (B.add (B.mul x.low y.high) (B.mul x.high y.low)) (B.mul x.high y.high));
    inv = λ x. pair_of
        (B.mul (B.add x.low x.high) (B.inv (norm x.low x.high)))
        (B.mul x.high (B.inv (norm x.low x.high)));
    code = λ x. B.code x.low + 2 ^ B.bits * B.code x.high;
    element = λ n. pair_of (B.element n) (B.element (n / 2 ^ B.bits));
  }

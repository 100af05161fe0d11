use Rattle.std.proofs.Common.{◌≡◌, ℕ, ◌-◌, ◌*◌, ◌%◌, ◌^◌, ◌<◌, ap, ◌∙◌, mod-eq_of_lt, one-mul, arith}
use lib.Pow.{pow-lt}
use Rattle.field.specs.Polynomials.{power}
use Rattle.field.specs.Fields.{power_inverse}
use Rattle.field.proofs.tabled.power_inverse.Goals as goal

pub returns : goal.returns
returns g c =
    let f = g.T.Tables in
    let few : f.m < 64 = omega (arith, g.met.T.Tables.few) in
    let size : (1 * 2 ^ c.bits.result) % 2 ^ 64 ≡ 2 ^ f.m =
    ap (λ (n : ℕ). n % 2 ^ 64) (one-mul (2 ^ c.bits.result) ∙ ap (λ (n : ℕ). 2 ^ n) c.bits.ensures) ∙ mod-eq_of_lt (pow-lt few) in
    c.power.ensures ∙ ap (λ (n : ℕ). power f.m f.p (n - 1 - c.args.i)) size
    ∙ power_inverse g.met.T.Tables.modulus (2 ^ f.m - 1) c.args.i g.met.T.Tables.round c.requires

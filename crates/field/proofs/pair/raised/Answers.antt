use Rattle.std.proofs.Common.{◌≡◌, ℕ, suc, ◌+◌, ◌*◌, ◌%◌, ◌^◌, ◌<◌, ◌≤◌, sym, ◌∙◌, subst, ap₂, mul-le-mul_right, suc-mul, mul_comm, arith, pow_mono, pow-add, shl_exact}
use Rattle.field.proofs.pair.raised.Goals as goal

-- a number below 2 ^ m, m bits up, leaves room for m bits more
room : (m v : ℕ) → m ≤ 8 → v < 2 ^ m → v * 2 ^ m + 2 ^ m ≤ 2 ^ 16
room m v few h =
    let top : suc v * 2 ^ m ≤ 2 ^ m * 2 ^ m = mul-le-mul_right (2 ^ m) h in
    let few' : m + m ≤ 16 = omega arith in
    let all : 2 ^ (m + m) ≤ 2 ^ 16 = pow_mono few' in
    omega (arith, suc-mul v (2 ^ m), pow-add 2 m m)

pub returns : goal.returns
returns g c =
    let b = g.B.Extensible.ops in
    let v : ℕ = b.code c.args.a in
    let below : v < 2 ^ b.bits = g.met.B.Extensible.laws.code_below c.args.a in
    let is : (c.code.result * 2 ^ c.bits.result) % 2 ^ 16 ≡ v * 2 ^ b.bits =
    ap₂ (λ (u k : ℕ). (u * 2 ^ k) % 2 ^ 16) c.code.ensures c.bits.ensures
    ∙ shl_exact b.bits b.bits 16 below (omega (arith, g.met.B.Extensible.range.1)) in
    record {
      value = is ∙ mul_comm v (2 ^ b.bits);
      bound = subst (λ (n : ℕ). n + 2 ^ b.bits ≤ 2 ^ 16) (sym is) (room b.bits v g.met.B.Extensible.range.1 below);
    }

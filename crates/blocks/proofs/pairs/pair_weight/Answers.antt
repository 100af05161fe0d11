use Rattle.std.proofs.Common.{◌≡◌, suc, ◌<◌, length, ap, ◌∙◌, arith}
use Rattle.algebra.specs.Poly.{poly, power, factors, besides}
use Rattle.algebra.specs.Cells.{entry}
use Rattle.algebra.proofs.Products.{read_entry}
use Rattle.blocks.proofs.Pairing.{pair_made}
use Rattle.blocks.proofs.pairs.pair_weight.Goals as goal

pub returns : goal.returns
returns g c =
    let F = g.F.Field.ops in
    let ps = c.args.points.now in
    let i = c.args.i in
    let j = c.args.j in
    let f = c.product_besides.new.f in
    let n = length c.args.row.now in
    let li : i < length ps = omega arith in
    let lj : j < length ps = omega arith in
    let lq : c.args.q < length f = omega arith in
    let m : length f ≡ n = omega arith in
    let e : length ps ≡ suc n = omega arith in
    c.mul-2.ensures ∙ ap (λ v. F.mul v c.index-row-q.result) c.mul.ensures ∙
    pair_made F n (entry F ps) i j c.args.x c.args.q (entry F f) c.index-points-i.result c.index-points-j.result c.power_ratio-powers.result c.value_ratio-values.result c.index-row-q.result
    (λ k b. c.product_besides.ensures k b ∙ ap (λ m. factors F (besides i j) (entry F ps) m k) e) (omega arith)
    (read_entry F ps i c.index-points-i.result li c.index-points-i.is) (read_entry F ps j c.index-points-j.result lj c.index-points-j.is)
    (c.power_ratio-powers.ensures ∙ ap (λ m. F.mul (F.add (power F c.args.x m) (power F c.index-points-j.result m)) (F.inv (F.add (power F c.index-points-i.result m) (power F c.index-points-j.result m)))) m)
    (c.value_ratio-values.ensures ∙ ap (λ m. F.mul (poly F m (entry F f) c.args.x) (F.inv (F.mul (poly F m (entry F f) c.index-points-i.result) (poly F m (entry F f) c.index-points-j.result)))) m)
    (read_entry F f c.args.q c.index-row-q.result lq c.index-row-q.is)

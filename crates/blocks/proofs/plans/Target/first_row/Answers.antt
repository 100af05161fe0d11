use Rattle.std.proofs.Common.{◌≡◌, suc, ◌*◌, ◌/◌, ◌%◌, ◌<◌, ◌≤◌, length, ap, ◌∙◌, ap₂, arith}
use Rattle.algebra.specs.Cells.{entry}
use Rattle.beehive.specs.Numbers.{alpha, beta, virtuals}
use Rattle.blocks.specs.Weights.{pair_cell, grid_sum}
use Rattle.coder.proofs.Indices.{row_of, row_inside}
use Rattle.blocks.proofs.Grids.{grid_first}
use Rattle.blocks.proofs.plans.Target.first_row.Goals as goal

pub first_cell-requires : goal.first_cell-requires
first_cell-requires g c =
    let N = c.args.self.now.numbers.now in
    let m = length c.args.self.now.points.now in
    let e = c.loop-e.e in
    let b = c.beta-beta.result in
    let eb : b ≡ beta N = c.beta-beta.ensures in
    let l : e < N.k * b = rw eb (omega arith) in
    let h : e / b < N.k = row_of e N.k b (omega arith) l in
    let k : c.needed.result * m ≡ N.k * m = ap (λ n. n * m) c.needed.ensures in
    let f : N.k * m ≤ length c.fill_pairs.new.pairs = omega (arith, c.fill_pairs.auto.pairs, c.split_at_mut-pairs.ensures.front_len) in
    row_inside (e / b) N.k m (length c.fill_pairs.new.pairs) h f

pub returns : goal.returns
returns g c = λ e l.
    let F = g.F.Field.ops in
    let N = c.args.self.now.numbers.now in
    let ps = c.args.self.now.points.now in
    let ws = c.fill_pairs.new.pairs in
    let x = c.args.self.now.x in
    let q = c.args.q in
    let m : length ps ≡ suc (alpha N) = omega arith in
    let h : c.needed.result * length ps ≡ N.k * suc (alpha N) = ap₂ (◌*◌) c.needed.ensures m in
    let a = c.split_at_mut-row.ensures.front_len ∙ c.alpha.ensures in
    c.loop-e.invariant.done e (omega arith) ∙
    ap (λ m. grid_sum F m (entry F ps) (entry F ws) (alpha N) (e / beta N) (e % beta N)) m ∙
    grid_first g.met.F.Field.laws N (entry F ps) (entry F ws) x q (e / beta N) (e % beta N) (row_of e N.k (beta N) (omega arith) (omega arith))
    (λ k d. c.fill_pairs.ensures k (omega (arith, c.fill_pairs.auto.pairs, c.split_at_mut-pairs.ensures.front_len)) ∙ ap (λ n. pair_cell F n (entry F ps) (virtuals N) x q k) a)

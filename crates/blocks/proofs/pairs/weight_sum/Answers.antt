use Rattle.std.proofs.Common.{◌≡◌, ℕ, ◌+◌, ◌*◌, ◌-◌, ◌<◌, length, take, drop, sym, ap, ◌∙◌, ap₂, length-append, get_or-take, get_or-drop, rules, arith}
use Rattle.std.proofs.lemmas.Slice.Zip.{zip_turn}
use Rattle.algebra.specs.Poly.{sum, power}
use Rattle.algebra.specs.Cells.{entry}
use Rattle.algebra.proofs.Sum.{sum_none}
use Rattle.coder.proofs.Formulas.{sum_turn}
use Rattle.blocks.proofs.pairs.weight_sum.Goals as goal

pub loop-p-init : goal.loop-p-init
loop-p-init g c = c.zero-total.ensures ∙ sym (sum_none g.F.Field.ops _)

pub loop-p-preserved : goal.loop-p-preserved
loop-p-preserved g c =
    let F = g.F.Field.ops in
    let ps = c.args.points.now in
    let ws = c.args.pairs.now in
    let start = c.args.i * length ps in
    let n = start + length ps - start in
    let j = length c.loop-p.yielded in
    let f = λ (j : ℕ). F.mul (entry F ws (start + j)) (power F (entry F ps j) c.args.l) in
    let turn = zip_turn ps (take n (drop start ws)) c.loop-p.yielded c.into_iter-p-iterator.result c.loop-p.p-iterator c.next.new.self c.next.result (search rules) (search rules)
    c.loop-p.yielded_by (c.in-Some.p, c.in-Some.w) c.in-Some.is c.next.ensures.steps in
    let inside : j < n = omega (arith, turn.0) in
    let weight : c.in-Some.w.now ≡ entry F ws (start + j) = turn.3 F.zero ∙ get_or-take n (drop start ws) j F.zero inside ∙ get_or-drop start ws j F.zero in
    let height : c.raised.result ≡ power F (entry F ps j) c.args.l = c.raised.ensures ∙ ap (λ x. power F x c.args.l) (turn.2 F.zero) in
    sum_turn F f j c.loop-p.total c.mul.result c.add-total.result c.loop-p.invariant (c.mul.ensures ∙ ap₂ F.mul weight height) c.add-total.ensures ∙
    ap (λ n. sum F n f) (sym (length-append c.loop-p.yielded _))

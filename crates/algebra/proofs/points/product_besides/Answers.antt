use Rattle.std.proofs.Common.{◌+◌, ◌<◌, length, sym, ap, ◌∙◌, subst, arith}
use Rattle.algebra.specs.Poly.{Same, besides, factors}
use Rattle.algebra.specs.Cells.{entry}
use Rattle.algebra.proofs.Factors.{factors_none}
use Rattle.algebra.proofs.Products.{read_entry, kept_turn, left_turn}
use Rattle.algebra.proofs.points.product_besides.Goals as goal
use Rattle.algebra.proofs.points.product_besides.Goals.{then-is_besides, else-is_besides}

pub loop-c-init : goal.loop-c-init
loop-c-init g c = λ k l. c.set_one.ensures k (omega arith) ∙
    ap (λ h. h k) (sym (factors_none g.F.Field.ops (besides c.args.i c.args.j) (entry g.F.Field.ops c.args.points.now)))

pub loop-c-preserved : goal.loop-c-preserved
loop-c-preserved g c =
    let F = g.F.Field.ops in
    let ps = c.args.points.now in
    let n = length c.set_one.new.f in
    let t = c.loop-c.c in
    let keep = besides c.args.i c.args.j in
    let l : t < length ps = omega arith in
    elim c.if-is_besides.branch [
      | then-is_besides w ↦
          let r = kept_turn F n keep (entry F ps) t c.index-points-c.result (entry F c.loop-c.f) (entry F w.times_root.new.f)
          (sym c.is_besides.ensures ∙ w.if-is_besides.true) (read_entry F ps t c.index-points-c.result l c.index-points-c.is) c.loop-c.invariant
          (λ k h. w.times_root.ensures.after k (omega arith)) in
          subst (λ f. Same n (entry F f) (factors F keep (entry F ps) (t + 1))) (sym w.f-is) r
      | else-is_besides w ↦
          let r = left_turn F n keep (entry F ps) t (entry F c.loop-c.f) (sym c.is_besides.ensures ∙ w.if-is_besides.false) c.loop-c.invariant in
          subst (λ f. Same n (entry F f) (factors F keep (entry F ps) (t + 1))) (sym w.f-is) r
    ]

use Rattle.std.proofs.Common.{◌≡◌, ◌<◌, length, ap, ◌∙◌, subst, ap₂, arith, length-take}
use Rattle.std.proofs.lemmas.List.{get_or-take}
use Rattle.algebra.proofs.Writes.{Written, written_none, written_more}
use Rattle.coder.proofs.Cells.{target, written_all}
use Rattle.coder.proofs.rows.add_each.Goals as goal

pub loop-q-init : goal.loop-q-init
loop-q-init g c = written_none 0 (target g.F.Field.ops c.args.c c.args.row.now c.args.out.now) c.args.out.now

pub loop-q-preserved : goal.loop-q-preserved
loop-q-preserved g c =
    let F = g.F.Field.ops in
    let row = c.args.row.now in
    let out = c.args.out.now in
    let n = c.min-n.result in
    let q = c.loop-q.q in
    let s = length-take n row in
    let b : q < n = omega arith in
    let l : q < length c.loop-q.out = omega arith in
    written_more 0 (target F c.args.c row out) out c.loop-q.out q c.code.result l
    (c.code.ensures ∙ ap F.code (c.add.ensures ∙ ap₂ F.add (c.element.ensures ∙ ap F.element (c.loop-q.invariant.left q (omega arith)))
    (c.requires.multiple _ _ c.times.ensures ∙ ap (F.mul c.args.c) (c.element-in-loop-q.ensures ∙ ap F.element (get_or-take n row q 0 b))))) c.loop-q.invariant

pub returns : goal.returns
returns g c =
    let F = g.F.Field.ops in
    let n = c.min-n.result in
    let row = c.args.row.now in
    let out = c.args.out.now in
    let s = length-take n row in
    let e : c.loop-q.q ≡ n = omega arith in
    written_all F c.args.c row out c.loop-q.out n c.min-n.ensures c.loop-q.auto.out
    (subst (λ i. Written 0 (target F c.args.c row out) out c.loop-q.out i) e c.loop-q.invariant)

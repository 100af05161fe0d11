use Rattle.std.proofs.Common.{◌≡◌, ◌+◌, ◌-◌, ◌*◌, length, drop, subst, arith, length-drop, length-take}
use borrow.Rule.Slice.PartMut.{put_mid}
use Rattle.algebra.specs.Cells.{entry}
use Rattle.algebra.proofs.Solving.{Filled, row_ends, filled_more, filled_all}
use Rattle.algebra.proofs.solver.Points.fill.Goals as goal

pub loop-i-preserved : goal.loop-i-preserved
loop-i-preserved g c =
    let F = g.F.Field.ops in
    let ps = c.args.self.now.all.now in
    let m = length ps in
    let i = c.loop-i.i in
    let cols = c.args.cols in
    let cells = c.loop-i.cells in
    let h = row_ends i m cols (length c.args.cells.now) (omega arith) (omega arith) in
    let e : m ≡ i * cols + m - i * cols = omega arith in
    let n : length c.lagrange.new.row ≡ m = omega (arith, c.lagrange.auto.row, length-take (i * cols + m - i * cols) (drop (i * cols) cells), length-drop (i * cols) cells) in
    subst (λ k. Filled F m (entry F ps) cols c.args.cells.now (put_mid (i * cols) k cells c.lagrange.new.row) (i + 1)) e
    (filled_more F m (entry F ps) cols c.args.cells.now cells c.lagrange.new.row i (omega arith) (omega arith) n c.lagrange.ensures c.loop-i.invariant)

pub returns : goal.returns
returns g c =
    let F = g.F.Field.ops in
    let ps = c.args.self.now.all.now in
    let e : c.loop-i.i ≡ length ps = omega arith in
    filled_all F ps c.args.cols c.args.cells.now c.loop-i.cells
    (subst (λ n. Filled F (length ps) (entry F ps) c.args.cols c.args.cells.now c.loop-i.cells n) e c.loop-i.invariant)

use Rattle.std.proofs.Common.{◌≡◌, ◌≤◌, ◌++◌, length, drop, ◌∙◌, subst, arith, length-take}
use Rattle.algebra.specs.Poly.{Through}
use Rattle.algebra.specs.Cells.{entry}
use Rattle.algebra.proofs.Poly.{poly_cong}
use Rattle.algebra.proofs.Solving.{front_inside, front_above}
use Rattle.algebra.proofs.through.interpolate.Goals as goal

pub returns : goal.returns
returns g c =
    let F = g.F.Field.ops in
    let ps = c.args.points.now in
    let ys = c.args.values.now in
    let f = c.args.f.now in
    let s = c.args.scratch.now in
    let m = length ps in
    let fit = c.in_ok-points.ensures.1 in
    let lf : m ≤ length f = omega arith in
    let ls : m ≤ length s = omega arith in
    let nf : length c.combine.new.f ≡ m = omega (arith, c.combine.auto.f, length-take m f) in
    let ns : length c.combine.new.row ≡ m = omega (arith, c.combine.auto.row, length-take m s) in
    let h : Through F m (entry F ps) (entry F ys) (entry F c.combine.new.f) =
    subst (λ p. Through F (length p) (entry F p) (entry F ys) (entry F c.combine.new.f)) c.in_ok-points.ensures.0 c.combine.ensures in
    record {
      cases = rw (← c.min.ensures) fit;
      after = record {
        through = λ i b. poly_cong F m (entry F (c.combine.new.f ++ drop m f)) (entry F c.combine.new.f) (entry F ps i)
            (λ j d. front_inside m f c.combine.new.f F.zero nf j d) ∙ h i b;
        rest = λ j d. front_above m f c.combine.new.f F.zero nf j d;
      };
      scratch = λ j d. front_above m s c.combine.new.row F.zero ns j d;
    }

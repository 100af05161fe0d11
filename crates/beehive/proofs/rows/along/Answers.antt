use Rattle.std.proofs.Common.{length, sym, ap, ◌∙◌}
use Rattle.algebra.specs.Poly.{poly}
use Rattle.algebra.specs.Cells.{entry}
use Rattle.beehive.proofs.Values.{dot_poly}
use Rattle.beehive.proofs.rows.along.Goals as goal

pub returns : goal.returns
returns g c =
    let F = g.F.Field.ops in
    let xs = c.args.part.now in
    c.value.ensures ∙ ap (poly F (length xs) (entry F xs)) c.point_of.ensures ∙ sym (dot_poly g.met.F.Field.laws c.args.numbers.now (length xs) c.args.j (entry F xs))

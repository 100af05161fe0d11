use Rattle.std.proofs.Common.{ℕ, ap, ◌∙◌, ap₂, arith}
use Rattle.algebra.specs.Cells.{matrix}
use Rattle.beehive.specs.Numbers.{alpha}
use Rattle.beehive.specs.Points.{dot, powers}
use Rattle.beehive.proofs.rows.first_entry.Goals as goal

pub returns : goal.returns
returns g c =
    let F = g.F.Field.ops in
    let N = c.args.numbers.now in
    let s = c.args.s in
    let j = c.args.j in (
      omega arith,
      omega (arith, c.alpha-alpha.ensures),
      c.add.ensures ∙ ap₂ F.add
          (c.column-low.ensures ∙ ap (λ (cols : ℕ). dot F (alpha N) (powers F N s) (λ i. matrix F c.args.free.now cols i j)) c.alpha-alpha.ensures)
          (c.mul.ensures ∙ ap₂ F.mul c.mu_of.ensures
          (c.column-high.ensures ∙ ap (λ (cols : ℕ). dot F (alpha N) (powers F N s) (λ i. matrix F c.args.times_mu.now cols i j)) c.alpha-alpha.ensures)),
    )

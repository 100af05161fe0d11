use Rattle.std.proofs.Common.{◌≡◌, ℕ, ◌+◌, ap, ◌∙◌, ap₂, arith}
use Rattle.algebra.specs.Cells.{entry}
use Rattle.beehive.specs.Numbers.{alpha, tail}
use Rattle.beehive.specs.Points.{dot, powers}
use Rattle.beehive.proofs.Along.{along_part}
use Rattle.beehive.proofs.rows.segment_of.Goals as goal

pub returns : goal.returns
returns g c =
    let F = g.F.Field.ops in
    let N = c.args.numbers.now in
    let j = c.args.j in
    let block = c.args.block.now in
    let cut = c.split_at.ensures in
    let first : c.along.result ≡ dot F (alpha N) (powers F N j) (entry F block) =
    c.along.ensures ∙ along_part F N j (alpha N) c.split_at.result.0.now (entry F block) (omega (arith, cut.front_len)) (λ k l. cut.by_index.1 k F.zero (omega arith)) in
    let second : c.along-2.result ≡ dot F (tail N) (powers F N j) (λ q. entry F block (alpha N + q)) =
    c.along-2.ensures ∙ along_part F N j (tail N) c.split_at.result.1.now (λ q. entry F block (alpha N + q)) (omega (arith, cut.back_len))
    (λ k l. cut.by_index.2 k F.zero ∙ ap (λ (a : ℕ). entry F block (a + k)) c.alpha.ensures) in (
      omega arith,
      omega arith,
      omega (arith, c.beta.ensures),
      c.add.ensures ∙
          ap₂ F.add second (c.mul-head.ensures ∙ ap₂ F.mul (c.inverted.ensures ∙ ap F.inv (c.add-apart.ensures ∙ ap₂ F.add c.mu_of.ensures c.mu_of-2.ensures)) first),
    )

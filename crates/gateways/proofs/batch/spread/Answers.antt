use Rattle.std.proofs.Common.{ℕ, ◌<◌, length, sym, ap, ◌∙◌, subst}
use Rattle.algebra.specs.Cells.{entry}
use Rattle.algebra.specs.Poly.{Through}
use Rattle.gateways.proofs.Back.{comes_back}
use Rattle.gateways.proofs.batch.spread.Goals as goal

pub returns : goal.returns
returns g c =
    let F = g.F.Field.ops in
    let coefficients = c.deref.result.now in
    let held = c.deref-2.result.now in
    let points = c.deref-3.result.now in
    let values = c.deref-4.result.now in
    let f = c.deref-6.result.now in
    c.in_ok-codes-2.ensures
    ∙ comes_back g.met.F.Field.laws c.args.batch.now c.args.answering.now (c.all_codes.ensures c.if-not-all_codes.false) c.if-answering-batch.false
    coefficients held points values f
    (c.deref.ensures.value ∙ c.in_ok-polynomial.ensures)
    (λ k h. ap (λ xs. entry F xs k) c.deref-2.ensures.value
    ∙ c.in_ok-held.ensures.value k (subst (λ (n : ℕ). k < n) (c.deref-2.ensures.len ∙ c.in_ok-held.ensures.len) h))
    (c.deref-3.ensures.value ∙ c.in_ok-points.ensures)
    (c.deref-4.ensures.value ∙ c.in_ok-values.ensures.value)
    c.in_ok-values.ensures.named
    (c.deref-6.ensures.len ∙ c.in_ok-back.ensures.len)
    c.in_ok-back.ensures.apart
    (subst (λ xs. Through F (length points) (entry F points) (entry F values) (entry F xs)) (sym c.deref-6.ensures.value) c.in_ok-back.ensures.value)

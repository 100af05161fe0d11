use Rattle.std.proofs.Common.{ℕ, sym, ap, ◌∙◌, ⊎_elim}
use Rattle.field.specs.Polynomials.{product}
use Rattle.field.specs.Fields.{zero_product, product_zero}
use Rattle.field.proofs.tabled.product.Goals as goal

pub returns-then-x-eq0 : goal.returns-then-x-eq0
returns-then-x-eq0 g c =
    let f = g.T.Tables in
    let t = g.met.T.Tables.modulus in
    let a : ℕ = f.code c.args.a in
    let b : ℕ = f.code c.args.b in
    c.element.ensures
    ∙ sym (ap f.element
    (⊎_elim (λ e. ap (λ (x : ℕ). product f.m f.p x b) (sym c.code-x.ensures ∙ e) ∙ zero_product t b)
    (λ w. ap (product f.m f.p a) (sym c.code-y.ensures ∙ w.1) ∙ product_zero t a (g.met.T.Tables.coded.bound c.args.a)) c.then-x-eq0.either))

use Rattle.std.proofs.Common.{◌≡◌, Some, None, Option, sym, ap, ◌∙◌, MatchOption}
use Rattle.field.specs.Laws.{Ops, Laws, NoRoot}
use Rattle.field.specs.Pairs.{norm, pairs}
use Rattle.field.specs.declared.pair.Pair.{Pair}
use Rattle.field.specs.PairsLemmas.{norm_zero, norm_apart}
use Rattle.field.proofs.pair.norm_inverse.Goals as goal

carried : {E : Type 0} {B : Ops E} (l : Laws B) (nu : E) (rootless : NoRoot B nu) (a : Pair E) (n : E) → n ≡ norm B nu a.low a.high
    → (r : Option E) → MatchOption r (n ≡ B.zero) (λ i. (i ≡ B.inv n) × (n ≡ B.zero → ⊥))
    → MatchOption r (a ≡ (pairs B nu).zero) (λ i. (i ≡ B.inv (norm B nu a.low a.high)) × (a ≡ (pairs B nu).zero → ⊥))
carried l nu rootless a n e None h = norm_zero l nu rootless a (sym e ∙ h)
carried {B} l nu rootless a n e (Some i) h = (h.0 ∙ ap B.inv e, norm_apart l nu rootless a (λ z. h.1 (e ∙ z)))

pub returns : goal.returns
returns g c =
    carried g.met.B.Extensible.laws g.B.Extensible.nu g.met.B.Extensible.rootless c.args.a c.norm_of.result c.norm_of.ensures
    c.inverse.result c.inverse.ensures

use Rattle.std.proofs.Common.{◌≡◌, ap, ◌∙◌, reverse, rules}
use Rattle.std.specs.List.{fold}
use Rattle.std.proofs.lemmas.Iterator.Consumers.{fold_from_yields_List}
use Rattle.std.proofs.lemmas.Iterator.Adapters.{YieldsList-from_rev_slice}
use Rattle.algebra.proofs.Horner.{horner}
use Rattle.algebra.proofs.polynomial.value.Goals as goal

pub returns : goal.returns
returns g c =
    let F = g.F.Field.ops in
    let f = c.args.f.now in
    let x = c.args.x in
    let folded : c.fold.result ≡ fold (λ s a. F.add a (F.mul x s)) c.zero.result (reverse f) =
    fold_from_yields_List _ (λ s a. F.add a (F.mul x s)) _ _ c.fold.ensures.ran (YieldsList-from_rev_slice f (search rules)) (λ a y b q k. search rules) in
    folded ∙ ap (λ z. fold (λ s a. F.add a (F.mul x s)) z (reverse f)) c.zero.ensures ∙ horner g.met.F.Field.laws x f

use Rattle.std.proofs.Common.{◌≡◌, ◌≢◌, ℕ, ◌+◌, ◌-◌, ◌<◌, false, length, refl, ◌∙◌, subst, arith, rules}
use Rattle.std.specs.Prelude.{MatchBool}
use Rattle.std.specs.List.{range_with_len, AllWithin, HoldsAt}
use Rattle.std.proofs.lemmas.Iterator.{cases_from_any, YieldsList-from_range}
use Rattle.std.proofs.lemmas.List.FromFn.{length-range_with_len, get_or-range_with_len}
use Rattle.std.proofs.lemmas.Bool.{not-true}
use Rattle.beehive.specs.Points.{mu}
use Rattle.beehive.proofs.points.new_mu.Goals as goal

pub returns-clause-yes : goal.returns-clause-yes
returns-clause-yes g c e u a b =
    let M : ℕ → g.row.F-Elem.Denot = mu g.F.Field.ops c.args.numbers.now in
    let s : ℕ = c.args.s in
    let Yes : ℕ → Type 0 = λ v. M v ≡ M s in
    let No : ℕ → Type 0 = λ v. M v ≢ M s in
    let all = range_with_len 1 (s - 1) in
    let cases : MatchBool c.any.result ((k : ℕ) × (k < length all) × HoldsAt Yes all k) (AllWithin No all 0 (length all)) =
    cases_from_any _ _ _ Yes No c.any.ensures.ran (YieldsList-from_range 1 s (s - 1) (search rules) refl) (λ x q k. search rules) (λ x q k. search rules) in
    let f : c.any.result ≡ false = not-true c.any.result e in
    let none : AllWithin No all 0 (length all) = subst (λ r. MatchBool r ((k : ℕ) × (k < length all) × HoldsAt Yes all k) (AllWithin No all 0 (length all))) f cases in
    let at : 1 + (u - 1) ≡ u = omega arith in
    subst No (get_or-range_with_len 1 (s - 1) (u - 1) 0 (omega arith) ∙ at) (none (u - 1) 0 (omega arith) (omega (arith, length-range_with_len 1 (s - 1))))

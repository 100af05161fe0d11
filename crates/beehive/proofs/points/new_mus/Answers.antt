use Rattle.std.proofs.Common.{◌≡◌, ◌≢◌, ℕ, ◌+◌, ◌-◌, ◌<◌, ◌≤◌, length, sym, ◌∙◌, subst, ⊎_elim, arith, rules}
use Rattle.std.specs.Prelude.{MatchBool}
use Rattle.std.specs.List.{range_with_len, AllWithin, HoldsAt}
use Rattle.std.proofs.lemmas.Iterator.{cases_from_all, YieldsList-from_range}
use Rattle.std.proofs.lemmas.List.FromFn.{length-range_with_len, get_or-range_with_len}
use Rattle.std.proofs.lemmas.Bool.{cases_lt}
use Rattle.beehive.specs.Points.{mu}
use Rattle.beehive.proofs.points.new_mus.Goals as goal

pub returns : goal.returns
returns g c =
    let N = c.args.numbers.now in
    let M : ℕ → g.row.F-Elem.Denot = mu g.F.Field.ops N in
    let nodes : ℕ = c.last_node-nodes.result in
    let Yes : ℕ → Type 0 = λ v. (u : ℕ) → 1 ≤ u → u < v → M u ≢ M v in
    let No : ℕ → Type 0 = λ v. (u : ℕ) × (1 ≤ u) × (u < v) × (M u ≡ M v) in
    let all = range_with_len 1 nodes in
    let A : Type 0 = AllWithin Yes all 0 (length all) in
    let B : Type 0 = (k : ℕ) × (k < length all) × HoldsAt No all k in
    let long : length all ≡ nodes = length-range_with_len 1 nodes in
    let cases : MatchBool c.all.result A B =
    cases_from_all _ _ _ Yes No c.all.ensures.ran (YieldsList-from_range 1 (nodes + 1) nodes (search rules) (omega arith)) (λ x q k. search rules) (λ x q k. search rules) in (
      λ t s u ns nu e.
          let h : A = subst (λ r. MatchBool r A B) t cases in
          let new : (v : ℕ) → 1 ≤ v → v ≤ nodes → Yes v = λ v a b.
          let at : 1 + (v - 1) ≡ v = omega arith in
          let i : v - 1 < nodes = omega arith in
          subst Yes (get_or-range_with_len 1 nodes (v - 1) 0 i ∙ at) (h (v - 1) 0 (omega arith) (omega arith)) in
          ⊎_elim (λ l. absurd (new u nu.0 (omega arith) s ns.0 l e))
          (λ l. ⊎_elim (λ k. absurd (new s ns.0 (omega arith) u nu.0 k (sym e))) (λ k. omega arith) (cases_lt u s)) (cases_lt s u),
      λ f differ.
          let h : B = subst (λ r. MatchBool r A B) f cases in
          let l : h.0 < nodes = omega (arith, h.1) in
          let twin : No (1 + h.0) = subst No (get_or-range_with_len 1 nodes h.0 0 l) (h.2 0) in
          let q : twin.0 ≡ 1 + h.0 = differ twin.0 (1 + h.0) (twin.1, omega (arith, twin.2)) (omega arith, omega arith) twin.3 in
          omega (arith, twin.2),
    )

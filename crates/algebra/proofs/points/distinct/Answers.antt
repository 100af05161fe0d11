use Rattle.std.proofs.Common.{◌≡◌, ◌≢◌, ℕ, ◌<◌, Bool, true, false, length, take, get_or, refl, sym, ap, ◌∙◌, subst, zero-add, arith, rules, length-take}
use Rattle.std.specs.Prelude.{MatchBool}
use Rattle.std.specs.List.{enumerate_from, AllWithin, HoldsAt}
use Rattle.std.proofs.lemmas.Iterator.{cases_from_all, YieldsList-from_slice}
use Rattle.std.proofs.lemmas.Iterator.Consumers.{YieldsList-from_enumerate}
use Rattle.std.proofs.lemmas.List.{get_or-take}
use Rattle.std.proofs.lemmas.List.FromFn.{length-enumerate_from, get_or-enumerate_from}
use Rattle.algebra.specs.Cells.{entry}
use Rattle.algebra.proofs.Products.{apart_all, not_apart}
use Rattle.algebra.proofs.points.distinct.Goals as goal

true_by : (A B : Type 0) (r : Bool) → MatchBool r A B → (B → ⊥) → r ≡ true
true_by A B true h n = refl
true_by A B false h n = absurd (n h)

pub returns : goal.returns
returns g c =
    let F = g.F.Field.ops in
    let E = g.row.F-Elem.Denot in
    let ps = c.args.points.now in
    let p = entry F ps in
    let Yes : ℕ × E → Type 0 = λ x. (k : ℕ) → k < length (take x.0 ps) → entry F (take x.0 ps) k ≢ x.1 in
    let No : ℕ × E → Type 0 = λ x. (k : ℕ) × (k < length (take x.0 ps)) × (entry F (take x.0 ps) k ≡ x.1) in
    let all = enumerate_from 0 ps in
    let A : Type 0 = AllWithin Yes all 0 (length all) in
    let B : Type 0 = (k : ℕ) × (k < length all) × HoldsAt No all k in
    let long : length all ≡ length ps = length-enumerate_from 0 ps in
    let cases : MatchBool c.all.result A B =
    cases_from_all _ _ _ Yes No c.all.ensures.ran (YieldsList-from_enumerate (YieldsList-from_slice ps cc) cc) (λ x q k. search rules) (λ x q k. search rules) in
    let at : (n : ℕ) → n < length ps → get_or all n (0, F.zero) ≡ (n, p n) = λ n l. get_or-enumerate_from 0 ps n (0, F.zero) l ∙ ap (λ k. (k, p n)) (zero-add n) in (
      λ t.
          let h : A = subst (λ r. MatchBool r A B) t cases in
          apart_all (length ps) p (λ n l k b e.
          let new : Yes (n, p n) = subst Yes (at n l) (h n (0, F.zero) (omega arith) (omega arith)) in
          new k (omega (arith, length-take n ps)) (get_or-take n ps k F.zero b ∙ e)),
      λ apart. true_by A B c.all.result cases (λ h.
          let l : h.0 < length ps = omega (arith, h.1) in
          let twin : No (h.0, p h.0) = subst No (at h.0 l) (h.2 (0, F.zero)) in
          let b : twin.0 < h.0 = omega (arith, twin.1, length-take h.0 ps) in
          not_apart (length ps) p twin.0 h.0 b l (sym (get_or-take h.0 ps twin.0 F.zero b) ∙ twin.2) apart),
    )

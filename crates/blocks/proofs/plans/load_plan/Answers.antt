use Rattle.std.proofs.Common.{◌≡◌, ℕ, zero, suc, ◌+◌, ◌-◌, ◌*◌, ◌/◌, ◌%◌, ◌<◌, Ok, Err, Result, List, cond, ltb, refl, ap, ◌∙◌, ⊎_elim, arith}
use Rattle.std.proofs.lemmas.Bool.{lt-ltb, le-ltb, cases_lt, cond-true, cond-false}
use Rattle.refusal.specs.declared.denial.Denial.{Denial}
use Rattle.field.specs.Laws.{Ops}
use Rattle.algebra.specs.Poly.{Same}
use Rattle.beehive.specs.declared.numbers.Numbers.{Numbers}
use Rattle.beehive.specs.Numbers.{alpha, beta, virtuals, node}
use Rattle.beehive.specs.Points.{point}
use Rattle.coder.specs.Points.{listed, chosen_point}
use Rattle.coder.specs.Plans.{Made}
use Rattle.coder.proofs.Indices.{row_of}
use Rattle.blocks.specs.Weights.{from_boxes, points_used}
use Rattle.blocks.specs.declared.plans.TheConstants.{FIRST}
use Rattle.blocks.proofs.Grids.{row_same}
use Rattle.blocks.proofs.plans.load_plan.Goals as goal

first_is : (m : ℕ) → m < 8 → listed FIRST m ≡ suc m
first_is zero l = refl
first_is (suc zero) l = refl
first_is (suc (suc zero)) l = refl
first_is (suc (suc (suc zero))) l = refl
first_is (suc (suc (suc (suc zero)))) l = refl
first_is (suc (suc (suc (suc (suc zero))))) l = refl
first_is (suc (suc (suc (suc (suc (suc zero)))))) l = refl
first_is (suc (suc (suc (suc (suc (suc (suc zero))))))) l = refl
first_is (suc (suc (suc (suc (suc (suc (suc (suc m)))))))) l = absurd (omega (arith, l))

used : (N : Numbers) (r i : ℕ) → i < points_used N r → i < alpha N + 1
used N r i l = ⊎_elim
    (λ h. let e = cond-true (ltb r (alpha N)) (alpha N + 1) (alpha N) (lt-ltb r (alpha N) h) in omega arith)
    (λ h. let e = cond-false (ltb r (alpha N)) (alpha N + 1) (alpha N) (le-ltb r (alpha N) h) in omega arith)
    (cases_lt r (alpha N))

points_same : {E : Type 0} (F : Ops E) (N : Numbers) (r : ℕ) → Same (points_used N r) (chosen_point F N (listed FIRST)) (chosen_point F N suc)
points_same F N r i l = let u = used N r i l in ap (λ m. point F N (cond (ltb i (virtuals N)) (suc i) (node N m))) (first_is (i - virtuals N) (omega arith))

made_same : {E : Type 0} (F : Ops E) (fits : Type 0) (n : ℕ) (w v : ℕ → E) (old new : List E) (r : Result Unit Denial) → Same n w v → Made F fits n w old new r → Made F fits n v old new r
made_same F fits n w v old new (Ok u) s m = (m.0, record { made = λ k l. m.1.made k l ∙ s k l; rest = m.1.rest })
made_same F fits n w v old new (Err e) s m = m

pub returns : goal.returns
returns g c =
    let F = g.F.Field.ops in
    let N = c.args.numbers.now in
    let r = c.args.row in
    let to = c.args.to in
    made_same F _ (N.k * beta N) (from_boxes F N (listed FIRST) to r) (from_boxes F N suc to r) c.args.plan.now c.read_plan.new.plan c.read_plan.result
    (λ e l. row_same F N (chosen_point F N (listed FIRST)) (chosen_point F N suc) (point F N (node N to)) r (e / beta N) (e % beta N) (points_same F N r) (row_of e N.k (beta N) (omega arith) l))
    c.read_plan.ensures

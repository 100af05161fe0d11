use Rattle.std.proofs.Common.{◌≡◌, ℕ, length, sym, ap, ◌∙◌, ap₂, length-append, rules}
use Rattle.std.proofs.lemmas.Slice.Zip.{zip_turn}
use Rattle.algebra.specs.Poly.{sum, poly, power}
use Rattle.algebra.specs.Cells.{entry}
use Rattle.algebra.proofs.Sum.{sum_none}
use Rattle.beehive.specs.Numbers.{alpha}
use Rattle.coder.proofs.Formulas.{sum_turn}
use Rattle.repair.specs.Repair.{pass_term}
use Rattle.repair.proofs.helped.Helped.pass_sum.Goals as goal

pub loop-p-init : goal.loop-p-init
loop-p-init g c = c.zero-total.ensures ∙ sym (sum_none g.F.Field.ops _)

pub loop-p-preserved : goal.loop-p-preserved
loop-p-preserved g c =
    let F = g.F.Field.ops in
    let h = c.args.self.now in
    let n = h.numbers.now in
    let share = c.args.share.now in
    let x = c.in-Some.p.now in
    let term = pass_term F n h.at (entry F share) in
    let f = λ (m : ℕ). term (entry F c.args.points.now m) (entry F c.args.weights.now m) in
    let turn = zip_turn c.args.points.now c.args.weights.now c.loop-p.yielded c.into_iter-p-iterator.result c.loop-p.p-iterator c.next.new.self c.next.result (search rules) (search rules)
    c.loop-p.yielded_by (c.in-Some.p, c.in-Some.weight) c.in-Some.is c.next.ensures.steps in
    let ratio : c.inverted-ratio.result ≡ F.inv (F.add h.own_mu (power F x (alpha n))) =
    c.inverted-ratio.ensures ∙ ap F.inv (c.add.ensures ∙ ap (F.add h.own_mu) (c.raised-power.ensures ∙ ap (power F x) c.alpha.ensures)) in
    let height : c.value.result ≡ poly F (alpha n) (entry F share) x = c.value.ensures ∙ ap (λ a. poly F a (entry F share) x) c.requires.rows in
    let here : c.mul.result ≡ term x c.in-Some.weight.now =
    c.mul.ensures ∙ ap (λ v. F.mul v c.in-Some.weight.now) (c.mul-part.ensures ∙ ap₂ F.mul (ratio ∙ ap (λ u. F.inv (F.add u (power F x (alpha n)))) h.own_mu_is) height) in
    sum_turn F f (length c.loop-p.yielded) c.loop-p.total c.mul.result c.add-total.result c.loop-p.invariant (here ∙ ap₂ term (turn.2 F.zero) (turn.3 F.zero)) c.add-total.ensures ∙
    ap (λ n. sum F n f) (sym (length-append c.loop-p.yielded _))

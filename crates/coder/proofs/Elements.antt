-- The nodes before boxes 1, 2, 3 and so on.
use Rattle.std.proofs.Common.{◌≡◌, ℕ, suc, ◌+◌, ◌-◌, ltb, sym, ◌∙◌, ⊎_elim, add-one, arith}
use Rattle.std.proofs.lemmas.Bool.{lt-ltb, le-ltb, cases_lt, cond-true, cond-false}
use Rattle.beehive.specs.declared.numbers.Numbers.{Numbers}
use Rattle.beehive.specs.Numbers.{virtuals, node}
use Rattle.coder.specs.Points.{chosen}

-- The virtual nodes and the boxes 1, 2, 3 and so on are all nodes in their order.
pub chosen_first : (N : Numbers) (i : ℕ) → chosen N suc i ≡ i + 1
chosen_first N i = ⊎_elim
    (λ l. cond-true (ltb i (virtuals N)) (suc i) (node N (suc (i - virtuals N))) (lt-ltb i (virtuals N) l) ∙ sym (add-one i))
    (λ l. cond-false (ltb i (virtuals N)) (suc i) (node N (suc (i - virtuals N))) (le-ltb i (virtuals N) l) ∙ omega arith)
    (cases_lt i (virtuals N))

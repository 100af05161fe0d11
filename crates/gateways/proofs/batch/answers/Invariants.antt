use Rattle.std.proofs.Common.{◌≡◌, ℕ, ◌-◌, ◌<◌, ◌≤◌, map, length, get_or, take, vec_items}
use Rattle.algebra.specs.Cells.{entry}
use Rattle.gateways.proofs.batch.answers.Given as goal

abbrev pub invariant-loop-a : goal.invariant-loop-a
invariant-loop-a g l =
    (vec_items l.v ≡ map (λ a. entry g.F.Field.ops l.held (a - 1)) (take l.a-index l.answering))
    × ((k : ℕ) → k < l.a-index → (1 ≤ get_or l.answering k 0) × (get_or l.answering k 0 ≤ length l.held))

-- A node's powers times a part of a block, which was cut out of it.
use Rattle.std.proofs.Common.{◌≡◌, ℕ, ◌<◌, List, length, ap, ◌∙◌}
use Rattle.field.specs.Laws.{Ops}
use Rattle.algebra.specs.Cells.{entry}
use Rattle.algebra.proofs.Sum.{sum_cong}
use Rattle.beehive.specs.declared.numbers.Numbers.{Numbers}
use Rattle.beehive.specs.Points.{dot, powers}

pub along_part : {E : Type 0} (F : Ops E) (N : Numbers) (j n : ℕ) (part : List E) (v : ℕ → E) → length part ≡ n → ((k : ℕ) → k < n → entry F part k ≡ v k)
    → dot F (length part) (powers F N j) (entry F part) ≡ dot F n (powers F N j) v
along_part F N j n part v long same =
    ap (λ m. dot F m (powers F N j) (entry F part)) long ∙
    sum_cong F n (λ k. F.mul (powers F N j k) (entry F part k)) (λ k. F.mul (powers F N j k) (v k)) (λ k l. ap (F.mul (powers F N j k)) (same k l))

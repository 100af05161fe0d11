-- A plan that was made in the front of its memory.
use Rattle.std.proofs.Common.{◌≡◌, ℕ, List, ◌++◌, length, drop, sym, ◌∙◌, subst}
use Rattle.field.specs.Laws.{Ops}
use Rattle.algebra.specs.Poly.{Same}
use Rattle.algebra.specs.Cells.{entry}
use Rattle.algebra.proofs.Solving.{front_inside, front_above}
use Rattle.coder.specs.Plans.{Planned}

pub planned_front : {E : Type 0} (F : Ops E) (n m : ℕ) (weight : ℕ → E) (old made : List E) → m ≡ n → length made ≡ n → Same n (entry F made) weight →
    Planned F n weight old (made ++ drop m old)
planned_front F n m weight old made e long same =
    subst (λ m. Planned F n weight old (made ++ drop m old)) (sym e) (record {
      made = λ k l. front_inside n old made F.zero long k l ∙ same k l;
      rest = λ k l. front_above n old made F.zero long k l;
    })

-- Where the field has more elements than there are nodes, the points differ, since their codes do.
use Rattle.std.proofs.Common.{◌≡◌, ℕ, sym, ap, ◌∙◌, mod-eq_of_lt, arith}
use Rattle.field.specs.Laws.{Ops, Laws}
use Rattle.beehive.specs.declared.numbers.Numbers.{Numbers}
use Rattle.beehive.specs.Numbers.{Node}
use Rattle.beehive.specs.Points.{point, Enough, MusDiffer, Suits}

module _ {E : Type 0} {F : Ops E} (L : Laws F) (N : Numbers) where
  code_of_point : (s : ℕ) → Enough F N → Node N s → F.code (point F N s) ≡ s
  code_of_point s enough h = L.code_element s ∙ mod-eq_of_lt (omega arith)

  pub suited : Enough F N → MusDiffer F N → Suits F N
  suited enough mus = record {
    points_differ = λ s u hs hu e. sym (code_of_point s enough hs) ∙ ap F.code e ∙ code_of_point u enough hu;
    mus_differ = mus;
  }

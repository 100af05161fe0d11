-- Horner's rule: from the highest coefficient down, each is added to x times what is there.
use Rattle.std.proofs.Common.{◌≡◌, List, [], ◌∷◌, length, sym, ap, ◌∙◌, reverse}
use Rattle.std.specs.List.{fold}
use Rattle.std.proofs.lemmas.List.{reverse-append}
use Rattle.std.proofs.lemmas.List.Sums.{fold-append}
use Rattle.field.specs.Laws.{Ops, Laws}
use Rattle.algebra.specs.Poly.{poly}
use Rattle.algebra.specs.Cells.{entry}
use Rattle.algebra.proofs.Poly.{poly_none, poly_front}

module _ {E : Type 0} {F : Ops E} (L : Laws F) (x : E) where
  pub horner : (f : List E) → fold (λ s a. F.add a (F.mul x s)) F.zero (reverse f) ≡ poly F (length f) (entry F f) x
  horner [] = sym (poly_none F (entry F []) x)
  horner (a ∷ f) =
      ap (fold (λ s a. F.add a (F.mul x s)) F.zero) (reverse-append (a ∷ []) f) ∙
      fold-append (λ s a. F.add a (F.mul x s)) F.zero (reverse f) (a ∷ []) ∙
      ap (λ s. F.add a (F.mul x s)) (horner f) ∙
      sym (poly_front L (length f) (entry F (a ∷ f)) x)

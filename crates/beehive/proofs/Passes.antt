-- t − 1 passes and the first part fix the second part: it is a polynomial of t − 1 coefficients with known values.
use Rattle.std.proofs.Common.{◌≡◌, ℕ, ◌<◌, sym, ap, ◌∙◌}
use Rattle.field.specs.Laws.{Ops, Laws}
use Rattle.algebra.proofs.Sum.{sum_cong}
use Rattle.beehive.specs.Numbers.{alpha, tail, node}
use Rattle.beehive.specs.Points.{dot, powers, point, mu}
use Rattle.beehive.specs.Rule.{second}
use Rattle.beehive.specs.Theorems.{PassesFixTheSecondPart}
use Rattle.beehive.proofs.Nodes.{box_node, points_apart, boxes_different}
use Rattle.beehive.proofs.Values.{dot_poly, agree, add_cancel}

module _ {E : Type 0} {F : Ops E} (L : Laws F) where
  pub passes_fix : PassesFixTheSecondPart F
  passes_fix N suits j box others other a b same passed =
      agree L (tail N) (λ i. point F N (node N (others i))) (second F N a (node N j)) (second F N b (node N j))
      (points_apart F N suits (tail N) (λ i. node N (others i)) (λ i l. box_node N (others i) (other.0.0 i l)) (boxes_different N (tail N) others other.0))
      (λ i l. sym (dot_poly L N (tail N) (node N (others i)) (second F N a (node N j))) ∙ at i l ∙ dot_poly L N (tail N) (node N (others i)) (second F N b (node N j)))
    where
      at : (i : ℕ) → i < tail N → dot F (tail N) (powers F N (node N (others i))) (second F N a (node N j)) ≡ dot F (tail N) (powers F N (node N (others i))) (second F N b (node N j))
      at i l =
          add_cancel L _ _ _ (passed i l ∙
          ap (λ v. F.add (dot F (tail N) (powers F N (node N (others i))) (second F N b (node N j))) (F.mul (F.inv (F.add (mu F N (node N j)) (mu F N (node N (others i))))) v))
          (sum_cong F (alpha N) _ _ (λ q h. ap (F.mul (powers F N (node N (others i)) q)) (sym (same q h)))))

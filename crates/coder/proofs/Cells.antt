-- Rows of cells that are added cell by cell: what the loop has done after n turns, and what a sum of multiples means.
use Rattle.std.proofs.Common.{◌≡◌, ℕ, zero, suc, ◌^◌, ◌<◌, ◌≤◌, eqb, min, List, [], ◌∷◌, length, get_or, sym, refl, ap, ◌∙◌, ⊎_elim, mod-eq_of_lt, arith}
use Rattle.std.proofs.lemmas.List.{ext_get_or}
use Rattle.std.proofs.lemmas.Bool.{cases_lt, cases_eq, eq-eqb, ne_eqb, cond-true, cond-false}
use Rattle.field.specs.Laws.{Ops, Laws}
use Rattle.algebra.specs.Poly.{sum}
use Rattle.algebra.proofs.Ring.{add_zero, zero_mul, add_assoc}
use Rattle.algebra.proofs.Sum.{sum_none, sum_more}
use Rattle.algebra.proofs.Writes.{Written}
use Rattle.coder.specs.Cells.{sum_cell, added, folded, mixed}
use Rattle.coder.specs.Theorems.{ApplySumsRows}

module _ {E : Type 0} (F : Ops E) (c : E) where
  pub added_length : (row out : List ℕ) → length (added F c row out) ≡ length out
  added_length [] out = refl
  added_length (r ∷ row) [] = refl
  added_length (r ∷ row) (o ∷ out) = ap suc (added_length row out)

  pub added_at : (row out : List ℕ) (q : ℕ) → q < length row → q < length out → get_or (added F c row out) q 0 ≡ sum_cell F c (get_or row q 0) (get_or out q 0)
  added_at [] out q l h = absurd (omega arith)
  added_at (r ∷ row) [] q l h = absurd (omega arith)
  added_at (r ∷ row) (o ∷ out) zero l h = refl
  added_at (r ∷ row) (o ∷ out) (suc q) l h = added_at row out q (omega arith) (omega arith)

  pub added_past : (row out : List ℕ) (q : ℕ) → length row ≤ q → get_or (added F c row out) q 0 ≡ get_or out q 0
  added_past [] out q l = refl
  added_past (r ∷ row) [] q l = refl
  added_past (r ∷ row) (o ∷ out) zero l = absurd (omega arith)
  added_past (r ∷ row) (o ∷ out) (suc q) l = added_past row out q (omega arith)

  -- the target of the loop, cell by cell
  abbrev pub target : List ℕ → List ℕ → ℕ → ℕ
  target row out q = sum_cell F c (get_or row q 0) (get_or out q 0)

  pub written_all : (row out new : List ℕ) (n : ℕ) → n ≡ min (length row) (length out) → length new ≡ length out → Written 0 (target row out) out new n → new ≡ added F c row out
  written_all row out new n e l w =
      ext_get_or 0 new (added F c row out) (l ∙ sym (added_length row out)) (λ q h. ⊎_elim
      (λ u. w.done q u ∙ sym (added_at row out q (omega arith) (omega arith)))
      (λ u. w.left q u ∙ sym (added_past row out q (omega arith)))
      (cases_lt q n))

module _ {E : Type 0} {F : Ops E} (L : Laws F) where
  -- a code of 0 is that of zero
  pub zero_of_code : (c : E) → F.code c ≡ 0 → c ≡ F.zero
  zero_of_code c e = sym (L.element_code c) ∙ ap F.element (e ∙ sym L.code_zero) ∙ L.element_code F.zero

  code_kept : (o : ℕ) → o < 2 ^ F.bits → F.code (F.element o) ≡ o
  code_kept o l = L.code_element o ∙ mod-eq_of_lt l

  pub folded_length : (c : E) (row out : List ℕ) → length (folded F c row out) ≡ length out
  folded_length c row out = ⊎_elim
      (λ e. ap length (cond-true (eqb (F.code c) 0) out (added F c row out) (eq-eqb (F.code c) 0 e)))
      (λ e. ap length (cond-false (eqb (F.code c) 0) out (added F c row out) (ne_eqb (F.code c) 0 e)) ∙ added_length F c row out)
      (cases_eq (F.code c) 0)

  -- a cell that holds a code
  pub folded_at : (c : E) (row out : List ℕ) (q : ℕ) → q < length row → q < length out → get_or out q 0 < 2 ^ F.bits → get_or (folded F c row out) q 0 ≡ sum_cell F c (get_or row q 0) (get_or out q 0)
  folded_at c row out q l h b = ⊎_elim
      (λ e. ap (λ x. get_or x q 0) (cond-true (eqb (F.code c) 0) out (added F c row out) (eq-eqb (F.code c) 0 e)) ∙ sym (still (zero_of_code c e)))
      (λ e. ap (λ x. get_or x q 0) (cond-false (eqb (F.code c) 0) out (added F c row out) (ne_eqb (F.code c) 0 e)) ∙ added_at F c row out q l h)
      (cases_eq (F.code c) 0)
    where
      still : c ≡ F.zero → sum_cell F c (get_or row q 0) (get_or out q 0) ≡ get_or out q 0
      still e =
          ap (λ v. F.code (F.add (F.element (get_or out q 0)) (F.mul v (F.element (get_or row q 0))))) e ∙
          ap (λ v. F.code (F.add (F.element (get_or out q 0)) v)) (zero_mul L (F.element (get_or row q 0))) ∙
          ap F.code (add_zero L (F.element (get_or out q 0))) ∙ code_kept (get_or out q 0) b

  mixed_length : (weight : ℕ → E) (rows : ℕ → List ℕ) (n : ℕ) (out : List ℕ) → length (mixed F weight rows n out) ≡ length out
  mixed_length weight rows zero out = refl
  mixed_length weight rows (suc n) out = folded_length (weight n) (rows n) (mixed F weight rows n out) ∙ mixed_length weight rows n out

  pub apply_sums : ApplySumsRows F
  apply_sums weight rows zero out q l h b =
      sym (ap (λ v. F.code (F.add (F.element (get_or out q 0)) v)) (sum_none F _) ∙ ap F.code (add_zero L (F.element (get_or out q 0))) ∙ code_kept (get_or out q 0) b)
  apply_sums weight rows (suc n) out q l h b = go (apply_sums weight rows n out q l (λ e k. h e (omega arith)) b)
    where
      term : ℕ → E
      term e = F.mul (weight e) (F.element (get_or (rows e) q 0))

      old : E
      old = F.element (get_or out q 0)

      go : get_or (mixed F weight rows n out) q 0 ≡ F.code (F.add old (sum F n term)) → get_or (mixed F weight rows (suc n) out) q 0 ≡ F.code (F.add old (sum F (suc n) term))
      go r =
          let k : get_or (mixed F weight rows n out) q 0 < 2 ^ F.bits = omega (arith, r, L.code_below (F.add old (sum F n term))) in
          folded_at (weight n) (rows n) (mixed F weight rows n out) q (h n (omega arith)) (omega (arith, mixed_length weight rows n out)) k ∙
          ap (λ v. F.code (F.add (F.element v) (term n))) r ∙
          ap (λ v. F.code (F.add v (term n))) (L.element_code (F.add old (sum F n term))) ∙
          ap F.code (add_assoc L old (sum F n term) (term n) ∙ ap (F.add old) (sym (sum_more F n term)))

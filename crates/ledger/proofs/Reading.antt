-- A read is accepted exactly when it names k distinct whole boxes with buffers of the right lengths.
use Rattle.std.proofs.Common.{◌≡◌, ℕ, ◌<◌, Bool, true, false, not, ◌&&◌, eqb, ltb, leb, ◌⊎◌, List, [], ◌∷◌, length, get_or, Ok, Err, sym, refl, ap, ◌∙◌, subst, inl, inr, arith}
use Rattle.std.proofs.lemmas.Bool.{eqb-true, eq-eqb, and_parts, and_from, leb-true, le-leb, lt-ltb}
use Rattle.refusal.specs.declared.denial.Denial.{Denial}
use Rattle.refusal.specs.declared.denial.Denial.TheVariants.{OtherShelf, Length, Range, Dead, State as StateDenial}
use Rattle.refusal.specs.Checks.{check, and_then}
use Rattle.field.specs.Laws.{Ops}
use Rattle.beehive.specs.declared.numbers.Numbers.{Numbers}
use Rattle.beehive.specs.Numbers.{boxes, beta, Box}
use Rattle.shelf.specs.Limits.{within}
use Rattle.ledger.specs.Lengths.{least_work, least_scratch, data_symbols}
use Rattle.ledger.specs.Calls.{Lent, read}
use Rattle.ledger.specs.Ledger.{Ledger, whole, named, is_dead, is_whole}
use Rattle.ledger.specs.Checks.{Check, ◌then◌, each, right_shelf, long, roomy, work_room, in_range, unrepeated, alive, whole_box}
use Rattle.ledger.specs.Judge.{checks}
use Rattle.ledger.specs.Laws.{Readable, NamesWholeBoxes}
use Rattle.ledger.proofs.Passing.{held, holds, each_passed, each_passes, all_passed, all_pass, chain, not_passed, then_either}
use Rattle.ledger.proofs.Lists.{unrepeated_passed, unrepeated_passes, at_place, place_of, distinct_places, places_distinct}
use Rattle.ledger.proofs.Sound.{box_in, whole_is, length_is}

module _ {E : Type 0} (F : Ops E) (N : Numbers) (L : Ledger) (lent : Lent) (bs : List ℕ) where
  shape : Bool
  shape = (eqb lent.boxes (boxes N) && eqb lent.rows (beta N)) && (eqb lent.width N.w && eqb lent.bits F.bits)

  lengths : List Check
  lengths = long (length bs) N.k ∷ long lent.answer (data_symbols N) ∷ roomy lent.work least_work ∷ roomy lent.scratch least_scratch ∷ []

  row : List Check
  row = right_shelf F.bits N lent ∷ (long (length bs) N.k then long lent.answer (data_symbols N) then work_room lent) ∷ each (in_range N) bs ∷ unrepeated [] bs ∷ each (alive L) bs ∷ each (whole_box L) bs ∷ []

  pub readable : checks F N L (read lent bs) ≡ Ok tt → Readable F N L lent bs
  unfolding row lengths shape
  readable h =
      let p = all_passed row h in
      let l = all_passed lengths p.1.0 in
      let s = held shape OtherShelf p.0 in
      let s₁ = and_parts (eqb lent.boxes (boxes N) && eqb lent.rows (beta N)) (eqb lent.width N.w && eqb lent.bits F.bits) s in
      let s₂ = and_parts (eqb lent.boxes (boxes N)) (eqb lent.rows (beta N)) s₁.0 in
      let s₃ = and_parts (eqb lent.width N.w) (eqb lent.bits F.bits) s₁.1 in
      let k = length_is (length bs) N.k l.0 in
      record {
        names = record {
          shelf = (eqb-true lent.boxes (boxes N) s₂.0, eqb-true lent.rows (beta N) s₂.1, eqb-true lent.width N.w s₃.0, eqb-true lent.bits F.bits s₃.1);
          count = k;
          distinct = (
            λ i m. box_in N (get_or bs i 0) (each_passed (in_range N) bs p.1.1.0 (get_or bs i 0) (at_place bs i (omega arith))),
            λ i j m o e. distinct_places bs (unrepeated_passed bs [] p.1.1.1.0).0 i j (omega arith) (omega arith) e,
          );
          all_whole = λ i m. whole_is (L.state (get_or bs i 0)) (held (is_whole (L.state (get_or bs i 0))) (StateDenial (get_or bs i 0)) (each_passed (whole_box L) bs p.1.1.1.1.1.0 (get_or bs i 0) (at_place bs i (omega arith))));
        };
        answer = length_is lent.answer (data_symbols N) l.1.0;
        work = leb-true least_work lent.work (held (leb least_work lent.work) Length l.1.1.0);
        scratch = leb-true least_scratch lent.scratch (held (leb least_scratch lent.scratch) Length l.1.1.1.0);
      }

  pub read_accepted : Readable F N L lent bs → checks F N L (read lent bs) ≡ Ok tt
  unfolding row lengths shape
  read_accepted r =
      all_pass row (
        holds shape OtherShelf (and_from (eqb lent.boxes (boxes N) && eqb lent.rows (beta N)) (eqb lent.width N.w && eqb lent.bits F.bits)
            (and_from (eqb lent.boxes (boxes N)) (eqb lent.rows (beta N)) (eq-eqb lent.boxes (boxes N) r.names.shelf.0) (eq-eqb lent.rows (beta N) r.names.shelf.1))
            (and_from (eqb lent.width N.w) (eqb lent.bits F.bits) (eq-eqb lent.width N.w r.names.shelf.2) (eq-eqb lent.bits F.bits r.names.shelf.3))),
        (
          all_pass lengths (
            holds (eqb (length bs) N.k) Length (eq-eqb (length bs) N.k r.names.count),
            (
              holds (eqb lent.answer (data_symbols N)) Length (eq-eqb lent.answer (data_symbols N) r.answer),
              (
                holds (leb least_work lent.work) Length (le-leb least_work lent.work r.work),
                (holds (leb least_scratch lent.scratch) Length (le-leb least_scratch lent.scratch r.scratch), tt),
              ),
            ),
          ),
          (
            each_passes (in_range N) bs (λ b n. holds (within b (boxes N)) (Range b) (inside b n)),
            (
              unrepeated_passes bs [] (places_distinct bs (λ i j l m e. r.names.distinct.1 i j (short i l) (short j m) e)) (λ b n. refl),
              (
                each_passes (alive L) bs (λ b n. holds (not (is_dead (L.state b))) (Dead b) (ap (λ s. not (is_dead s)) (whole_at b n))),
                (each_passes (whole_box L) bs (λ b n. holds (is_whole (L.state b)) (StateDenial b) (ap is_whole (whole_at b n))), tt),
              ),
            ),
          ),
        ),
      )
    where
      short : (i : ℕ) → i < length bs → i < N.k
      short i l = let c = r.names.count in omega arith

      whole_at : (b : ℕ) → named b bs ≡ true → L.state b ≡ whole
      whole_at b n = let p = place_of bs b n in ap L.state (sym p.2) ∙ r.names.all_whole p.0 (short p.0 p.1)

      inside : (b : ℕ) → named b bs ≡ true → within b (boxes N) ≡ true
      inside b n =
          let p = place_of bs b n in
          let x = subst (Box N) p.2 (r.names.distinct.0 p.0 (short p.0 p.1)) in
          and_from (ltb 0 b) (leb b (boxes N)) (lt-ltb 0 b (omega arith)) (le-leb b (boxes N) x.1)

  -- The lengths are right, or are refused.
  length_either : (t : Bool) → (check t Length ≡ Ok tt) ⊎ (check t Length ≡ Err Length)
  length_either true = inl refl
  length_either false = inr refl

  lengths_either : (chain lengths ≡ Ok tt) ⊎ (chain lengths ≡ Err Length)
  unfolding lengths
  lengths_either =
      then_either (long (length bs) N.k) (chain (long lent.answer (data_symbols N) ∷ roomy lent.work least_work ∷ roomy lent.scratch least_scratch ∷ [])) Length (length_either (eqb (length bs) N.k))
      (then_either (long lent.answer (data_symbols N)) (chain (roomy lent.work least_work ∷ roomy lent.scratch least_scratch ∷ [])) Length (length_either (eqb lent.answer (data_symbols N)))
      (then_either (roomy lent.work least_work) (roomy lent.scratch least_scratch) Length (length_either (leb least_work lent.work)) (length_either (leb least_scratch lent.scratch))))

  after_first : (a b : Check) (e : Denial) → a ≡ Ok tt → b ≡ Err e → and_then a b ≡ Err e
  after_first (Ok _) b e h k = k
  after_first (Err d) b e h k = absurd (not_passed d h)

  stops : (a b : Check) (e : Denial) → a ≡ Err e → and_then a b ≡ Err e
  stops (Ok _) b e h = absurd (not_passed e (sym h))
  stops (Err d) b e h = h

  pub whole_read : NamesWholeBoxes F N L lent bs → Readable F N L lent bs ⊎ (checks F N L (read lent bs) ≡ Err Length)
  unfolding lengths shape
  whole_read w = go lengths_either
    where
      go : (chain lengths ≡ Ok tt) ⊎ (chain lengths ≡ Err Length) → Readable F N L lent bs ⊎ (checks F N L (read lent bs) ≡ Err Length)
      go (inl h) =
          let l = all_passed lengths h in
          inl (record {
            names = w;
            answer = length_is lent.answer (data_symbols N) l.1.0;
            work = leb-true least_work lent.work (held (leb least_work lent.work) Length l.1.1.0);
            scratch = leb-true least_scratch lent.scratch (held (leb least_scratch lent.scratch) Length l.1.1.1.0);
          })
      go (inr h) =
          inr (after_first (right_shelf F.bits N lent) ((long (length bs) N.k then long lent.answer (data_symbols N) then work_room lent) then each (in_range N) bs then unrepeated [] bs then each (alive L) bs then each (whole_box L) bs) Length
          (holds shape OtherShelf (and_from (eqb lent.boxes (boxes N) && eqb lent.rows (beta N)) (eqb lent.width N.w && eqb lent.bits F.bits)
          (and_from (eqb lent.boxes (boxes N)) (eqb lent.rows (beta N)) (eq-eqb lent.boxes (boxes N) w.shelf.0) (eq-eqb lent.rows (beta N) w.shelf.1))
          (and_from (eqb lent.width N.w) (eqb lent.bits F.bits) (eq-eqb lent.width N.w w.shelf.2) (eq-eqb lent.bits F.bits w.shelf.3))))
          (stops (long (length bs) N.k then long lent.answer (data_symbols N) then work_room lent)
          (each (in_range N) bs then unrepeated [] bs then each (alive L) bs then each (whole_box L) bs) Length h))

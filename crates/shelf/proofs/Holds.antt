-- What the model shows of a memory, and how it follows what is written there.
use Rattle.std.proofs.Common.{◌≡◌, ℕ, ◌+◌, ◌-◌, ◌*◌, ◌%◌, ◌^◌, ◌<◌, ◌≤◌, Bool, true, false, List, [], length, get_or, set, replicate, sym, refl, ap, ◌∙◌, inl, inr, mod-eq_of_lt, arith, length-set, get_or-set_other, get_or-set_same}
use Rattle.std.proofs.lemmas.Nat.{pow_pos, mod_below}
use Rattle.std.proofs.lemmas.List.{get_or_past}
use Rattle.std.proofs.lemmas.Bool.{cases_lt}
use Rattle.shelf.specs.declared.shape.Shape.{Shape}
use Rattle.shelf.specs.Limits.{Limits}
use Rattle.shelf.specs.Model.{Model, Box, dead, standing, box_at, row_at, is_standing, with_box, with_row, Lawful, Shaped}
use Rattle.shelf.specs.Calls.{blank, all_below}
use Rattle.shelf.specs.Stored.{tab, place, row_of, box_of, box_kept, model_of, size, Written}
use Rattle.shelf.proofs.Tabs.{tab_length, tab_get_d, tab_cong, tab_set, tab_same, tab_all}
use Rattle.shelf.proofs.Index.{line_before, row_in, apart_lines, two_places, place_is}
use Rattle.shelf.proofs.Codes.{below_at}

module _ (live : List Bool) (held : ℕ → ℕ) (s : Shape) where
  abbrev boxes : ℕ
  boxes = s.boxes

  abbrev rows : ℕ
  rows = s.rows

  abbrev width : ℕ
  width = s.width

  abbrev bits : ℕ
  bits = s.bits

  abbrev the : Model
  the = model_of live held s

  abbrev with : List Box → Model
  with bs = record { rows = rows; width = width; bits = bits; boxes = bs }

  -- The box i by the marks `marks`, over the memory `mem`.
  abbrev box : List Bool → (ℕ → ℕ) → ℕ → Box
  box marks mem i = box_kept marks mem rows width bits i

  abbrev row : (ℕ → ℕ) → (i r : ℕ) → List ℕ
  row mem i r = row_of mem rows width bits i r

  pub count_is : length the.boxes ≡ boxes
  count_is = tab_length boxes (box live held)

  pub stands_is : (i : ℕ) → i < boxes → is_standing (box_at the i) ≡ get_or live i false
  stands_is i h =
      ap is_standing (tab_get_d boxes (box live held) i dead h)
      ∙ elim (get_or live i false) as (λ v. is_standing (box_of v (tab rows (row held i))) ≡ v) [ true ↦ refl | false ↦ refl ]

  pub box_is : (i : ℕ) → i < boxes → get_or live i false ≡ true → box_at the i ≡ standing (tab rows (row held i))
  box_is i h e = tab_get_d boxes (box live held) i dead h ∙ ap (λ v. box_of v (tab rows (row held i))) e

  pub row_is : (i r : ℕ) → i < boxes → get_or live i false ≡ true → r < rows → row_at (box_at the i) r ≡ row held i r
  row_is i r h e l = ap (λ x. row_at x r) (box_is i h e) ∙ tab_get_d rows (row held i) r [] l

  lawful_box : (i : ℕ) → (v : Bool) → Lawful rows width bits (box_of v (tab rows (row held i)))
  lawful_box i false = tt
  lawful_box i true = (
    tab_length rows (row held i),
    λ r h.
        let e = tab_get_d rows (row held i) r [] h in
        let f : ℕ → ℕ = λ j. held (place rows width i r + j) % 2 ^ bits in (
          ap length e ∙ tab_length width f,
          λ j. elim (cases_lt j width) [
            | inl l ↦ (let z : get_or (get_or (tab rows (row held i)) r []) j 0 ≡ f j = ap (λ x. get_or x j 0) e ∙ tab_get_d width f j 0 l in
                omega (arith, mod_below (held (place rows width i r + j)) (2 ^ bits) (pow_pos bits)))
            | inr l ↦ (let z : get_or (get_or (tab rows (row held i)) r []) j 0 ≡ 0 = ap (λ x. get_or x j 0) e ∙ get_or_past (tab width f) j 0 (omega (arith, tab_length width f)) in
                omega (arith, pow_pos bits))
          ],
        ),
  )

  pub shaped_is : Limits boxes rows width bits → Shaped the
  shaped_is l = record {
    limits = (omega (arith, count_is), l.1, l.2, l.3);
    each = λ i. elim (cases_lt i boxes) [
      | inl h ↦ rw (tab_get_d boxes (box live held) i dead h) (lawful_box i (get_or live i false))
      | inr h ↦ (let p : length the.boxes ≤ i = omega (arith, count_is) in
          rw (get_or_past the.boxes i dead p) tt)
    ];
  }

  module _ (new : ℕ → ℕ) where
    pub put_is : (vs : List ℕ) (i r : ℕ) → i < boxes → get_or live i false ≡ true → r < rows
        → length vs ≡ width → all_below (2 ^ bits) vs ≡ true → Written held new (place rows width i r) (length vs) (λ j. get_or vs j 0)
        → model_of live new s ≡ with_box the i (with_row (box_at the i) r vs)
    put_is vs i r h e l n a w =
        let this : row new i r ≡ vs =
        sym (tab_all vs width (λ j. new (place rows width i r + j) % 2 ^ bits) n
        (λ k q. sym (ap (λ x. x % 2 ^ bits) (w.inside k (omega arith)) ∙ mod-eq_of_lt (below_at (2 ^ bits) vs k a (omega arith))))) in
        let other : (j t : ℕ) → t < rows → (j ≡ i → t ≡ r → ⊥) → row new j t ≡ row held j t =
        λ j t m q. tab_cong width (λ k. new (place rows width j t + k) % 2 ^ bits) (λ k. held (place rows width j t + k) % 2 ^ bits)
        (λ k o. ap (λ x. x % 2 ^ bits)
        (elim (apart_lines (j * rows + t) (i * rows + r) width (two_places rows i r j t l m q)) [
          | inl z ↦ w.below (place rows width j t + k) (omega arith)
          | inr z ↦ w.above (place rows width j t + k) (omega arith)
        ])) in
        let rs : tab rows (row new i) ≡ set (tab rows (row held i)) r vs =
        tab_set rows (row held i) (row new i) r vs l this (λ t k q. other i t k (λ _ z. q z)) in
        let here : box live new i ≡ with_row (box_at the i) r vs =
        ap (λ v. box_of v (tab rows (row new i))) e ∙ ap standing rs ∙ ap (λ x. with_row x r vs) (sym (box_is i h e)) in
        ap with (tab_set boxes (box live held) (box live new) i (with_row (box_at the i) r vs) h here
        (λ j k q. ap (box_of (get_or live j false)) (tab_cong rows (row new j) (row held j) (λ t m. other j t m (λ z _. q z)))))

    blank_rows : (i start n : ℕ) → ((r : ℕ) → r < rows → (start ≤ place rows width i r) × (place rows width i r + width ≤ start + n))
        → Written held new start n (λ j. 0) → tab rows (row new i) ≡ replicate rows (replicate width 0)
    blank_rows i start n g w = tab_same rows (row new i) (replicate width 0)
        (λ r h. let p = g r h in tab_same width (λ j. new (place rows width i r + j) % 2 ^ bits) 0
        (λ j o. let q : start + ((place rows width i r + j) - start) ≡ place rows width i r + j = omega arith in
        ap (λ x. x % 2 ^ bits) (ap new (sym q) ∙ w.inside ((place rows width i r + j) - start) (omega arith)) ∙ mod-eq_of_lt (pow_pos bits)))

    pub renew_is : (i : ℕ) → i < boxes → i < length live → Written held new (i * (rows * width)) (rows * width) (λ j. 0)
        → model_of (set live i true) new s ≡ with_box the i (blank rows width)
    renew_is i h k w =
        let each = rows * width in
        let rs = blank_rows i (i * each) each (λ r l. let q = line_before r rows width l in let p = place_is i rows r width in (omega arith, omega arith)) w in
        let here : box (set live i true) new i ≡ blank rows width =
        ap (λ v. box_of v (tab rows (row new i))) (get_or-set_same live i true false k) ∙ ap standing rs in
        ap with (tab_set boxes (box live held) (box (set live i true) new) i (blank rows width) h here
        (λ j l q. ap (λ v. box_of v (tab rows (row new j))) (get_or-set_other live i j true false q)
        ∙ ap (box_of (get_or live j false)) (tab_cong rows (row new j) (row held j)
        (λ t m. tab_cong width (λ k. new (place rows width j t + k) % 2 ^ bits) (λ k. held (place rows width j t + k) % 2 ^ bits)
        (λ k o. let a = line_before t rows width m in let b = place_is j rows t width in ap (λ x. x % 2 ^ bits)
        (elim (apart_lines j i each q) [
          | inl z ↦ w.below (place rows width j t + k) (omega arith)
          | inr z ↦ w.above (place rows width j t + k) (omega arith)
        ]))))))

    pub laid_is : ((i : ℕ) → i < boxes → get_or live i false ≡ true) → Written held new 0 (size s) (λ j. 0)
        → model_of live new s ≡ with (replicate boxes (blank rows width))
    laid_is e w =
        ap with (tab_same boxes (box live new) (blank rows width)
        (λ i h. ap (λ v. box_of v (tab rows (row new i))) (e i h)
        ∙ ap standing (blank_rows i 0 (size s) (λ r l. let q = row_in boxes i r rows width h l in (omega arith, omega arith)) w)))

  pub kill_is : (i : ℕ) → i < boxes → model_of (set live i false) held s ≡ with_box the i dead
  kill_is i h =
      let z : get_or (set live i false) i false ≡ false =
      elim (cases_lt i (length live)) [ inl l ↦ get_or-set_same live i false false l | inr l ↦ get_or_past (set live i false) i false (omega (arith, length-set live i false)) ] in
      ap with (tab_set boxes (box live held) (box (set live i false) held) i dead h
      (ap (λ v. box_of v (tab rows (row held i))) z)
      (λ j l q. ap (λ v. box_of v (tab rows (row held j))) (get_or-set_other live i j false false q)))

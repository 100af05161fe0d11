-- What comes back is the record: both are polynomials of as many coefficients as gateways answered, with the same values.
use Rattle.std.proofs.Common.{◌≡◌, ℕ, ◌+◌, ◌-◌, ◌^◌, ◌<◌, ◌≤◌, List, map, length, get_or, sym, ap, ◌∙◌, subst, ap₂, mod-eq_of_lt, arith}
use Rattle.std.proofs.lemmas.List.{length-map, get_or-map, ext_get_or}
use Rattle.field.specs.Laws.{Ops, Laws}
use Rattle.algebra.specs.Cells.{entry}
use Rattle.algebra.specs.Poly.{Apart, Through, poly}
use Rattle.algebra.proofs.Interpolation.{uniqueness}
use Rattle.gateways.specs.Spread.{AllBelow, Named}

module _ {E : Type 0} {F : Ops E} (L : Laws F) (batch answering : List ℕ) (codes : AllBelow (2 ^ F.bits) batch) (many : length answering ≡ length batch)
    (coefficients held points values f : List E)
    (coefficients-are : coefficients ≡ map F.element batch)
    (held-are : (k : ℕ) → k < length held → entry F held k ≡ poly F (length coefficients) (entry F coefficients) (F.element (k + 1)))
    (points-are : points ≡ map F.element answering)
    (values-are : values ≡ map (λ a. entry F held (a - 1)) answering)
    (named : Named (length held) answering)
    (long : length f ≡ length points) (apart : Apart (length points) (entry F points))
    (through : Through F (length points) (entry F points) (entry F values) (entry F f)) where
  m_points : length points ≡ length batch
  m_points = ap length points-are ∙ length-map answering F.element ∙ many

  m_coefficients : length coefficients ≡ length batch
  m_coefficients = ap length coefficients-are ∙ length-map batch F.element

  entry_map : (g : ℕ → E) (xs : List ℕ) (ys : List E) → ys ≡ map g xs → (k : ℕ) → k < length xs → entry F ys k ≡ g (get_or xs k 0)
  entry_map g xs ys e k h = ap (λ zs. get_or zs k F.zero) e ∙ get_or-map g xs k 0 F.zero h

  also_through : Through F (length points) (entry F points) (entry F values) (entry F coefficients)
  also_through i h =
      let l : i < length answering = subst (λ (n : ℕ). i < n) (m_points ∙ sym many) h in
      let a : ℕ = get_or answering i 0 in
      let low : 1 ≤ a = (named i l).0 in
      let high : a ≤ length held = (named i l).1 in
      let inside : a - 1 < length held = omega arith in
      let back : (a - 1) + 1 ≡ a = omega arith in
      ap₂ (λ n x. poly F n (entry F coefficients) x) (m_points ∙ sym m_coefficients) (entry_map F.element answering points points-are i l)
      ∙ sym (entry_map (λ a. entry F held (a - 1)) answering values values-are i l ∙ held-are (a - 1) inside
      ∙ ap (λ n. poly F (length coefficients) (entry F coefficients) (F.element n)) back)

  same : (k : ℕ) → k < length points → entry F f k ≡ entry F coefficients k
  same = uniqueness L (length points) (entry F points) (entry F values) (entry F f) (entry F coefficients) apart through also_through

  pub comes_back : map F.code f ≡ batch
  comes_back =
      ext_get_or 0 (map F.code f) batch (length-map f F.code ∙ long ∙ m_points)
      (λ k h.
      let lf : k < length f = subst (λ (n : ℕ). k < n) (length-map f F.code) h in
      let lp : k < length points = subst (λ (n : ℕ). k < n) long lf in
      let lb : k < length batch = subst (λ (n : ℕ). k < n) m_points lp in
      get_or-map F.code f k F.zero 0 lf
      ∙ ap F.code (same k lp ∙ entry_map F.element batch coefficients coefficients-are k lb)
      ∙ L.code_element (get_or batch k 0) ∙ mod-eq_of_lt (codes k lb))

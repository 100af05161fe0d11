-- Where rows and boxes lie, and the limits of their numbers.
use Rattle.std.proofs.Common.{◌≡◌, ℕ, ◌+◌, ◌-◌, ◌*◌, ◌<◌, ◌≤◌, true, ltb, leb, ◌⊎◌, sym, ap, ◌∙◌, inl, inr, mul_assoc, mul_comm, add-mul, arith}
use Rattle.std.proofs.lemmas.Bool.{cases_lt, and_parts, ltb-true, leb-true}
use Rattle.shelf.specs.Limits.{within}
use Rattle.std.proofs.lemmas.Nat.{mul-le, column_fits_turned}
use Rattle.shelf.specs.declared.told.Told.{Told}
use Rattle.shelf.specs.Stored.{place, size, max_size}

-- A line of c cells ends before each later one.
pub line_before : (i j c : ℕ) → i < j → i * c + c ≤ j * c
line_before i j c h = rw (mul_comm i c) (column_fits_turned c i j c h (omega arith))

pub row_in : (n i r rows width : ℕ) → i < n → r < rows → place rows width i r + width ≤ (n * rows) * width
row_in n i r rows width h l =
    let p : i * rows + rows ≤ n * rows = line_before i n rows h in
    line_before (i * rows + r) (n * rows) width (omega arith)

-- Two lines apart.
pub apart_lines : (i j c : ℕ) → (i ≡ j → ⊥) → (i * c + c ≤ j * c) ⊎ (j * c + c ≤ i * c)
apart_lines i j c n = elim (cases_lt i j) [ inl h ↦ inl (line_before i j c h) | inr h ↦ inr (line_before j i c (let q : (j ≡ i → ⊥) = λ e. n (sym e) in omega arith)) ]

-- Two places that are not one have two numbers.
pub two_places : (rows b row j r : ℕ) → row < rows → r < rows → (j ≡ b → r ≡ row → ⊥) → j * rows + r ≡ b * rows + row → ⊥
two_places rows b row j r h k n e =
    elim (cases_lt j b) [
      | inl l ↦ (let p = line_before j b rows l in omega arith)
      | inr l ↦ elim (cases_lt b j) [
        | inl m ↦ (let p = line_before b j rows m in omega arith)
        | inr m ↦ (let q : j ≡ b = omega arith in let s : j * rows ≡ b * rows = ap (λ z. z * rows) q in n q (omega arith))
      ]
    ]

pub place_is : (i rows r width : ℕ) → place rows width i r ≡ i * (rows * width) + r * width
place_is i rows r width = add-mul (i * rows) r width ∙ ap (λ z. z + r * width) (mul_assoc i rows width)

pub within_low : (i n : ℕ) → within i n ≡ true → 1 ≤ i
within_low i n e = ltb-true 0 i (and_parts (ltb 0 i) (leb i n) e).0

pub within_high : (i n : ℕ) → within i n ≡ true → i ≤ n
within_high i n e = leb-true i n (and_parts (ltb 0 i) (leb i n) e).1

pub within_index : (i n : ℕ) → within i n ≡ true → i - 1 < n
within_index i n e = let a = within_low i n e in let b = within_high i n e in omega arith

pub numbers_small : (boxes rows width : ℕ) → boxes ≤ 16 → rows ≤ 16 → width ≤ 1024 → (boxes * rows) * width ≤ max_size
numbers_small boxes rows width a b c = mul-le (boxes * rows) width 256 1024 (mul-le boxes rows 16 16 a b) c

pub size_small : (t : Told) → size t.shape ≤ max_size
size_small t = let s = t.shape in let l = t.limits in numbers_small s.boxes s.rows s.width l.0 l.1.1 l.2.1

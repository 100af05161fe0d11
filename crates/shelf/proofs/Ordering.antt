-- The tests of the checks, and what they mean.
use Rattle.std.proofs.Common.{◌≡◌, ℕ, ◌-◌, ◌*◌, ◌^◌, ◌<◌, Bool, true, false, eqb, ltb, leb, List, length, get_or, Result, refl, ap, ◌∙◌, inl, inr}
use Rattle.std.proofs.lemmas.Bool.{cases_Bool, and_from, and_parts, lt-ltb, le-leb, lt-leb, eq-eqb, eqb-true}
use Rattle.std.proofs.lemmas.List.Recursion.{and_from_places}
use Rattle.refusal.specs.declared.denial.Denial.{Denial}
use Rattle.refusal.specs.declared.denial.Denial.TheVariants.{Limit, Length, Range, Symbol, Dead}
use Rattle.refusal.specs.Checks.{check, and_then}
use Rattle.shelf.specs.Limits.{within, in_limits, max_boxes, max_rows, max_width, max_bits}
use Rattle.shelf.specs.Model.{box_at, is_standing}
use Rattle.shelf.specs.Calls.{all_below}
use Rattle.shelf.specs.Order.{OneOf, Ordered, Fit, TakeOrder, PutOrder, BoxOrder, LayOrder, ChecksInOrder}
use Rattle.shelf.proofs.Codes.{below_at}
use Rattle.shelf.proofs.Index.{within_low, within_high}

-- A test that is true just where P holds.
record Means (t : Bool) (P : Type 0) : Type 0 where
  means : t ≡ true → P
  since : P → t ≡ true

false_so : (t : Bool) (P : Type 0) → Means t P → (P → ⊥) → t ≡ false
false_so t P m n = elim (cases_Bool t) [ inl e ↦ absurd (n (m.means e)) | inr e ↦ e ]

one_of : (i n : ℕ) → Means (within i n) (OneOf i n)
one_of i n = record { means = λ e. (within_low i n e, within_high i n e); since = λ p. and_from (ltb 0 i) (leb i n) (lt-ltb 0 i p.0) (le-leb i n p.1) }

equal : (a b : ℕ) → Means (eqb a b) (a ≡ b)
equal a b = record { means = eqb-true a b; since = eq-eqb a b }

always : Means true (Unit {0})
always = record { means = λ e. tt; since = λ p. refl }

itself : (t : Bool) → Means t (t ≡ true)
itself t = record { means = λ e. e; since = λ p. p }

all_codes : (n : ℕ) (vs : List ℕ) → ((j : ℕ) → j < length vs → get_or vs j 0 < n) → all_below n vs ≡ true
all_codes n vs h = and_from_places (all_below n) (λ x. ltb x n) refl (λ x ys. refl) vs 0 (λ i l. lt-ltb (get_or vs i 0) n (h i l))

codes : (n : ℕ) (vs : List ℕ) → Means (all_below n vs) ((j : ℕ) → j < length vs → get_or vs j 0 < n)
codes n vs = record { means = λ e j l. below_at n vs j e l; since = all_codes n vs }

-- The five checks in their order.
abbrev said : (box row long codes alive : Bool) → ℕ → Result Unit Denial
said box row long codes alive b =
    and_then (and_then (check box (Range b)) (and_then (check row (Range b)) (check long Length))) (and_then (check codes Symbol) (check alive (Dead b)))

module _ (t1 t2 t3 t4 t5 : Bool) (P1 P2 P3 P4 P5 : Type 0) (b : ℕ) (m1 : Means t1 P1) (m2 : Means t2 P2) (m3 : Means t3 P3) (m4 : Means t4 P4) (m5 : Means t5 P5) where
  abbrev r : Result Unit Denial
  r = said t1 t2 t3 t4 t5 b

  past_box : P1 → r ≡ said true t2 t3 t4 t5 b
  past_box p = ap (λ t. said t t2 t3 t4 t5 b) (m1.since p)

  past_row : P1 → P2 → r ≡ said true true t3 t4 t5 b
  past_row p q = past_box p ∙ ap (λ t. said true t t3 t4 t5 b) (m2.since q)

  past_long : P1 → P2 → P3 → r ≡ said true true true t4 t5 b
  past_long p q s = past_row p q ∙ ap (λ t. said true true t t4 t5 b) (m3.since s)

  past_codes : P1 → P2 → P3 → P4 → r ≡ said true true true true t5 b
  past_codes p q s u = past_long p q s ∙ ap (λ t. said true true true t t5 b) (m4.since u)

  in_order : Ordered P1 P2 P3 P4 P5 b r
  in_order = record {
    range = λ n. elim (cases_Bool t1) [
      | inl e ↦ (Range b, past_box (m1.means e) ∙ ap (λ t. said true t t3 t4 t5 b) (false_so t2 P2 m2 (λ q. n (m1.means e, q))), refl, refl)
      | inr e ↦ (Range b, ap (λ t. said t t2 t3 t4 t5 b) e, refl, refl)
    ];
    length = λ p q n. (Length, past_row p q ∙ ap (λ t. said true true t t4 t5 b) (false_so t3 P3 m3 n), refl, refl);
    symbol = λ p q s n. (Symbol, past_long p q s ∙ ap (λ t. said true true true t t5 b) (false_so t4 P4 m4 n), refl, refl);
    dead = λ p q s u n. (Dead b, past_codes p q s u ∙ ap (λ t. said true true true true t b) (false_so t5 P5 m5 n), refl, refl);
    accepted = λ p q s u v. past_codes p q s u ∙ ap (λ t. said true true true true t b) (m5.since v);
  }

take_order : TakeOrder
take_order m b row n = in_order (within b (length m.boxes)) (within row m.rows) (eqb n m.width) true (is_standing (box_at m (b - 1))) _ _ _ _ _ b
    (one_of b (length m.boxes)) (one_of row m.rows) (equal n m.width) always (itself (is_standing (box_at m (b - 1))))

put_order : PutOrder
put_order m b row vs = in_order (within b (length m.boxes)) (within row m.rows) (eqb (length vs) m.width) (all_below (2 ^ m.bits) vs) (is_standing (box_at m (b - 1))) _ _ _ _ _ b
    (one_of b (length m.boxes)) (one_of row m.rows) (equal (length vs) m.width) (codes (2 ^ m.bits) vs) (itself (is_standing (box_at m (b - 1))))

box_order : BoxOrder
box_order m b =
    let w = one_of b (length m.boxes) in
    ((λ n. (Range b, ap (λ t. check t (Range b)) (false_so (within b (length m.boxes)) _ w n), refl, refl)), (λ p. ap (λ t. check t (Range b)) (w.since p)))

fits : (boxes rows width bits : ℕ) → Means (in_limits boxes rows width bits) (Fit boxes rows width bits)
fits boxes rows width bits =
    let a = one_of boxes max_boxes in
    let b = one_of rows max_rows in
    let c = one_of width max_width in
    let d = one_of bits max_bits in
    record {
      means = λ e.
          let p = and_parts (within boxes max_boxes) _ e in
          let q = and_parts (within rows max_rows) _ p.1 in
          let r = and_parts (within width max_width) _ q.1 in
          ((a.means p.0, b.means q.0), (c.means r.0, d.means r.1));
      since = λ p. and_from (within boxes max_boxes) _ (a.since p.0.0) (and_from (within rows max_rows) _ (b.since p.0.1) (and_from (within width max_width) (within bits max_bits) (c.since p.1.0) (d.since p.1.1)));
    }

lay_order : LayOrder
lay_order boxes rows width bits room =
    let w = fits boxes rows width bits in
    let l = in_limits boxes rows width bits in
    let size = (boxes * rows) * width in
    let says : Bool → Bool → Result Unit Denial = λ s t. and_then (check s Limit) (check t Length) in (
      (λ n. (Limit, ap (λ s. says s (leb size room)) (false_so l _ w n), refl, refl)),
      (λ p h. (Length, ap (λ s. says s (leb size room)) (w.since p) ∙ ap (says true) (lt-leb size room h), refl, refl)),
      (λ p h. ap (λ s. says s (leb size room)) (w.since p) ∙ ap (says true) (le-leb size room h)),
    )

pub checks_in_order : ChecksInOrder
checks_in_order = (take_order, put_order, box_order, lay_order)

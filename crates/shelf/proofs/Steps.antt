-- Each call on a shelf over a memory, against the model.
use Rattle.std.proofs.Common.{◌≡◌, ℕ, ◌+◌, ◌-◌, ◌*◌, ◌%◌, ◌^◌, ◌<◌, ◌≤◌, Bool, true, false, List, length, get_or, set, replicate, Ok, Result, sym, ap, ◌∙◌, mul_assoc, arith}
use Rattle.std.proofs.lemmas.List.{get_or-replicate}
use Rattle.refusal.specs.declared.denial.Denial.{Denial}
use Rattle.refusal.specs.declared.denial.Denial.TheVariants.{Range, Symbol, Dead}
use Rattle.shelf.specs.declared.shape.Shape.{Shape}
use Rattle.refusal.specs.Checks.{check, and_then}
use Rattle.shelf.specs.Limits.{within, max_boxes}
use Rattle.shelf.specs.Model.{Model, dead, with_box}
use Rattle.shelf.specs.Calls.{all_below, placed, coded, living, alive, row_in, with_row_in, blank, take_says, put_says, box_says, stands_says}
use Rattle.shelf.specs.Stored.{tab, place, model_of, size, Written}
use Rattle.shelf.proofs.Chains.{first_ok, rest_ok, check_ok, and_same, placed_ok}
use Rattle.shelf.proofs.Index.{within_index, line_before}
use Rattle.shelf.proofs.Holds.{count_is, stands_is, row_is, put_is, renew_is, kill_is}

module _ (live : List Bool) (held : ℕ → ℕ) (s : Shape) where
  abbrev the : Model
  the = model_of live held s

  abbrev fits : (b row n : ℕ) → Result Unit Denial
  fits b row n = placed s.boxes s.rows s.width b row n

  abbrev lives : ℕ → Result Unit Denial
  lives b = living (get_or live (b - 1) false) b

  alive_is : (b row n : ℕ) → fits b row n ≡ Ok tt → alive the b ≡ get_or live (b - 1) false
  alive_is b row n e = stands_is live held s (b - 1) (within_index b s.boxes (placed_ok s.boxes s.rows s.width b row n e).box_ok)

  pub take_said : (b row n : ℕ) → take_says the b row n ≡ and_then (fits b row n) (lives b)
  take_said b row n =
      ap (λ k. and_then (placed k s.rows s.width b row n) (living (alive the b) b)) (count_is live held s)
      ∙ and_same (fits b row n) (living (alive the b) b) (lives b) (λ e. ap (λ v. living v b) (alive_is b row n e))

  pub put_said : (b row : ℕ) (vs : List ℕ) → put_says the b row vs ≡ and_then (fits b row (length vs)) (and_then (coded s.bits vs) (lives b))
  put_said b row vs =
      ap (λ k. and_then (placed k s.rows s.width b row (length vs)) (and_then (coded s.bits vs) (living (alive the b) b))) (count_is live held s)
      ∙ and_same (fits b row (length vs)) (and_then (coded s.bits vs) (living (alive the b) b)) (and_then (coded s.bits vs) (lives b))
      (λ e. ap (λ v. and_then (coded s.bits vs) (living v b)) (alive_is b row (length vs) e))

  pub take_gives : (b row n : ℕ) → and_then (fits b row n) (lives b) ≡ Ok tt
      → tab n (λ j. held (place s.rows s.width (b - 1) (row - 1) + j) % 2 ^ s.bits) ≡ row_in the b row
  take_gives b row n e =
      let p = placed_ok s.boxes s.rows s.width b row n (first_ok (fits b row n) (lives b) tt e) in
      ap (λ k. tab k (λ j. held (place s.rows s.width (b - 1) (row - 1) + j) % 2 ^ s.bits)) p.long_ok
      ∙ sym (row_is live held s (b - 1) (row - 1) (within_index b s.boxes p.box_ok) (check_ok (get_or live (b - 1) false) (Dead b) (rest_ok (fits b row n) (lives b) tt e))
      (within_index row s.rows p.row_ok))

  pub put_done : (new : ℕ → ℕ) (b row : ℕ) (vs : List ℕ) → and_then (fits b row (length vs)) (and_then (coded s.bits vs) (lives b)) ≡ Ok tt
      → Written held new (place s.rows s.width (b - 1) (row - 1)) (length vs) (λ j. get_or vs j 0)
      → model_of live new s ≡ with_row_in the b row vs
  put_done new b row vs e w =
      let f = fits b row (length vs) in
      let g = coded s.bits vs in
      let p = placed_ok s.boxes s.rows s.width b row (length vs) (first_ok f (and_then g (lives b)) tt e) in
      let r = rest_ok f (and_then g (lives b)) tt e in
      put_is live held s new vs (b - 1) (row - 1) (within_index b s.boxes p.box_ok) (check_ok (get_or live (b - 1) false) (Dead b) (rest_ok g (lives b) tt r))
      (within_index row s.rows p.row_ok) p.long_ok (check_ok (all_below (2 ^ s.bits) vs) Symbol (first_ok g (lives b) tt r)) w

  pub box_said : (b : ℕ) → box_says the b ≡ check (within b s.boxes) (Range b)
  box_said b = ap (λ k. check (within b k) (Range b)) (count_is live held s)

  pub stands_said : (b : ℕ) → stands_says the b ≡ and_then (check (within b s.boxes) (Range b)) (Ok (get_or live (b - 1) false))
  stands_said b =
      ap (λ a. and_then a (Ok (alive the b))) (box_said b)
      ∙ and_same (check (within b s.boxes) (Range b)) (Ok (alive the b)) (Ok (get_or live (b - 1) false))
      (λ e. ap Ok (stands_is live held s (b - 1) (within_index b s.boxes (check_ok (within b s.boxes) (Range b) e))))

  pub kill_does : (b : ℕ) → within b s.boxes ≡ true → model_of (set live (b - 1) false) held s ≡ with_box the (b - 1) dead
  kill_does b e = kill_is live held s (b - 1) (within_index b s.boxes e)

  pub renew_does : (new : ℕ → ℕ) (b : ℕ) → within b s.boxes ≡ true → s.boxes ≤ length live
      → Written held new ((b - 1) * (s.rows * s.width)) (s.rows * s.width) (λ j. 0)
      → model_of (set live (b - 1) true) new s ≡ with_box the (b - 1) (blank s.rows s.width)
  renew_does new b e l w = let h = within_index b s.boxes e in renew_is live held s new (b - 1) h (omega arith) w

-- The places of a box are places of the shelf.
pub box_in : (s : Shape) (i : ℕ) → i < s.boxes → i * (s.rows * s.width) + s.rows * s.width ≤ size s
box_in s i h =
    let q = line_before i s.boxes (s.rows * s.width) h in
    omega (arith, mul_assoc s.boxes s.rows s.width)

pub all_true : (i : ℕ) → i < max_boxes → get_or (replicate max_boxes true) i false ≡ true
all_true i h = get_or-replicate max_boxes i true false h

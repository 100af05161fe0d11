-- What a call on a shelf answers and changes, by the shape that the shelf tells.
use Rattle.std.proofs.Common.{◌≡◌, ℕ, ◌+◌, ◌-◌, ◌*◌, ◌%◌, ◌^◌, ◌≤◌, Bool, true, false, List, length, get_or, set, Ok, Result, sym, ap, ◌∙◌}
use Rattle.refusal.specs.declared.denial.Denial.{Denial}
use Rattle.refusal.specs.declared.denial.Denial.TheVariants.{Range}
use Rattle.refusal.specs.Checks.{check, and_then}
use Rattle.shelf.specs.declared.shape.Shape.{Shape}
use Rattle.shelf.specs.Limits.{Limits, within}
use Rattle.shelf.specs.Model.{Model, Shaped, dead, with_box}
use Rattle.shelf.specs.Calls.{placed, coded, living, row_in, with_row_in, blank, take_says, put_says, box_says, stands_says}
use Rattle.shelf.specs.Stored.{tab, place, model_of, model_by, told, Written}
use Rattle.shelf.proofs.Holds.{count_is, shaped_is}
use Rattle.shelf.proofs.Steps.{take_said, take_gives, put_said, put_done, box_said, stands_said, kill_does, renew_does}

module _ (live : List Bool) (symbol : ℕ → ℕ → ℕ) (room : ℕ → ℕ) (s t : Shape) (tells : t ≡ told s (room s.bits)) where
  abbrev the : Model
  the = model_by live symbol room s

  abbrev held : ℕ → ℕ
  held = symbol t.bits

  abbrev lives : ℕ → Result Unit Denial
  lives b = living (get_or live (b - 1) false) b

  shown : model_of live held t ≡ the
  shown = ap (λ (u : Shape). model_of live (symbol u.bits) u) tells

  pub boxes_is : t.boxes ≡ length the.boxes
  boxes_is = sym (count_is live held t) ∙ ap (λ (m : Model). length m.boxes) shown

  pub shaped : Limits t.boxes t.rows t.width t.bits → Shaped the
  shaped l = rw shown at (shaped_is live held t l)

  pub take_is : (b row n : ℕ) → and_then (placed t.boxes t.rows t.width b row n) (lives b) ≡ take_says the b row n
  take_is b row n = sym (take_said live held t b row n) ∙ ap (λ m. take_says m b row n) shown

  pub put_is : (b row : ℕ) (vs : List ℕ) → and_then (placed t.boxes t.rows t.width b row (length vs)) (and_then (coded t.bits vs) (lives b)) ≡ put_says the b row vs
  put_is b row vs = sym (put_said live held t b row vs) ∙ ap (λ m. put_says m b row vs) shown

  pub box_is : (b : ℕ) → check (within b t.boxes) (Range b) ≡ box_says the b
  box_is b = sym (box_said live held t b) ∙ ap (λ m. box_says m b) shown

  pub stands_is : (b : ℕ) → and_then (check (within b t.boxes) (Range b)) (Ok (get_or live (b - 1) false)) ≡ stands_says the b
  stands_is b = sym (stands_said live held t b) ∙ ap (λ m. stands_says m b) shown

  pub row_is : (b row n : ℕ) → and_then (placed t.boxes t.rows t.width b row n) (lives b) ≡ Ok tt
      → tab n (λ j. held (place t.rows t.width (b - 1) (row - 1) + j) % 2 ^ t.bits) ≡ row_in the b row
  row_is b row n e = take_gives live held t b row n e ∙ ap (λ m. row_in m b row) shown

  pub killed : (b : ℕ) → within b t.boxes ≡ true → model_by (set live (b - 1) false) symbol room s ≡ with_box the (b - 1) dead
  killed b e = ap (λ (u : Shape). model_of (set live (b - 1) false) (symbol u.bits) u) (sym tells) ∙ kill_does live held t b e ∙ ap (λ m. with_box m (b - 1) dead) shown

  -- The memory has changed, and its room has not.
  module _ (now : ℕ → ℕ → ℕ) (room_now : ℕ → ℕ) (same : (k : ℕ) → room_now k ≡ room k) where
    tells_now : told s (room_now s.bits) ≡ t
    tells_now = ap (told s) (same s.bits) ∙ sym tells

    pub put_shown : (b row : ℕ) (vs : List ℕ) → and_then (placed t.boxes t.rows t.width b row (length vs)) (and_then (coded t.bits vs) (lives b)) ≡ Ok tt
        → Written held (now t.bits) (place t.rows t.width (b - 1) (row - 1)) (length vs) (λ j. get_or vs j 0)
        → model_by live now room_now s ≡ with_row_in the b row vs
    put_shown b row vs e w = ap (λ (u : Shape). model_of live (now u.bits) u) tells_now ∙ put_done live held t (now t.bits) b row vs e w ∙ ap (λ m. with_row_in m b row vs) shown

    pub renewed : (b : ℕ) → within b t.boxes ≡ true → t.boxes ≤ length live
        → Written held (now t.bits) ((b - 1) * (t.rows * t.width)) (t.rows * t.width) (λ j. 0)
        → model_by (set live (b - 1) true) now room_now s ≡ with_box the (b - 1) (blank the.rows the.width)
    renewed b e l w =
        ap (λ (u : Shape). model_of (set live (b - 1) true) (now u.bits) u) tells_now
        ∙ renew_does live held t (now t.bits) b e l w
        ∙ ap (λ (m : Model). with_box m (b - 1) (blank m.rows m.width)) shown

-- The checks, each with its refusal. Where a check looks at several boxes, the first in the order given that offends is named.
use Rattle.std.specs.Prelude.{ℕ, ◌^◌, Bool, true, false, not, ◌&&◌, ◌||◌, List, [], ◌∷◌, length, Some, None, Ok, Option, Result, ◌==◌, nat_le, nat_lt}
use Rattle.std.specs.List.{range_with_len}
use Rattle.refusal.specs.declared.denial.Denial.{Denial}
use Rattle.refusal.specs.declared.denial.Denial.TheVariants.{OtherShelf, Length, Range, Repeated, Symbol, Dead, State as StateDenial, Repair as RepairDenial, Part, Already, Missing}
use Rattle.refusal.specs.Checks.{check, and_then}
use Rattle.beehive.specs.declared.numbers.Numbers.{Numbers}
use Rattle.beehive.specs.Numbers.{boxes, beta}
use Rattle.shelf.specs.Limits.{within}
use Rattle.shelf.specs.Calls.{all_below}
use Rattle.ledger.specs.Lengths.{least_work, least_scratch, data_symbols, tray_cells}
use Rattle.ledger.specs.Calls.{Lent}
use Rattle.ledger.specs.Ledger.{Ledger, Repair, named, is_dead, is_blank, is_whole, newcomers_of, helpers_of, came_of, times_came}

-- A check of its own, or passed.
abbrev pub Check : Type 0
Check = Result Unit Denial

-- One check after the other; the first that fails is answered.
infixr 4 ◌then◌
abbrev pub ◌then◌ : Check → Check → Check
◌then◌ = and_then

-- The same check of a sender and of a receiver.
abbrev pub both : (ℕ → Check) → (sender receiver : ℕ) → Check
both f i j = f i then f j

-- The check of every box of the list, in its order.
abbrev pub each : (ℕ → Check) → List ℕ → Check
each f [] = Ok tt
each f (b ∷ bs) = f b then each f bs

-- 4: the shelf is n boxes of β rows of w symbols of m bits.
abbrev pub right_shelf : (bits : ℕ) → Numbers → Lent → Check
right_shelf bits N lent =
    check ((lent.boxes == boxes N && lent.rows == beta N) && (lent.width == N.w && lent.bits == bits)) OtherShelf

-- 5: a list or an answer buffer has its length; lent memory is long enough.
abbrev pub long : (have want : ℕ) → Check
long have want = check (have == want) Length

abbrev pub roomy : (have least : ℕ) → Check
roomy have least = check (nat_le least have) Length

abbrev pub work_room : Lent → Check
work_room lent = roomy lent.work least_work then roomy lent.scratch least_scratch

abbrev pub tray_room : Numbers → Lent → Check
tray_room N lent = roomy lent.tray (tray_cells N) then work_room lent

abbrev pub load_lengths : Numbers → Lent → (original : List ℕ) → Check
load_lengths N lent xs = long (length xs) (data_symbols N) then work_room lent

abbrev pub read_lengths : Numbers → Lent → (boxes : List ℕ) → Check
read_lengths N lent bs = long (length bs) N.k then long lent.answer (data_symbols N) then work_room lent

abbrev pub open_lengths : Numbers → (newcomers helpers : List ℕ) → Check
open_lengths N ns hs = long (length ns) N.t then long (length hs) N.d

-- 6: the box is one of the n.
abbrev pub in_range : Numbers → ℕ → Check
in_range N b = check (within b (boxes N)) (Range b)

-- 7: no box is named twice; the first repeat is named.
abbrev pub unrepeated : (seen : List ℕ) → List ℕ → Check
unrepeated seen [] = Ok tt
unrepeated seen (b ∷ bs) = check (not (named b seen)) (Repeated b) then unrepeated (b ∷ seen) bs

-- 8: every symbol is a code of the field.
abbrev pub coded : (bits : ℕ) → List ℕ → Check
coded bits xs = check (all_below (2 ^ bits) xs) Symbol

-- 9: the box is not dead.
abbrev pub alive : Ledger → ℕ → Check
alive L b = check (not (is_dead (L.state b))) (Dead b)

-- the boxes 1 to n
abbrev pub all_boxes : Numbers → List ℕ
all_boxes N = range_with_len 1 (boxes N)

-- 10: the box is in the state that is needed.
abbrev pub whole_box : Ledger → ℕ → Check
whole_box L b = check (is_whole (L.state b)) (StateDenial b)

abbrev pub blank_box : Ledger → ℕ → Check
blank_box L b = check (is_blank (L.state b)) (StateDenial b)

abbrev pub dead_box : Ledger → ℕ → Check
dead_box L b = check (is_dead (L.state b)) (StateDenial b)

-- 10 in an opening: newcomers are blank, helpers whole.
abbrev pub ready : Ledger → (newcomers helpers : List ℕ) → Check
ready L ns hs = each (blank_box L) ns then each (whole_box L) hs

-- 11: a repair is open, or none.
abbrev pub is_open : Option Repair → Bool
is_open None = false
is_open (Some R) = true

abbrev pub none_open : Ledger → Check
none_open L = check (not (is_open L.repair)) (RepairDenial 0)

abbrev pub one_open : Ledger → Check
one_open L = check (is_open L.repair) (RepairDenial 0)

-- 11 in a refit: the box has no part in the open repair. It names the box.
abbrev pub no_part : Ledger → ℕ → Check
no_part L b = check (not (named b (newcomers_of L.repair) || named b (helpers_of L.repair))) (RepairDenial b)

-- 12: the box has that part in the repair.
abbrev pub a_helper : Ledger → ℕ → Check
a_helper L b = check (named b (helpers_of L.repair)) (Part b)

abbrev pub a_newcomer : Ledger → ℕ → Check
a_newcomer L b = check (named b (newcomers_of L.repair)) (Part b)

-- 12: nobody passes to itself.
abbrev pub another : (sender receiver : ℕ) → Check
another i j = check (not (i == j)) (Part j)

abbrev pub helps : Ledger → (sender receiver : ℕ) → Check
helps L i j = a_helper L i then a_newcomer L j

abbrev pub passes : Ledger → (sender receiver : ℕ) → Check
passes L i j = a_newcomer L i then a_newcomer L j then another i j

-- a segment came from i to j
abbrev pub arrived : Ledger → (i j : ℕ) → Bool
arrived L i j = nat_lt 0 (times_came (came_of L.repair) i j)

-- 13: the receiver is not settled, and does not have the segment.
abbrev pub unsettled : Ledger → ℕ → Check
unsettled L j = check (not (is_whole (L.state j))) (Already j)

abbrev pub lacking : Ledger → (i j : ℕ) → Check
lacking L i j = check (not (arrived L i j)) (Already j)

abbrev pub waits : Ledger → (sender receiver : ℕ) → Check
waits L i j = unsettled L j then lacking L i j

-- 14: each helper's segment came to j.
abbrev pub helped : Ledger → (j : ℕ) → Check
helped L j = each (λ i. check (arrived L i j) (Missing j)) (helpers_of L.repair)

-- 14: so did each other newcomer's.
abbrev pub passed : Ledger → (j : ℕ) → Check
passed L j = each (λ e. check (e == j || arrived L e j) (Missing j)) (newcomers_of L.repair)

abbrev pub complete : Ledger → (j : ℕ) → Check
complete L j = helped L j then passed L j

-- How the ledger judges a call, and what it is after it.
use Rattle.std.specs.Prelude.{ℕ, cond, ◌&&◌, List, [], ◌∷◌, ◌++◌, replicate, Some, None, Ok, Err, Option}
use Rattle.refusal.specs.Checks.{if_ok}
use Rattle.field.specs.Laws.{Ops}
use Rattle.beehive.specs.declared.numbers.Numbers.{Numbers}
use Rattle.beehive.specs.Numbers.{beta}
use Rattle.ledger.specs.Lengths.{box_symbols}
use Rattle.ledger.specs.Blocks.{Encoder, block_rows, segment_codes}
use Rattle.ledger.specs.Calls.{Lent, Call, load, read, show, lose, refit, «open», help, pass, settle, drop, Reply, denied, done, told, counted}
use Rattle.ledger.specs.Ledger.{Ledger, State, dead, blank, whole, filling, Repair, at, named, is_filling, newcomers_of, helpers_of, came_of, from_to}
use Rattle.ledger.specs.Checks.{Check, ◌then◌, each, both, right_shelf, long, load_lengths, read_lengths, open_lengths, tray_room, in_range, unrepeated, coded, alive, all_boxes, whole_box, dead_box, ready, none_open, one_open, no_part, a_newcomer, helps, passes, unsettled, waits, helped, complete}

-- a box's rows one after the other
abbrev pub joined : List (List ℕ) → List ℕ
joined [] = []
joined (r ∷ rs) = r ++ joined rs

-- where no load was accepted, no data; no read is accepted then
abbrev pub data_or_none : Option (List ℕ) → List ℕ
data_or_none None = []
data_or_none (Some xs) = xs

-- one segment more came, from i to j
abbrev pub with_segment : (i j : ℕ) → Option Repair → Option Repair
with_segment i j None = None
with_segment i j (Some R) =
    Some (record { newcomers = R.newcomers; helpers = R.helpers; came = record { sender = i; receiver = j } ∷ R.came })

-- The boxes of the list that are filling become blank; dead ones stay dead, and whole ones whole.
abbrev pub unfilled : List ℕ → (ℕ → State) → ℕ → State
unfilled bs state i = cond (named i bs && is_filling (state i)) blank (state i)

abbrev pub all_filling : List ℕ → (ℕ → State) → ℕ → State
all_filling bs state i = cond (named i bs) filling (state i)

module _ {E : Type 0} (F : Ops E) (N : Numbers) where
  -- 4: the call is given a shelf of the stripe's shape.
  abbrev pub shelf : Lent → Check
  shelf lent = right_shelf F.bits N lent

  -- What a settle checks before it asks whether segments are missing.
  abbrev pub settle_earlier : Ledger → Lent → ℕ → Check
  -- 4, 5, 11, 6, 12, 9, 13
  settle_earlier L lent j = shelf lent then tray_room N lent then one_open L then in_range N j then a_newcomer L j then alive L j then unsettled L j

  -- The checks of each call, by their numbers in order; of a sender and a receiver the sender first.
  abbrev pub checks : Ledger → Call → Check
  -- 4, 5, 11, 8, 9
  checks L (load lent xs) = shelf lent then load_lengths N lent xs then none_open L then coded F.bits xs then each (alive L) (all_boxes N)
  -- 4, 5, 6, 7, 9, 10
  checks L (read lent bs) = shelf lent then read_lengths N lent bs then each (in_range N) bs then unrepeated [] bs then each (alive L) bs then each (whole_box L) bs
  -- 4, 5, 6, 9
  checks L (show lent b) = shelf lent then long lent.answer (box_symbols N) then in_range N b then alive L b
  -- 4, 6
  checks L (lose lent b) = shelf lent then in_range N b
  -- 4, 6, 10, 11
  checks L (refit lent b) = shelf lent then in_range N b then dead_box L b then no_part L b
  -- 4, 5, 11, 6, 7, 9, 10
  checks L («open» lent ns hs) =
      shelf lent then open_lengths N ns hs then none_open L then each (in_range N) (ns ++ hs) then unrepeated [] (ns ++ hs) then each (alive L) (ns ++ hs) then ready L ns hs
  -- 4, 5, 11, 6, 12, 9, 13
  checks L (help lent i j) =
      shelf lent then tray_room N lent then one_open L then both (in_range N) i j then helps L i j then both (alive L) i j then waits L i j
  -- 4, 5, 11, 6, 12, 9, 13, 14
  checks L (pass lent i j) =
      shelf lent then tray_room N lent then one_open L then both (in_range N) i j then passes L i j then both (alive L) i j then waits L i j then helped L i
  -- the seven before, and 14
  checks L (settle lent j) = settle_earlier L lent j then complete L j
  -- 11; a drop is given no shelf
  checks L drop = one_open L

  -- What an accepted call answers.
  abbrev pub answer : Ledger → Call → Reply
  answer L (load lent xs) = done
  answer L (read lent bs) = told (data_or_none L.original)
  answer L (show lent b) = told (joined (L.rows b))
  answer L (lose lent b) = done
  answer L (refit lent b) = done
  answer L («open» lent ns hs) = done
  answer L (help lent i j) = done
  answer L (pass lent i j) = done
  answer L (settle lent j) = counted (from_to (helpers_of L.repair) (came_of L.repair) j) (from_to (newcomers_of L.repair) (came_of L.repair) j)
  answer L drop = done

  -- The reply to any call.
  abbrev pub reply_by : Check → Reply → Reply
  reply_by (Ok _) r = r
  reply_by (Err e) r = denied e

  abbrev pub judge : Ledger → Call → Reply
  judge L call = reply_by (checks L call) (answer L call)

  module _ (code : Encoder F N) where
    -- The rows of box b in the lawful list for the data.
    abbrev pub lawful_rows : List ℕ → ℕ → List (List ℕ)
    lawful_rows xs b = block_rows F N (code.blocks xs) b

    -- The segment of a help from i to j: the one from i about j.
    abbrev pub help_segment : List ℕ → (i j : ℕ) → List ℕ
    help_segment xs i j = segment_codes F N (code.blocks xs) i j

    -- The segment of a pass from j to e: the one from e about j.
    abbrev pub pass_segment : List ℕ → (j e : ℕ) → List ℕ
    pass_segment xs j e = segment_codes F N (code.blocks xs) e j

    -- The segment that came from i to j, in the tray until the repair is dropped.
    abbrev pub segment_row : Ledger → (i j : ℕ) → List ℕ
    segment_row L i j =
        cond (named i (helpers_of L.repair)) (help_segment (data_or_none L.original) i j) (pass_segment (data_or_none L.original) i j)

    -- What an accepted call makes of the ledger.
    abbrev pub changed : Ledger → Call → Ledger
    changed L (load lent xs) = record { state = λ b. whole; rows = lawful_rows xs; original = Some xs; repair = L.repair }
    changed L (read lent bs) = L
    changed L (show lent b) = L
    changed L (lose lent b) = record { state = at b dead L.state; rows = at b [] L.rows; original = L.original; repair = L.repair }
    changed L (refit lent b) = record { state = at b blank L.state; rows = at b (replicate (beta N) (replicate N.w 0)) L.rows; original = L.original; repair = L.repair }
    changed L («open» lent ns hs) = record { state = all_filling ns L.state; rows = L.rows; original = L.original; repair = Some (record { newcomers = ns; helpers = hs; came = [] }) }
    changed L (help lent i j) = record { state = L.state; rows = L.rows; original = L.original; repair = with_segment i j L.repair }
    changed L (pass lent i j) = record { state = L.state; rows = L.rows; original = L.original; repair = with_segment i j L.repair }
    changed L (settle lent j) = record { state = at j whole L.state; rows = at j (lawful_rows (data_or_none L.original) j) L.rows; original = L.original; repair = L.repair }
    changed L drop = record { state = unfilled (newcomers_of L.repair) L.state; rows = L.rows; original = L.original; repair = None }

    -- A denial changes nothing.
    abbrev pub after : Ledger → Call → Ledger
    after L call = if_ok (checks L call) (changed L call) L

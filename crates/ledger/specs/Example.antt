-- Two sessions with figures that are known from outside: the nibble field, k = 3, r = 3, d = 4, t = 2 and rows of one symbol.
use Rattle.std.specs.Prelude.{◌≡◌, ℕ, List, [], ◌∷◌, ◌++◌}
use Rattle.std.proofs.Common.{lit≤}
use Rattle.refusal.specs.declared.denial.Denial.TheVariants.{Dead, Repair}
use Rattle.field.specs.Figures.{nibble}
use Rattle.beehive.specs.declared.numbers.Numbers.{Numbers}
use Rattle.beehive.specs.Points.{Suits}
use Rattle.shelf.specs.Model.{Model}
use Rattle.ledger.specs.Blocks.{Encoder}
use Rattle.ledger.specs.Calls.{Lent, Call, load, read, show, lose, refit, «open», help, pass, settle, drop, Reply, denied, done, told, counted}
use Rattle.ledger.specs.Ledger.{made}
use Rattle.ledger.specs.Judge.{segment_row}
use Rattle.ledger.specs.Runs.{replies, closing}

abbrev pub numbers : Numbers
numbers = record {
  k = 3;
  r = 3;
  d = 4;
  t = 2;
  w = 1;
  limits = ((lit≤ tt, lit≤ tt), (lit≤ tt, lit≤ tt), (lit≤ tt, lit≤ tt), (lit≤ tt, lit≤ tt));
  helped = (lit≤ tt, lit≤ tt, lit≤ tt);
}

-- A shelf of the right shape, and lent memory that is just long enough, with an answer buffer of this length.
abbrev pub lent : ℕ → Lent
lent answer = record { boxes = 6; rows = 3; width = 1; bits = 4; answer = answer; tray = 10; work = 24576; scratch = 12800 }

abbrev pub original : List ℕ
original = 1 ∷ 1 ∷ 1 ∷ 1 ∷ 8 ∷ 2 ∷ 1 ∷ 15 ∷ []

abbrev pub session : List Call
session =
    load (lent 0) original ∷
    show (lent 3) 4 ∷
    lose (lent 0) 1 ∷
    read (lent 8) (4 ∷ 1 ∷ 5 ∷ []) ∷
    read (lent 8) (6 ∷ 4 ∷ 5 ∷ []) ∷
    settle (lent 0) 1 ∷
    []

abbrev pub session_replies : List Reply
session_replies =
    done ∷
    told (1 ∷ 12 ∷ 4 ∷ []) ∷
    done ∷
    -- refusal 9, naming box 1
    denied (Dead 1) ∷
    told original ∷
    -- refusal 11, naming no box
    denied (Repair 0) ∷
    []

-- Boxes 1 and 2 are lost and replaced; boxes 3 to 6 help.
abbrev pub before_repair : List Call
before_repair =
    load (lent 0) original ∷
    lose (lent 0) 1 ∷
    lose (lent 0) 2 ∷
    refit (lent 0) 1 ∷
    refit (lent 0) 2 ∷
    «open» (lent 0) (1 ∷ 2 ∷ []) (3 ∷ 4 ∷ 5 ∷ 6 ∷ []) ∷
    []

abbrev pub segments_sent : List Call
segments_sent =
    help (lent 0) 3 1 ∷
    help (lent 0) 4 1 ∷
    help (lent 0) 5 1 ∷
    help (lent 0) 6 1 ∷
    help (lent 0) 3 2 ∷
    help (lent 0) 4 2 ∷
    help (lent 0) 5 2 ∷
    help (lent 0) 6 2 ∷
    pass (lent 0) 1 2 ∷
    pass (lent 0) 2 1 ∷
    []

-- Both are settled and hold their blocks; the data can be read from them again, and the repair ends.
abbrev pub settled : List Call
settled =
    settle (lent 0) 1 ∷
    settle (lent 0) 2 ∷
    show (lent 3) 1 ∷
    show (lent 3) 2 ∷
    read (lent 8) (2 ∷ 6 ∷ 1 ∷ []) ∷
    drop ∷
    []

abbrev pub settled_replies : List Reply
settled_replies =
    counted 4 1 ∷
    counted 4 1 ∷
    told (1 ∷ 1 ∷ 1 ∷ []) ∷
    told (1 ∷ 8 ∷ 2 ∷ []) ∷
    told original ∷
    done ∷
    []

-- all of the calls are done
abbrev pub each_done : List Call → List Reply
each_done [] = []
each_done (call ∷ calls) = done ∷ each_done calls

-- The segments that came, by sender and receiver: to box 1 from its helpers, to box 2 from its helpers, and the two passes.
pub record Sent (row : (i j : ℕ) → List ℕ) : Type 0 where
  pub to_box_1 : (row 3 1 ≡ 9 ∷ []) × (row 4 1 ≡ 11 ∷ []) × (row 5 1 ≡ 13 ∷ []) × (row 6 1 ≡ 6 ∷ [])
  pub to_box_2 : (row 3 2 ≡ 15 ∷ []) × (row 4 2 ≡ 13 ∷ []) × (row 5 2 ≡ 4 ∷ []) × (row 6 2 ≡ 7 ∷ [])
  pub passed : (row 1 2 ≡ 14 ∷ []) × (row 2 1 ≡ 15 ∷ [])

-- The field suits the numbers, so that there are lawful lists; from every shelf the replies are the known ones, and so are the segments when all are sent.
pub record Sessions : Type 0 where
  pub suits : Suits nibble numbers
  pub some : Encoder nibble numbers
  pub first : (code : Encoder nibble numbers) (shelf : Model) → replies nibble numbers code (made shelf) session ≡ session_replies
  pub repair : (code : Encoder nibble numbers) (shelf : Model)
      → replies nibble numbers code (made shelf) (before_repair ++ segments_sent ++ settled) ≡ each_done (before_repair ++ segments_sent) ++ settled_replies
  pub segments : (code : Encoder nibble numbers) (shelf : Model)
      → Sent (segment_row nibble numbers code (closing nibble numbers code (made shelf) (before_repair ++ segments_sent)))

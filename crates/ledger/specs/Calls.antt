-- The calls as the ledger is fed them, and the replies.
use Rattle.std.specs.Prelude.{ℕ, List}
use Rattle.refusal.specs.declared.denial.Denial.{Denial}

-- What is lent with a call: the shape of its shelf, and the lengths of its buffers. A call looks at those that it takes.
pub record Lent : Type 0 where
  -- the shelf's boxes, rows a box, symbols a row, bits a symbol
  pub boxes : ℕ
  pub rows : ℕ
  pub width : ℕ
  pub bits : ℕ
  -- the buffer for the answer
  pub answer : ℕ
  pub tray : ℕ
  pub work : ℕ
  pub scratch : ℕ

-- Boxes are named by their numbers, from 1.
pub data Call : Type 0 where
  -- these data go onto all boxes
  load : Lent → (original : List ℕ) → Call
  -- the data, from these boxes
  read : Lent → (boxes : List ℕ) → Call
  -- the rows of a box
  show : Lent → (box : ℕ) → Call
  -- the box is lost
  lose : Lent → (box : ℕ) → Call
  -- an empty box takes the lost one's place
  refit : Lent → (box : ℕ) → Call
  -- a repair begins: the newcomers are to be refilled with the helpers' segments
  «open» : Lent → (newcomers helpers : List ℕ) → Call
  -- a helper sends its segment to a newcomer
  help : Lent → (sender receiver : ℕ) → Call
  -- a newcomer sends to another newcomer
  pass : Lent → (sender receiver : ℕ) → Call
  -- a newcomer has all its segments, and is refilled
  settle : Lent → (box : ℕ) → Call
  -- the repair ends
  drop : Call

pub data Reply : Type 0 where
  denied : Denial → Reply
  done : Reply
  -- the data, or a box's rows, symbol after symbol
  told : List ℕ → Reply
  -- a settle's counts: segments from helpers, segments from newcomers
  counted : (helps passes : ℕ) → Reply

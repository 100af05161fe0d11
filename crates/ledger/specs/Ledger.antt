-- What the ledger keeps.
use Rattle.std.specs.Prelude.{ℕ, ◌+◌, ◌-◌, Bool, true, false, cond, ◌&&◌, ◌||◌, List, [], ◌∷◌, Some, None, Option, ◌==◌, nat_eq}
use Rattle.shelf.specs.Model.{Model, Box, dead as dead_box, standing, box_at}

-- Lost; present without a block; holding its block; a newcomer that waits for segments.
pub data State : Type 0 where
  dead : State
  blank : State
  whole : State
  filling : State

-- A segment that came, by the boxes it came from and went to.
pub record Segment : Type 0 where
  pub sender : ℕ
  pub receiver : ℕ

-- An open repair: its newcomers and helpers in the order given, and the segments that came since it was opened, the latest first.
pub record Repair : Type 0 where
  pub newcomers : List ℕ
  pub helpers : List ℕ
  pub came : List Segment

-- States and rows go by the box's number; only those of the boxes 1 to n count.
pub record Ledger : Type 0 where
  pub state : ℕ → State
  pub rows : ℕ → List (List ℕ)
  -- the data of the last load that was accepted
  pub original : Option (List ℕ)
  pub repair : Option Repair

-- the rows of a shelf's box
abbrev pub rows_of : Box → List (List ℕ)
rows_of dead_box = []
rows_of (standing rs) = rs

-- After a making on this shelf: all boxes are blank with the shelf's rows, there are no data and no repair.
abbrev pub made : Model → Ledger
made m = record { state = λ b. blank; rows = λ b. rows_of (box_at m (b - 1)); original = None; repair = None }

-- f with y at b
abbrev pub at : {A : Type 0} → ℕ → A → (ℕ → A) → ℕ → A
at b y f i = cond (i == b) y (f i)

-- b is one of the boxes
abbrev pub named : ℕ → List ℕ → Bool
named b [] = false
named b (x ∷ xs) = b == x || named b xs

abbrev pub is_dead : State → Bool
is_dead dead = true
is_dead blank = false
is_dead whole = false
is_dead filling = false

abbrev pub is_blank : State → Bool
is_blank dead = false
is_blank blank = true
is_blank whole = false
is_blank filling = false

abbrev pub is_whole : State → Bool
is_whole dead = false
is_whole blank = false
is_whole whole = true
is_whole filling = false

abbrev pub is_filling : State → Bool
is_filling dead = false
is_filling blank = false
is_filling whole = false
is_filling filling = true

-- Without a repair nobody has a part, and nothing came.
abbrev pub newcomers_of : Option Repair → List ℕ
newcomers_of None = []
newcomers_of (Some R) = R.newcomers

abbrev pub helpers_of : Option Repair → List ℕ
helpers_of None = []
helpers_of (Some R) = R.helpers

abbrev pub came_of : Option Repair → List Segment
came_of None = []
came_of (Some R) = R.came

-- how many of the list pass the test
abbrev pub count : {A : Type 0} → (A → Bool) → List A → ℕ
count p [] = 0
count p (x ∷ xs) = cond (p x) 1 0 + count p xs

-- the segment is one from i to j
abbrev pub is_from_to : (i j : ℕ) → Segment → Bool
is_from_to i j s = s.sender == i && s.receiver == j

-- how often a segment came from i to j
abbrev pub times_came : List Segment → (i j : ℕ) → ℕ
times_came came i j = count (is_from_to i j) came

-- how many segments came to j
abbrev pub all_to : List Segment → (j : ℕ) → ℕ
all_to came j = count (λ s. nat_eq s.receiver j) came

-- how many of them came from these boxes
abbrev pub from_to : List ℕ → List Segment → (j : ℕ) → ℕ
from_to boxes came j = count (λ s. (s.receiver == j) && named s.sender boxes) came

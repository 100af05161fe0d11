-- Lists of calls: what is replied, and the ledger at the end.
use Rattle.std.specs.Prelude.{ℕ, List, [], ◌∷◌, Some, Option}
use Rattle.field.specs.Laws.{Ops}
use Rattle.beehive.specs.declared.numbers.Numbers.{Numbers}
use Rattle.ledger.specs.Blocks.{Encoder}
use Rattle.ledger.specs.Calls.{Call, load, read, show, lose, refit, «open», help, pass, settle, drop, Reply, denied, done, told, counted}
use Rattle.ledger.specs.Ledger.{Ledger, Segment}
use Rattle.ledger.specs.Judge.{judge, after}

module _ {E : Type 0} (F : Ops E) (N : Numbers) (code : Encoder F N) where
  -- the replies to the calls, one after the other
  abbrev pub replies : Ledger → List Call → List Reply
  replies L [] = []
  replies L (call ∷ calls) = judge F N L call ∷ replies (after F N code L call) calls

  -- the ledger after them
  abbrev pub closing : Ledger → List Call → Ledger
  closing L [] = L
  closing L (call ∷ calls) = closing (after F N code L call) calls

-- What was accepted can be told from the calls and the replies alone.
abbrev pub unless_denied : {A : Type 0} → Reply → A → A → A
unless_denied (denied e) x y = y
unless_denied done x y = x
unless_denied (told xs) x y = x
unless_denied (counted a b) x y = x

abbrev pub kept : Option (List ℕ) → Call → Reply → Option (List ℕ)
kept before (load lent xs) r = unless_denied r (Some xs) before
kept before (read lent bs) r = before
kept before (show lent b) r = before
kept before (lose lent b) r = before
kept before (refit lent b) r = before
kept before («open» lent ns hs) r = before
kept before (help lent i j) r = before
kept before (pass lent i j) r = before
kept before (settle lent j) r = before
kept before drop r = before

-- The data of the last load that was accepted; `before` where none was.
abbrev pub last_accepted : Option (List ℕ) → List Call → List Reply → Option (List ℕ)
last_accepted before [] rs = before
last_accepted before (call ∷ calls) [] = before
last_accepted before (call ∷ calls) (r ∷ rs) = last_accepted (kept before call r) calls rs

-- The segments of the helps and passes that were accepted since the last opening, the latest first; none after a drop.
abbrev pub sent : List Segment → Call → Reply → List Segment
sent before (load lent xs) r = before
sent before (read lent bs) r = before
sent before (show lent b) r = before
sent before (lose lent b) r = before
sent before (refit lent b) r = before
sent before («open» lent ns hs) r = unless_denied r [] before
sent before (help lent i j) r = unless_denied r (record { sender = i; receiver = j } ∷ before) before
sent before (pass lent i j) r = unless_denied r (record { sender = i; receiver = j } ∷ before) before
sent before (settle lent j) r = before
sent before drop r = unless_denied r [] before

abbrev pub sent_since : List Segment → List Call → List Reply → List Segment
sent_since before [] rs = before
sent_since before (call ∷ calls) [] = before
sent_since before (call ∷ calls) (r ∷ rs) = sent_since (sent before call r) calls rs

-- The ledger as it was when the last opening was accepted, just before it.
abbrev pub opening : Option Ledger → Ledger → Call → Reply → Option Ledger
opening before L (load lent xs) r = before
opening before L (read lent bs) r = before
opening before L (show lent b) r = before
opening before L (lose lent b) r = before
opening before L (refit lent b) r = before
opening before L («open» lent ns hs) r = unless_denied r (Some L) before
opening before L (help lent i j) r = before
opening before L (pass lent i j) r = before
opening before L (settle lent j) r = before
opening before L drop r = before

module _ {E : Type 0} (F : Ops E) (N : Numbers) (code : Encoder F N) where
  abbrev pub last_opening : Option Ledger → Ledger → List Call → Option Ledger
  last_opening before L [] = before
  last_opening before L (call ∷ calls) = last_opening (opening before L call (judge F N L call)) (after F N code L call) calls

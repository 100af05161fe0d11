-- What holds after every list of calls from every making, over every field that suits the stripe's numbers.
use Rattle.std.specs.Prelude.{◌≡◌, ℕ, ◌+◌, ◌-◌, ◌<◌, ◌≤◌, true, ◌⊎◌, List, [], ◌∷◌, ◌++◌, length, Some, None, Ok, Err, Option, ◌≢◌, slice_index}
use Rattle.refusal.specs.declared.denial.Denial.{Denial}
use Rattle.refusal.specs.declared.denial.Denial.TheVariants.{Length, Repeated, Missing}
use Rattle.field.specs.Laws.{Ops}
use Rattle.beehive.specs.declared.numbers.Numbers.{Numbers}
use Rattle.beehive.specs.Numbers.{boxes, beta, Box}
use Rattle.beehive.specs.Points.{Suits}
use Rattle.beehive.specs.Theorems.{Different, Boxes}
use Rattle.shelf.specs.Model.{Model}
use Rattle.ledger.specs.Lengths.{least_work, least_scratch, data_symbols}
use Rattle.ledger.specs.Blocks.{Encoder, block_rows, segment_codes, IsBlock, IsSegment}
use Rattle.ledger.specs.Calls.{Lent, Call, load, read, settle, Reply, denied, done, told, counted}
use Rattle.ledger.specs.Ledger.{Ledger, dead, whole, filling, Repair, Segment, made, named, newcomers_of, helpers_of, times_came, all_to}
use Rattle.ledger.specs.Checks.{Check, each, unrepeated}
use Rattle.ledger.specs.Judge.{settle_earlier, judge, after, segment_row}
use Rattle.ledger.specs.Runs.{replies, closing, last_accepted, sent_since, last_opening}

abbrev pub Iff : Type 0 → Type 0 → Type 0
Iff A B = (A → B) × (B → A)

-- Where a check of each box of a list fails, the first box that offends decides: those before it pass.
abbrev pub FirstOffender : Type 0
FirstOffender = (f : ℕ → Check) (bs : List ℕ) (e : Denial) → each f bs ≡ Err e
    → (before : List ℕ) × (b : ℕ) × (later : List ℕ) × (bs ≡ before ++ b ∷ later) × (each f before ≡ Ok tt) × (f b ≡ Err e)

-- Where a box is named twice, the first repeat is named: those before it differ from each other, and it is one of them.
abbrev pub FirstRepeat : Type 0
FirstRepeat = (bs : List ℕ) (e : Denial) → unrepeated [] bs ≡ Err e
    → (before : List ℕ) × (b : ℕ) × (later : List ℕ) × (bs ≡ before ++ b ∷ later) × Different (length before) (λ i. slice_index before i) × (named b before ≡ true) × (e ≡ Repeated b)

abbrev pub TheFirstIsNamed : Type 0
TheFirstIsNamed = FirstOffender × FirstRepeat

module _ {E : Type 0} (F : Ops E) where
  -- The two have the same blocks in all boxes, and the same segments from them.
  abbrev pub SameCodes : (N : Numbers) → (a b : ℕ → ℕ → ℕ → E) → Type 0
  SameCodes N a b =
      ((i : ℕ) → Box N i → block_rows F N a i ≡ block_rows F N b i)
      × ((i j : ℕ) → Box N i → segment_codes F N a i j ≡ segment_codes F N b i j)

  -- There is a choice of lawful lists, and any two have the same blocks and segments.
  abbrev pub OneEncoder : Type 0
  OneEncoder = (N : Numbers) → Suits F N → Encoder F N × ((a b : Encoder F N) (xs : List ℕ) → SameCodes N (a.blocks xs) (b.blocks xs))

  -- The two have the same states, data and repair, and the same rows in all boxes.
  pub record Alike (N : Numbers) (L M : Ledger) : Type 0 where
    pub state : L.state ≡ M.state
    pub original : L.original ≡ M.original
    pub repair : L.repair ≡ M.repair
    pub rows : (b : ℕ) → Box N b → L.rows b ≡ M.rows b

  -- Whichever choice of lawful lists the ledger goes by, the replies are the same, and it ends alike.
  abbrev pub AnyEncoderAlike : Type 0
  AnyEncoderAlike = (N : Numbers) → Suits F N → (a b : Encoder F N) (shelf : Model) (calls : List Call)
      → (replies F N a (made shelf) calls ≡ replies F N b (made shelf) calls)
      × Alike N (closing F N a (made shelf) calls) (closing F N b (made shelf) calls)

  -- A law of every run: of the ledger at its end, and of the calls with their replies.
  abbrev pub OfEveryRun : ((N : Numbers) → Encoder F N → Model → List Call → Ledger → List Reply → Type 0) → Type 0
  OfEveryRun Law = (N : Numbers) → Suits F N → (code : Encoder F N) (shelf : Model) (calls : List Call)
      → Law N code shelf calls (closing F N code (made shelf) calls) (replies F N code (made shelf) calls)

  -- Every whole box's rows are exactly the block that the code rule gives it for the last data accepted; where no load was
  -- accepted, no box is whole.
  abbrev pub WholeBoxesHoldTheCode : Type 0
  WholeBoxesHoldTheCode = OfEveryRun λ N code shelf calls L answers.
      ((b : ℕ) → Box N b → L.state b ≡ whole → (xs : List ℕ) × (last_accepted None calls answers ≡ Some xs) × IsBlock F N xs b (L.rows b))
      × (last_accepted None calls answers ≡ None → (b : ℕ) → Box N b → L.state b ≢ whole)

  -- A read names k distinct boxes of the stripe, all whole, and is given the stripe's shelf; of its buffers nothing is said.
  pub record NamesWholeBoxes (N : Numbers) (L : Ledger) (lent : Lent) (bs : List ℕ) : Type 0 where
    pub shelf : (lent.boxes ≡ boxes N) × (lent.rows ≡ beta N) × (lent.width ≡ N.w) × (lent.bits ≡ F.bits)
    pub count : length bs ≡ N.k
    pub distinct : Boxes N N.k (λ i. slice_index bs i)
    pub all_whole : (i : ℕ) → i < N.k → L.state (slice_index bs i) ≡ whole

  -- Its buffers have the right lengths too.
  pub record Readable (N : Numbers) (L : Ledger) (lent : Lent) (bs : List ℕ) : Type 0 where
    pub names : NamesWholeBoxes N L lent bs
    pub answer : lent.answer ≡ data_symbols N
    pub work : least_work ≤ lent.work
    pub scratch : least_scratch ≤ lent.scratch

  -- A read that names k distinct whole boxes in any order, with buffers of the right lengths, answers exactly the last data
  -- accepted; no other read answers data.
  abbrev pub ReadsAnswerTheData : Type 0
  ReadsAnswerTheData = OfEveryRun λ N code shelf calls L answers. (lent : Lent) (bs : List ℕ)
      → (Readable N L lent bs → (xs : List ℕ) × (last_accepted None calls answers ≡ Some xs) × (judge F N L (read lent bs) ≡ told xs))
      × ((ys : List ℕ) → judge F N L (read lent bs) ≡ told ys → Readable N L lent bs × (last_accepted None calls answers ≡ Some ys))

  -- Reading any k whole boxes answers exactly the last data accepted, or the refusal of a buffer's length.
  abbrev pub WholeBoxesAreRead : Type 0
  WholeBoxesAreRead = OfEveryRun λ N code shelf calls L answers. (lent : Lent) (bs : List ℕ) → NamesWholeBoxes N L lent bs
      → ((xs : List ℕ) × (last_accepted None calls answers ≡ Some xs) × (judge F N L (read lent bs) ≡ told xs)) ⊎ (judge F N L (read lent bs) ≡ denied Length)

  -- Besides load, only settle makes a box whole.
  abbrev pub OnlyLoadAndSettleMakeWhole : Type 0
  OnlyLoadAndSettleMakeWhole = OfEveryRun λ N code shelf calls L answers. (call : Call) (b : ℕ)
      → (after F N code L call).state b ≡ whole → (L.state b ≢ whole)
      → ((lent : Lent) × (xs : List ℕ) × (call ≡ load lent xs) × (judge F N L call ≡ done))
      ⊎ ((lent : Lent) × (call ≡ settle lent b) × (judge F N L call ≡ counted N.d (N.t - 1)))

  -- One segment came to j from each helper, and one from each other newcomer.
  abbrev pub OneFromEach : Ledger → List Segment → ℕ → Type 0
  OneFromEach L came j =
      ((i : ℕ) → named i (helpers_of L.repair) ≡ true → times_came came i j ≡ 1)
      × ((e : ℕ) → named e (newcomers_of L.repair) ≡ true → (e ≢ j) → times_came came e j ≡ 1)

  -- Where none of its earlier refusals applies, a settle is accepted exactly when d + t − 1 segments came to that box since the
  -- opening; and so many came exactly when one came from each helper and one from each other newcomer. Its counts are d and t − 1.
  -- Else segments are missing.
  abbrev pub SettlesWhenAllCame : Type 0
  SettlesWhenAllCame = OfEveryRun λ N code shelf calls L answers. (lent : Lent) (j : ℕ) → settle_earlier F N L lent j ≡ Ok tt
      → Iff (judge F N L (settle lent j) ≡ counted N.d (N.t - 1)) (all_to (sent_since [] calls answers) j ≡ N.d + N.t - 1)
      × Iff (all_to (sent_since [] calls answers) j ≡ N.d + N.t - 1) (OneFromEach L (sent_since [] calls answers) j)
      × ((all_to (sent_since [] calls answers) j ≢ N.d + N.t - 1) → judge F N L (settle lent j) ≡ denied (Missing j))

  -- A help from i to j came: i is a helper, which was whole when the repair was opened, and the row is the segment from i about j.
  pub record HelpCame (N : Numbers) (code : Encoder F N) (L : Ledger) (opening : Option Ledger) (xs : List ℕ) (i j : ℕ) : Type 0 where
    pub helper : named i (helpers_of L.repair) ≡ true
    pub was_whole : (L₀ : Ledger) × (opening ≡ Some L₀) × (L₀.state i ≡ whole)
    pub segment : IsSegment F N xs i j (segment_row F N code L i j)

  -- A pass from i to j came: i is another newcomer, and the row is the segment from j about i.
  pub record PassCame (N : Numbers) (code : Encoder F N) (L : Ledger) (xs : List ℕ) (i j : ℕ) : Type 0 where
    pub newcomer : named i (newcomers_of L.repair) ≡ true
    pub another : i ≡ j → ⊥
    pub segment : IsSegment F N xs j i (segment_row F N code L i j)

  -- Each segment that came is the segment rule's for the last data accepted, and its helper was whole when the repair was opened.
  abbrev pub SegmentsAreTheRules : Type 0
  SegmentsAreTheRules = OfEveryRun λ N code shelf calls L answers. (i j : ℕ)
      → 0 < times_came (sent_since [] calls answers) i j
      → (named j (newcomers_of L.repair) ≡ true)
      × ((xs : List ℕ) × (last_accepted None calls answers ≡ Some xs)
      × (HelpCame N code L (last_opening F N code None (made shelf) calls) xs i j ⊎ PassCame N code L xs i j))

  -- A repair's boxes keep their parts until it is dropped: each helper is whole or dead, each newcomer filling, whole (settled) or
  -- dead; and only newcomers of the open repair are filling.
  abbrev pub PartsAreKept : Type 0
  PartsAreKept = OfEveryRun λ N code shelf calls L answers.
      ((b : ℕ) → named b (helpers_of L.repair) ≡ true → (L.state b ≡ whole) ⊎ (L.state b ≡ dead))
      × ((b : ℕ) → named b (newcomers_of L.repair) ≡ true → (L.state b ≡ filling) ⊎ ((L.state b ≡ whole) ⊎ (L.state b ≡ dead)))
      × ((b : ℕ) → L.state b ≡ filling → named b (newcomers_of L.repair) ≡ true)

  -- Nothing but load changes the data, which are the last accepted; no load is accepted while a repair is open; a denied call leaves
  -- the ledger as it was.
  abbrev pub DataStay : Type 0
  DataStay = OfEveryRun λ N code shelf calls L answers.
      (L.original ≡ last_accepted None calls answers)
      × ((call : Call) → ((lent : Lent) (xs : List ℕ) → call ≢ load lent xs) → (after F N code L call).original ≡ L.original)
      × ((R : Repair) (lent : Lent) (xs : List ℕ) → L.repair ≡ Some R → (e : Denial) × (judge F N L (load lent xs) ≡ denied e))
      × ((call : Call) (e : Denial) → judge F N L call ≡ denied e → after F N code L call ≡ L)

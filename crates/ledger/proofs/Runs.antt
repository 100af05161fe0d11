-- The laws of every run.
use Rattle.std.proofs.Common.{◌≡◌, ℕ, ◌+◌, ◌-◌, ◌<◌, true, false, cond, ◌&&◌, eqb, ◌⊎◌, List, [], ◌∷◌, get_or, Some, None, Ok, Err, Option, sym, refl, ap, ◌∙◌, subst, inl, inr, arith}
use Rattle.std.proofs.lemmas.Bool.{eqb-true, cases_Bool, cond-true, cond-false, and_parts}
use Rattle.refusal.specs.declared.denial.Denial.{Denial}
use Rattle.refusal.specs.declared.denial.Denial.TheVariants.{Length, Missing}
use Rattle.refusal.specs.Checks.{if_ok}
use Rattle.field.specs.Laws.{Ops, Laws}
use Rattle.beehive.specs.declared.numbers.Numbers.{Numbers}
use Rattle.beehive.specs.Numbers.{Box}
use Rattle.beehive.specs.Points.{Suits}
use Rattle.shelf.specs.Model.{Model}
use Rattle.ledger.specs.Blocks.{Encoder, IsBlock, IsSegment}
use Rattle.ledger.specs.Calls.{Lent, Call, load, read, show, lose, refit, «open», help, pass, settle, drop, denied, done, told, counted}
use Rattle.ledger.specs.Ledger.{Ledger, whole, Repair, Segment, made, at, named, is_filling, newcomers_of, helpers_of, came_of, is_from_to, times_came, all_to}
use Rattle.ledger.specs.Checks.{Check, ◌then◌, helped, passed}
use Rattle.ledger.specs.Judge.{checks, settle_earlier, answer, reply_by, judge, changed, after, data_or_none, segment_row, help_segment, pass_segment}
use Rattle.ledger.specs.Runs.{replies, closing, last_accepted, last_opening}
use Rattle.ledger.specs.Laws.{Iff, OneFromEach, Readable, WholeBoxesHoldTheCode, ReadsAnswerTheData, WholeBoxesAreRead, OnlyLoadAndSettleMakeWhole, SettlesWhenAllCame, SegmentsAreTheRules, HelpCame, PassCame, DataStay}
use Rattle.ledger.proofs.Passing.{parts}
use Rattle.ledger.proofs.Lists.{apart, named_left, named_right}
use Rattle.ledger.proofs.Encoders.{a_block, a_segment}
use Rattle.ledger.proofs.Sound.{some≢none, blank≢whole, dead≢whole, filling≢whole, at_other, load_passed, Parts, AllParts, Going, Sound, sound_made, sound_closing}
use Rattle.ledger.proofs.History.{data_kept, closing_data, closing_came, closing_opened}
use Rattle.ledger.proofs.Settling.{settles, settle_counts}
use Rattle.ledger.proofs.Reading.{readable, read_accepted, whole_read}

never_denied : {E : Type 0} (F : Ops E) (N : Numbers) (L : Ledger) (call : Call) (e : Denial) → answer F N L call ≡ denied e → ⊥
never_denied F N L (load lent xs) e h = let z : ◌≡◌ {A = ℕ} 0 1 = cc in omega arith
never_denied F N L (read lent bs) e h = let z : ◌≡◌ {A = ℕ} 0 1 = cc in omega arith
never_denied F N L (show lent b) e h = let z : ◌≡◌ {A = ℕ} 0 1 = cc in omega arith
never_denied F N L (lose lent b) e h = let z : ◌≡◌ {A = ℕ} 0 1 = cc in omega arith
never_denied F N L (refit lent b) e h = let z : ◌≡◌ {A = ℕ} 0 1 = cc in omega arith
never_denied F N L («open» lent ns hs) e h = let z : ◌≡◌ {A = ℕ} 0 1 = cc in omega arith
never_denied F N L (help lent i j) e h = let z : ◌≡◌ {A = ℕ} 0 1 = cc in omega arith
never_denied F N L (pass lent i j) e h = let z : ◌≡◌ {A = ℕ} 0 1 = cc in omega arith
never_denied F N L (settle lent j) e h = let z : ◌≡◌ {A = ℕ} 0 1 = cc in omega arith
never_denied F N L drop e h = let z : ◌≡◌ {A = ℕ} 0 1 = cc in omega arith

denied≢told : (e : Denial) (xs : List ℕ) → denied e ≡ told xs → ⊥
denied≢told e xs h = let z : ◌≡◌ {A = ℕ} 0 1 = cc in omega arith

told_is : {xs ys : List ℕ} → told xs ≡ told ys → xs ≡ ys
told_is h = cc

-- a segment that came has its parts
came_parts : (ns hs : List ℕ) (came : List Segment) (i j : ℕ) → AllParts ns hs came → 0 < times_came came i j → Parts ns hs (record { sender = i; receiver = j })
came_parts ns hs [] i j p l = absurd (omega arith)
came_parts ns hs (s ∷ came) i j p l = go (cases_Bool (is_from_to i j s)) (came_parts ns hs came i j p.1)
  where
    go : (is_from_to i j s ≡ true) ⊎ (is_from_to i j s ≡ false) → (0 < times_came came i j → Parts ns hs (record { sender = i; receiver = j })) → Parts ns hs (record { sender = i; receiver = j })
    go (inl e) rec =
        let q = and_parts (eqb s.sender i) (eqb s.receiver j) e in
        subst (λ a. Parts ns hs (record { sender = a; receiver = j })) (eqb-true s.sender i q.0)
        (subst (λ b. Parts ns hs (record { sender = s.sender; receiver = b })) (eqb-true s.receiver j q.1) p.0)
    go (inr e) rec = let c : ◌≡◌ {A = ℕ} (cond (is_from_to i j s) 1 0) 0 = cond-false (is_from_to i j s) 1 0 e in rec (omega arith)

module _ {E : Type 0} (F : Ops E) (N : Numbers) (code : Encoder F N) (L : Ledger) where
  pub denied_same : (call : Call) (e : Denial) → judge F N L call ≡ denied e → after F N code L call ≡ L
  denied_same call e h = go (checks F N L call) h
    where
      go : (r : Check) → reply_by F N r (answer F N L call) ≡ denied e → if_ok r (changed F N code L call) L ≡ L
      go (Ok _) k = absurd (never_denied F N L call e k)
      go (Err d) k = refl

  pub no_load : (R : Repair) (lent : Lent) (xs : List ℕ) → L.repair ≡ Some R → (e : Denial) × (judge F N L (load lent xs) ≡ denied e)
  no_load R lent xs o = go (checks F N L (load lent xs)) refl
    where
      go : (r : Check) → checks F N L (load lent xs) ≡ r → (e : Denial) × (reply_by F N r done ≡ denied e)
      go (Ok _) k = absurd (some≢none (sym o ∙ load_passed F N L lent xs k))
      go (Err d) k = (d, refl)

  -- a state that an accepted call changed
  made_whole : (call : Call) (b : ℕ) (r : Check) → checks F N L call ≡ r → (if_ok r (changed F N code L call) L).state b ≡ whole → (L.state b ≡ whole → ⊥)
      → (checks F N L call ≡ Ok tt) × ((changed F N code L call).state b ≡ whole)
  made_whole call b (Ok _) k w n = (k, w)
  made_whole call b (Err e) k w n = absurd (n w)

  module _ (sound : Sound F N code L) where
    pub only_two : (call : Call) (b : ℕ) → (after F N code L call).state b ≡ whole → (L.state b ≡ whole → ⊥)
        → ((lent : Lent) × (xs : List ℕ) × (call ≡ load lent xs) × (judge F N L call ≡ done))
        ⊎ ((lent : Lent) × (call ≡ settle lent b) × (judge F N L call ≡ counted N.d (N.t - 1)))
    only_two (load lent xs) b w n =
        let m = made_whole (load lent xs) b (checks F N L (load lent xs)) refl w n in
        inl (lent, xs, refl, ap (λ r. reply_by F N r done) m.0)
    only_two (read lent bs) b w n = let m = made_whole (read lent bs) b (checks F N L (read lent bs)) refl w n in absurd (n m.1)
    only_two (show lent c) b w n = let m = made_whole (show lent c) b (checks F N L (show lent c)) refl w n in absurd (n m.1)
    only_two (lose lent c) b w n =
        let m = made_whole (lose lent c) b (checks F N L (lose lent c)) refl w n in absurd (n (at_other (eqb b c) (L.state b) dead≢whole m.1).1)
    only_two (refit lent c) b w n =
        let m = made_whole (refit lent c) b (checks F N L (refit lent c)) refl w n in absurd (n (at_other (eqb b c) (L.state b) blank≢whole m.1).1)
    only_two («open» lent ns hs) b w n =
        let m = made_whole («open» lent ns hs) b (checks F N L («open» lent ns hs)) refl w n in absurd (n (at_other (named b ns) (L.state b) filling≢whole m.1).1)
    only_two (help lent i j) b w n = let m = made_whole (help lent i j) b (checks F N L (help lent i j)) refl w n in absurd (n m.1)
    only_two (pass lent i j) b w n = let m = made_whole (pass lent i j) b (checks F N L (pass lent i j)) refl w n in absurd (n m.1)
    only_two (settle lent j) b w n =
        let m = made_whole (settle lent j) b (checks F N L (settle lent j)) refl w n in
        let p = parts (settle_earlier F N L lent j) (helped L j then passed L j) m.0 in
        inr (lent, ap (settle lent) (same (cases_Bool (eqb b j)) m.1), settle_counts F N code L sound lent j p.0 p.1)
      where
        same : (eqb b j ≡ true) ⊎ (eqb b j ≡ false) → at j whole L.state b ≡ whole → j ≡ b
        same (inl e) k = sym (eqb-true b j e)
        same (inr e) k = absurd (n (sym (cond-false (eqb b j) whole (L.state b) e) ∙ k))
    only_two drop b w n =
        let m = made_whole drop b (checks F N L drop) refl w n in
        absurd (n (at_other (named b (newcomers_of L.repair) && is_filling (L.state b)) (L.state b) blank≢whole m.1).1)

    -- a readable list of boxes shows that there are data
    pub some_data : (lent : Lent) (bs : List ℕ) → Readable F N L lent bs → (xs : List ℕ) × (L.original ≡ Some xs)
    some_data lent bs r =
        let b = sound.block (get_or bs 0 0) (r.names.distinct.0 0 (omega arith)) (r.names.all_whole 0 (omega arith)) in (b.0, b.1)

    pub reads : (lent : Lent) (bs : List ℕ)
        → (Readable F N L lent bs → (xs : List ℕ) × (L.original ≡ Some xs) × (judge F N L (read lent bs) ≡ told xs))
        × ((ys : List ℕ) → judge F N L (read lent bs) ≡ told ys → Readable F N L lent bs × (L.original ≡ Some ys))
    reads lent bs = (answers, λ ys h. go ys (checks F N L (read lent bs)) refl h)
      where
        answers : Readable F N L lent bs → (xs : List ℕ) × (L.original ≡ Some xs) × (judge F N L (read lent bs) ≡ told xs)
        answers r =
            let x = some_data lent bs r in
            (x.0, x.1, ap (λ c. reply_by F N c (told (data_or_none L.original))) (read_accepted F N L lent bs r) ∙ ap (λ o. told (data_or_none o)) x.1)

        go : (ys : List ℕ) (c : Check) → checks F N L (read lent bs) ≡ c → reply_by F N c (told (data_or_none L.original)) ≡ told ys → Readable F N L lent bs × (L.original ≡ Some ys)
        go ys (Ok _) k h =
            let r = readable F N L lent bs k in
            let x = some_data lent bs r in
            (r, x.1 ∙ ap Some (sym (ap data_or_none x.1) ∙ told_is h))
        go ys (Err e) k h = absurd (denied≢told e ys h)

module _ {E : Type 0} {F : Ops E} (laws : Laws F) where
  sound_run : (N : Numbers) (code : Encoder F N) (shelf : Model) (calls : List Call) → Sound F N code (closing F N code (made shelf) calls)
  sound_run N code shelf calls = sound_closing F N code (made shelf) (sound_made F N code shelf) calls

  pub whole_boxes : WholeBoxesHoldTheCode F
  whole_boxes N suits code shelf calls = (blocks, λ none b box w. some≢none (sym (blocks b box w).1 ∙ none))
    where
      blocks : (b : ℕ) → Box N b → (closing F N code (made shelf) calls).state b ≡ whole
          → (xs : List ℕ) × (last_accepted None calls (replies F N code (made shelf) calls) ≡ Some xs) × IsBlock F N xs b ((closing F N code (made shelf) calls).rows b)
      blocks b box w =
          let r = (sound_run N code shelf calls).block b box w in
          (r.0, sym (closing_data F N code (made shelf) calls) ∙ r.1, subst (IsBlock F N r.0 b) (sym r.2) (a_block laws N suits r.0 code b box))

  pub reads_answer : ReadsAnswerTheData F
  reads_answer N suits code shelf calls lent bs =
      let r = reads F N code (closing F N code (made shelf) calls) (sound_run N code shelf calls) lent bs in
      let e = closing_data F N code (made shelf) calls in
      (λ h. let x = r.0 h in (x.0, sym e ∙ x.1, x.2), λ ys h. let x = r.1 ys h in (x.0, sym e ∙ x.1))

  pub whole_are_read : WholeBoxesAreRead F
  whole_are_read N suits code shelf calls lent bs w = go (whole_read F N (closing F N code (made shelf) calls) lent bs w)
    where
      go : Readable F N (closing F N code (made shelf) calls) lent bs ⊎ (checks F N (closing F N code (made shelf) calls) (read lent bs) ≡ Err Length)
          → ((xs : List ℕ) × (last_accepted None calls (replies F N code (made shelf) calls) ≡ Some xs) × (judge F N (closing F N code (made shelf) calls) (read lent bs) ≡ told xs)) ⊎ (judge F N (closing F N code (made shelf) calls) (read lent bs) ≡ denied Length)
      go (inl r) = inl ((reads_answer N suits code shelf calls lent bs).0 r)
      go (inr e) = inr (ap (λ c. reply_by F N c (answer F N (closing F N code (made shelf) calls) (read lent bs))) e)

  pub only_load_and_settle : OnlyLoadAndSettleMakeWhole F
  only_load_and_settle N suits code shelf calls = only_two F N code (closing F N code (made shelf) calls) (sound_run N code shelf calls)

  pub settles_when : SettlesWhenAllCame F
  settles_when N suits code shelf calls lent j h =
      let L = closing F N code (made shelf) calls in
      subst (λ came. Iff (judge F N L (settle lent j) ≡ counted N.d (N.t - 1)) (all_to came j ≡ N.d + N.t - 1)
      × Iff (all_to came j ≡ N.d + N.t - 1) (OneFromEach F L came j)
      × ((all_to came j ≡ N.d + N.t - 1 → ⊥) → judge F N L (settle lent j) ≡ denied (Missing j))) (closing_came F N code (made shelf) calls)
      (settles F N code L (sound_run N code shelf calls) lent j h)

  pub data_stay : DataStay F
  data_stay N suits code shelf calls =
      let L = closing F N code (made shelf) calls in
      (closing_data F N code (made shelf) calls, data_kept F N code L, no_load F N code L, denied_same F N code L)

  module _ (N : Numbers) (suits : Suits F N) (code : Encoder F N) (shelf : Model) (calls : List Call) (i j : ℕ) where
    abbrev L : Ledger
    L = closing F N code (made shelf) calls

    abbrev Sent : List ℕ → Type 0
    Sent xs = HelpCame F N code L (last_opening F N code None (made shelf) calls) xs i j ⊎ PassCame F N code L xs i j

    opened : (R : Repair) → L.repair ≡ Some R → named i R.helpers ≡ true → (L₀ : Ledger) × (last_opening F N code None (made shelf) calls ≡ Some L₀) × (L₀.state i ≡ whole)
    opened R is n = let w = closing_opened F N code None (made shelf) calls (λ Q e. absurd (some≢none (sym e))) R is in (w.0, w.1, w.2 i n)

    -- the row, by its sender's part
    row : (xs : List ℕ) (R : Repair) → L.repair ≡ Some R → L.original ≡ Some xs → segment_row F N code L i j ≡ cond (named i R.helpers) (help_segment F N code xs i j) (pass_segment F N code xs i j)
    row xs R is there =
        ap (λ o. cond (named i (helpers_of o)) (help_segment F N code (data_or_none L.original) i j) (pass_segment F N code (data_or_none L.original) i j)) is
        ∙ ap (λ o. cond (named i R.helpers) (help_segment F N code (data_or_none o) i j) (pass_segment F N code (data_or_none o) i j)) there

    not_helper : (R : Repair) → Going N L.original R → named i R.newcomers ≡ true → (named i R.helpers ≡ true) ⊎ (named i R.helpers ≡ false) → named i R.helpers ≡ false
    not_helper R g n (inl e) = absurd (apart R.newcomers R.helpers g.distinct i n e)
    not_helper R g n (inr e) = e

    which : (xs : List ℕ) (R : Repair) → L.repair ≡ Some R → L.original ≡ Some xs → Going N L.original R → Parts R.newcomers R.helpers (record { sender = i; receiver = j })
        → (named i R.helpers ≡ true) ⊎ (named i R.newcomers ≡ true) → Sent xs
    which xs R is there g p (inl n) =
        inl (record {
          helper = ap (λ o. named i (helpers_of o)) is ∙ n;
          was_whole = opened R is n;
          segment = subst (IsSegment F N xs i j) (sym (row xs R is there ∙ cond-true (named i R.helpers) (help_segment F N code xs i j) (pass_segment F N code xs i j) n))
              (a_segment laws N suits xs code i j (g.boxes i (named_right i R.newcomers R.helpers n)));
        })
    which xs R is there g p (inr n) =
        inr (record {
          newcomer = ap (λ o. named i (newcomers_of o)) is ∙ n;
          another = p.2;
          segment = subst (IsSegment F N xs j i) (sym (row xs R is there ∙ cond-false (named i R.helpers) (help_segment F N code xs i j) (pass_segment F N code xs i j) (not_helper R g n (cases_Bool (named i R.helpers)))))
              (a_segment laws N suits xs code j i (g.boxes j (named_left j R.newcomers R.helpers p.0)));
        })

    seen : (o : Option Repair) → L.repair ≡ o → 0 < times_came (came_of o) i j → (named j (newcomers_of o) ≡ true) × ((xs : List ℕ) × (last_accepted None calls (replies F N code (made shelf) calls) ≡ Some xs) × Sent xs)
    seen None is few = absurd (omega arith)
    seen (Some R) is few =
        let g = (sound_run N code shelf calls).going R is in
        let p = came_parts R.newcomers R.helpers R.came i j g.parts few in
        let x = g.there in
        (p.0, (x.0, sym (closing_data F N code (made shelf) calls) ∙ x.1, which x.0 R is x.1 g p p.1))

  pub segments_are : SegmentsAreTheRules F
  segments_are N suits code shelf calls i j l =
      seen N suits code shelf calls i j (L N suits code shelf calls i j).repair refl
      (subst (λ came. 0 < times_came came i j) (sym (closing_came F N code (made shelf) calls)) l)

-- What every ledger keeps that calls lead to.
use Rattle.std.proofs.Common.{◌≡◌, ℕ, ◌+◌, ◌≤◌, Bool, true, false, cond, not, ◌&&◌, ◌||◌, eqb, ltb, leb, ◌⊎◌, List, [], ◌∷◌, ◌++◌, length, get_or, replicate, Some, None, Ok, Option, sym, refl, ap, ◌∙◌, subst, inl, inr, arith}
use Rattle.std.proofs.lemmas.Bool.{true≢false, false≢true, or_parts, eqb-true, eqb-false, cases_Bool, cond-true, cond-false, and_parts, not-true, leb-true, ltb-true, ltb-false}
use Rattle.refusal.specs.declared.denial.Denial.TheVariants.{Range, State as StateDenial, Repair as RepairDenial, Part, Already, Length}
use Rattle.field.specs.Laws.{Ops}
use Rattle.beehive.specs.declared.numbers.Numbers.{Numbers}
use Rattle.beehive.specs.Numbers.{boxes, beta, Box}
use Rattle.shelf.specs.Limits.{within}
use Rattle.shelf.specs.Model.{Model}
use Rattle.ledger.specs.Lengths.{data_symbols, box_symbols}
use Rattle.ledger.specs.Blocks.{Encoder}
use Rattle.ledger.specs.Calls.{Lent, Call, load, read, show, lose, refit, «open», help, pass, settle, drop}
use Rattle.ledger.specs.Ledger.{Ledger, State, dead, blank, whole, filling, Repair, Segment, made, at, named, is_whole, is_filling, newcomers_of, helpers_of, came_of, times_came}
use Rattle.ledger.specs.Checks.{◌then◌, each, right_shelf, long, work_room, tray_room, in_range, unrepeated, coded, alive, all_boxes, whole_box, blank_box, dead_box, no_part, none_open, one_open, is_open, a_helper, a_newcomer, another, unsettled, lacking, helped, passed, arrived}
use Rattle.ledger.specs.Judge.{checks, settle_earlier, changed, after, lawful_rows, data_or_none, with_segment}
use Rattle.ledger.specs.Runs.{closing}
use Rattle.ledger.proofs.Passing.{parts, held, each_passed, either_way, all_passed}
use Rattle.ledger.proofs.Lists.{Distinct, apart, unrepeated_passed, named_right, at_place}

-- Small facts on states.
pub some≢none : {A : Type 0} {x : A} → Some x ≡ None → ⊥
some≢none h = let z : ◌≡◌ {A = ℕ} 0 1 = cc in omega arith

pub some_is : {A : Type 0} {x y : A} → Some x ≡ Some y → x ≡ y
some_is h = cc

pub none_is : (o : Option Repair) → is_open o ≡ false → o ≡ None
none_is None h = refl
none_is (Some R) h = absurd (true≢false h)

pub some_open : (o : Option Repair) → is_open o ≡ true → (R : Repair) × (o ≡ Some R)
some_open None h = absurd (false≢true h)
some_open (Some R) h = (R, refl)

pub whole_is : (s : State) → is_whole s ≡ true → s ≡ whole
whole_is dead h = absurd (false≢true h)
whole_is blank h = absurd (false≢true h)
whole_is whole h = refl
whole_is filling h = absurd (false≢true h)

pub blank≢whole : ◌≡◌ {A = State} blank whole → ⊥
blank≢whole h = let z : ◌≡◌ {A = ℕ} 0 1 = cc in omega arith

pub dead≢whole : ◌≡◌ {A = State} dead whole → ⊥
dead≢whole h = let z : ◌≡◌ {A = ℕ} 0 1 = cc in omega arith

pub filling≢whole : ◌≡◌ {A = State} filling whole → ⊥
filling≢whole h = let z : ◌≡◌ {A = ℕ} 0 1 = cc in omega arith

-- a state that is whole after one box was set to another state
pub at_other : {s : State} (t : Bool) (x : State) → (s ≡ whole → ⊥) → cond t s x ≡ whole → (t ≡ false) × (x ≡ whole)
at_other true x h e = absurd (h e)
at_other false x h e = (refl, e)

pub box_in : (N : Numbers) (b : ℕ) → in_range N b ≡ Ok tt → Box N b
box_in N b h =
    let p = and_parts (ltb 0 b) (leb b (boxes N)) (held (within b (boxes N)) (Range b) h) in
    (omega (arith, ltb-true 0 b p.0), leb-true b (boxes N) p.1)

-- Each segment came to a newcomer, from a helper or another newcomer.
abbrev pub Parts : List ℕ → List ℕ → Segment → Type 0
Parts ns hs s =
    (named s.receiver ns ≡ true) × ((named s.sender hs ≡ true) ⊎ (named s.sender ns ≡ true)) × (s.sender ≡ s.receiver → ⊥)

abbrev pub AllParts : List ℕ → List ℕ → List Segment → Type 0
AllParts ns hs [] = Unit {0}
AllParts ns hs (s ∷ ss) = Parts ns hs s × AllParts ns hs ss

pub record Going (N : Numbers) (original : Option (List ℕ)) (R : Repair) : Type 0 where
  pub newcomers : length R.newcomers ≡ N.t
  pub helpers : length R.helpers ≡ N.d
  pub distinct : Distinct (R.newcomers ++ R.helpers)
  pub boxes : (b : ℕ) → named b (R.newcomers ++ R.helpers) ≡ true → Box N b
  pub there : (xs : List ℕ) × (original ≡ Some xs)
  pub parts : AllParts R.newcomers R.helpers R.came
  pub once : (i j : ℕ) → times_came R.came i j ≤ 1

module _ {E : Type 0} (F : Ops E) (N : Numbers) (code : Encoder F N) where
  abbrev pub Held : Ledger → Type 0
  Held L = (b : ℕ) → Box N b → L.state b ≡ whole → (xs : List ℕ) × (L.original ≡ Some xs) × (L.rows b ≡ lawful_rows F N code xs b)

  pub record Sound (L : Ledger) : Type 0 where
    pub block : Held L
    pub going : (R : Repair) → L.repair ≡ Some R → Going N L.original R

  pub sound_made : (m : Model) → Sound (made m)
  sound_made m = record { block = λ b box h. absurd (blank≢whole h); going = λ R h. absurd (some≢none (sym h)) }

-- What the checks of each call give.
pub length_is : (a b : ℕ) → long a b ≡ Ok tt → a ≡ b
length_is a b h = eqb-true a b (held (eqb a b) Length h)

module _ {E : Type 0} (F : Ops E) (N : Numbers) (L : Ledger) (lent : Lent) where
  pub load_passed : (xs : List ℕ) → checks F N L (load lent xs) ≡ Ok tt → L.repair ≡ None
  load_passed xs h =
      let p = all_passed (right_shelf F.bits N lent ∷ (long (length xs) (data_symbols N) then work_room lent) ∷ none_open L ∷ coded F.bits xs ∷ each (alive L) (all_boxes N) ∷ []) h in
      none_is L.repair (not-true (is_open L.repair) (held (not (is_open L.repair)) (RepairDenial 0) p.1.1.0))

  pub record Opens (ns hs : List ℕ) : Type 0 where
    pub few : length ns ≡ N.t
    pub many : length hs ≡ N.d
    pub distinct : Distinct (ns ++ hs)
    pub boxes : (b : ℕ) → named b (ns ++ hs) ≡ true → Box N b
    pub wholes : (b : ℕ) → named b hs ≡ true → L.state b ≡ whole

  pub open_passed : (ns hs : List ℕ) → checks F N L («open» lent ns hs) ≡ Ok tt → Opens ns hs
  open_passed ns hs h =
      let p = all_passed (right_shelf F.bits N lent ∷ (long (length ns) N.t then long (length hs) N.d) ∷ none_open L ∷ each (in_range N) (ns ++ hs) ∷ unrepeated [] (ns ++ hs) ∷ each (alive L) (ns ++ hs) ∷ (each (blank_box L) ns then each (whole_box L) hs) ∷ []) h in
      let l = parts (long (length ns) N.t) (long (length hs) N.d) p.1.0 in
      let s = parts (each (blank_box L) ns) (each (whole_box L) hs) p.1.1.1.1.1.1.0 in
      record {
        few = length_is (length ns) N.t l.0;
        many = length_is (length hs) N.d l.1;
        distinct = (unrepeated_passed (ns ++ hs) [] p.1.1.1.1.0).0;
        boxes = λ b n. box_in N b (each_passed (in_range N) (ns ++ hs) p.1.1.1.0 b n);
        wholes = λ b n. whole_is (L.state b) (held (is_whole (L.state b)) (StateDenial b) (each_passed (whole_box L) hs s.1 b n));
      }

  -- what holds of a segment that may be sent from i to j
  pub record Sends (i j : ℕ) : Type 0 where
    pub repair : (R : Repair) × (L.repair ≡ Some R)
    pub receiver : named j (newcomers_of L.repair) ≡ true
    pub sender : (named i (helpers_of L.repair) ≡ true) ⊎ ((named i (newcomers_of L.repair) ≡ true) × (i ≡ j → ⊥))
    pub new : times_came (came_of L.repair) i j ≡ 0

  one_is : one_open L ≡ Ok tt → (R : Repair) × (L.repair ≡ Some R)
  one_is h = some_open L.repair (held (is_open L.repair) (RepairDenial 0) h)

  new_is : (i j : ℕ) → (unsettled L j then lacking L i j) ≡ Ok tt → times_came (came_of L.repair) i j ≡ 0
  new_is i j h =
      let n = ltb-false 0 (times_came (came_of L.repair) i j) (not-true (arrived L i j) (held (not (arrived L i j)) (Already j) (parts (unsettled L j) (lacking L i j) h).1)) in
      omega arith

  newcomer_is : (j : ℕ) → a_newcomer L j ≡ Ok tt → named j (newcomers_of L.repair) ≡ true
  newcomer_is j h = held (named j (newcomers_of L.repair)) (Part j) h

  pub help_passed : (i j : ℕ) → checks F N L (help lent i j) ≡ Ok tt → Sends i j
  help_passed i j h =
      let p = all_passed (right_shelf F.bits N lent ∷ tray_room N lent ∷ one_open L ∷ (in_range N i then in_range N j) ∷ (a_helper L i then a_newcomer L j) ∷ (alive L i then alive L j) ∷ (unsettled L j then lacking L i j) ∷ []) h in
      let s = parts (a_helper L i) (a_newcomer L j) p.1.1.1.1.0 in
      record { repair = one_is p.1.1.0; receiver = newcomer_is j s.1; sender = inl (held (named i (helpers_of L.repair)) (Part i) s.0); new = new_is i j p.1.1.1.1.1.1.0 }

  pub pass_passed : (i j : ℕ) → checks F N L (pass lent i j) ≡ Ok tt → Sends i j
  pass_passed i j h =
      let p = all_passed (right_shelf F.bits N lent ∷ tray_room N lent ∷ one_open L ∷ (in_range N i then in_range N j) ∷ (a_newcomer L i then a_newcomer L j then another i j) ∷ (alive L i then alive L j) ∷ (unsettled L j then lacking L i j) ∷ helped L i ∷ []) h in
      let s = all_passed (a_newcomer L i ∷ a_newcomer L j ∷ another i j ∷ []) p.1.1.1.1.0 in
      record {
        repair = one_is p.1.1.0;
        receiver = newcomer_is j s.1.0;
        sender = inr (newcomer_is i s.0, eqb-false i j (not-true (eqb i j) (held (not (eqb i j)) (Part j) s.1.1.0)));
        new = new_is i j p.1.1.1.1.1.1.0;
      }

  pub show_passed : (b : ℕ) → checks F N L (show lent b) ≡ Ok tt → Box N b
  show_passed b h =
      let p = all_passed (right_shelf F.bits N lent ∷ long lent.answer (box_symbols N) ∷ in_range N b ∷ alive L b ∷ []) h in
      box_in N b p.1.1.0

  pub refit_passed : (b : ℕ) → checks F N L (refit lent b) ≡ Ok tt → (named b (newcomers_of L.repair) ≡ false) × (named b (helpers_of L.repair) ≡ false)
  refit_passed b h =
      let p = all_passed (right_shelf F.bits N lent ∷ in_range N b ∷ dead_box L b ∷ no_part L b ∷ []) h in
      or_parts (named b (newcomers_of L.repair)) (named b (helpers_of L.repair))
      (not-true (named b (newcomers_of L.repair) || named b (helpers_of L.repair))
      (held (not (named b (newcomers_of L.repair) || named b (helpers_of L.repair))) (RepairDenial b) p.1.1.1.0))

  pub open_before : (ns hs : List ℕ) → checks F N L («open» lent ns hs) ≡ Ok tt → L.repair ≡ None
  open_before ns hs h =
      let p = all_passed (right_shelf F.bits N lent ∷ (long (length ns) N.t then long (length hs) N.d) ∷ none_open L ∷ each (in_range N) (ns ++ hs) ∷ unrepeated [] (ns ++ hs) ∷ each (alive L) (ns ++ hs) ∷ (each (blank_box L) ns then each (whole_box L) hs) ∷ []) h in
      none_is L.repair (not-true (is_open L.repair) (held (not (is_open L.repair)) (RepairDenial 0) p.1.1.0))

  pub record Settles (j : ℕ) : Type 0 where
    pub box : Box N j
    pub repair : (R : Repair) × (L.repair ≡ Some R)
    pub newcomer : named j (newcomers_of L.repair) ≡ true

  pub earlier_passed : (j : ℕ) → settle_earlier F N L lent j ≡ Ok tt → Settles j
  earlier_passed j h =
      let p = all_passed (right_shelf F.bits N lent ∷ tray_room N lent ∷ one_open L ∷ in_range N j ∷ a_newcomer L j ∷ alive L j ∷ unsettled L j ∷ []) h in
      record { box = box_in N j p.1.1.1.0; repair = one_is p.1.1.0; newcomer = newcomer_is j p.1.1.1.1.0 }

  pub settle_passed : (j : ℕ) → checks F N L (settle lent j) ≡ Ok tt → Settles j
  settle_passed j h = earlier_passed j (parts (settle_earlier F N L lent j) (helped L j then passed L j) h).0

-- One segment more.
pub more_once : (i j : ℕ) (came : List Segment) → times_came came i j ≡ 0 → ((a b : ℕ) → times_came came a b ≤ 1) → (a b : ℕ) → times_came (record { sender = i; receiver = j } ∷ came) a b ≤ 1
more_once i j came new once a b = go (cases_Bool (eqb i a && eqb j b))
  where
    go : ((eqb i a && eqb j b) ≡ true) ⊎ ((eqb i a && eqb j b) ≡ false) → cond (eqb i a && eqb j b) 1 0 + times_came came a b ≤ 1
    go (inl e) =
        let p = and_parts (eqb i a) (eqb j b) e in
        let k : times_came came a b ≡ 0 = ap (λ x. times_came came x b) (sym (eqb-true i a p.0)) ∙ ap (times_came came i) (sym (eqb-true j b p.1)) ∙ new in
        let c : ◌≡◌ {A = ℕ} (cond (eqb i a && eqb j b) 1 0) 1 = cond-true (eqb i a && eqb j b) 1 0 e in
        omega arith
    go (inr e) =
        let c : ◌≡◌ {A = ℕ} (cond (eqb i a && eqb j b) 1 0) 0 = cond-false (eqb i a && eqb j b) 1 0 e in
        omega (arith, once a b)

module _ {E : Type 0} (F : Ops E) (N : Numbers) (code : Encoder F N) (L : Ledger) (sound : Sound F N code L) where
  -- the segment from i to j is new
  sent_going : (lent : Lent) (i j : ℕ) → Sends F N L lent i j → (R : Repair) → with_segment i j L.repair ≡ Some R → Going N L.original R
  sent_going lent i j s R e = go L.repair refl s.repair s.receiver s.sender s.new e
    where
      go : (o : Option Repair) → L.repair ≡ o → ((Q : Repair) × (o ≡ Some Q)) → named j (newcomers_of o) ≡ true
          → ((named i (helpers_of o) ≡ true) ⊎ ((named i (newcomers_of o) ≡ true) × (i ≡ j → ⊥)))
          → times_came (came_of o) i j ≡ 0 → with_segment i j o ≡ Some R → Going N L.original R
      go None is some r p new f = absurd (some≢none (sym some.1))
      go (Some Q) is some r p new f =
          let g = sound.going Q is in
          let part : Parts Q.newcomers Q.helpers (record { sender = i; receiver = j }) = (r, side p, other g p) in
          subst (λ X. Going N L.original X) (some_is f)
          (record { newcomers = g.newcomers; helpers = g.helpers; distinct = g.distinct; boxes = g.boxes; there = g.there; parts = (part, g.parts); once = more_once i j Q.came new g.once })
        where
          side : ((named i Q.helpers ≡ true) ⊎ ((named i Q.newcomers ≡ true) × (i ≡ j → ⊥))) → (named i Q.helpers ≡ true) ⊎ (named i Q.newcomers ≡ true)
          side (inl h) = inl h
          side (inr h) = inr h.0

          other : Going N L.original Q → ((named i Q.helpers ≡ true) ⊎ ((named i Q.newcomers ≡ true) × (i ≡ j → ⊥))) → i ≡ j → ⊥
          other g (inl h) e = apart Q.newcomers Q.helpers g.distinct j r (ap (λ c. named c Q.helpers) (sym e) ∙ h)
          other g (inr h) e = h.1 e

  -- a box's rows and the data are as they were
  kept_block : (L₂ : Ledger) → (L₂.original ≡ L.original) → ((b : ℕ) → L₂.state b ≡ whole → (L.state b ≡ whole) × (L₂.rows b ≡ L.rows b)) → Held F N code L₂
  kept_block L₂ o k b box h =
      let was = k b h in
      let r = sound.block b box was.0 in
      (r.0, o ∙ r.1, was.1 ∙ r.2)

  cleared : (b : ℕ) (s : State) (rs : List (List ℕ)) → (s ≡ whole → ⊥) → (i : ℕ) → at b s L.state i ≡ whole → (L.state i ≡ whole) × (at b rs L.rows i ≡ L.rows i)
  cleared b s rs ne i h =
      let p = at_other (eqb i b) (L.state i) ne h in
      (p.1, cond-false (eqb i b) rs (L.rows i) p.0)

  sound_load : (lent : Lent) (xs : List ℕ) → checks F N L (load lent xs) ≡ Ok tt → Sound F N code (changed F N code L (load lent xs))
  sound_load lent xs h = record { block = λ b box w. (xs, refl, refl); going = λ R e. absurd (some≢none (sym e ∙ load_passed F N L lent xs h)) }

  sound_open : (lent : Lent) (ns hs : List ℕ) → checks F N L («open» lent ns hs) ≡ Ok tt → Sound F N code (changed F N code L («open» lent ns hs))
  sound_open lent ns hs h =
      let o = open_passed F N L lent ns hs h in
      let e = o.many in
      let first = at_place hs 0 (omega arith) in
      let b = sound.block (get_or hs 0 0) (o.boxes (get_or hs 0 0) (named_right (get_or hs 0 0) ns hs first)) (o.wholes (get_or hs 0 0) first) in
      record {
        block = kept_block (changed F N code L («open» lent ns hs)) refl (λ i w. ((at_other (named i ns) (L.state i) filling≢whole w).1, refl));
        going = λ R e. subst (λ X. Going N L.original X) (some_is e)
            (record { newcomers = o.few; helpers = o.many; distinct = o.distinct; boxes = o.boxes; there = (b.0, b.1); parts = tt; once = λ i j. omega arith });
      }

  sound_settle : (lent : Lent) (j : ℕ) → checks F N L (settle lent j) ≡ Ok tt → Sound F N code (changed F N code L (settle lent j))
  sound_settle lent j h =
      let s = settle_passed F N L lent j h in
      let g = sound.going s.repair.0 s.repair.1 in
      record { block = λ b box w. go g.there b box (cases_Bool (eqb b j)) w; going = sound.going }
    where
      go : ((xs : List ℕ) × (L.original ≡ Some xs)) → (b : ℕ) → Box N b → (eqb b j ≡ true) ⊎ (eqb b j ≡ false) → at j whole L.state b ≡ whole
          → (xs : List ℕ) × (L.original ≡ Some xs) × (at j (lawful_rows F N code (data_or_none L.original) j) L.rows b ≡ lawful_rows F N code xs b)
      go there b box (inl e) w = (
        there.0,
        there.1,
        cond-true (eqb b j) (lawful_rows F N code (data_or_none L.original) j) (L.rows b) e
            ∙ ap (λ o. lawful_rows F N code (data_or_none o) j) there.1
            ∙ ap (lawful_rows F N code there.0) (sym (eqb-true b j e)),
      )
      go there b box (inr e) w =
          let r = sound.block b box (sym (cond-false (eqb b j) whole (L.state b) e) ∙ w) in
          (r.0, r.1, cond-false (eqb b j) (lawful_rows F N code (data_or_none L.original) j) (L.rows b) e ∙ r.2)

  pub sound_changed : (call : Call) → checks F N L call ≡ Ok tt → Sound F N code (changed F N code L call)
  sound_changed (load lent xs) h = sound_load lent xs h
  sound_changed (read lent bs) h = sound
  sound_changed (show lent b) h = sound
  sound_changed (lose lent b) h = record { block = kept_block (changed F N code L (lose lent b)) refl (cleared b dead [] dead≢whole); going = sound.going }
  sound_changed (refit lent b) h =
      record { block = kept_block (changed F N code L (refit lent b)) refl (cleared b blank (replicate (beta N) (replicate N.w 0)) blank≢whole); going = sound.going }
  sound_changed («open» lent ns hs) h = sound_open lent ns hs h
  sound_changed (help lent i j) h = record { block = sound.block; going = sent_going lent i j (help_passed F N L lent i j h) }
  sound_changed (pass lent i j) h = record { block = sound.block; going = sent_going lent i j (pass_passed F N L lent i j h) }
  sound_changed (settle lent j) h = sound_settle lent j h
  sound_changed drop h =
      record {
        block = kept_block (changed F N code L drop) refl (λ i w. ((at_other (named i (newcomers_of L.repair) && is_filling (L.state i)) (L.state i) blank≢whole w).1, refl));
        going = λ R e. absurd (some≢none (sym e));
      }

  pub sound_after : (call : Call) → Sound F N code (after F N code L call)
  sound_after call = either_way (Sound F N code) (checks F N L call) (changed F N code L call) L (sound_changed call) sound

pub sound_closing : {E : Type 0} (F : Ops E) (N : Numbers) (code : Encoder F N) (L : Ledger) → Sound F N code L → (calls : List Call) → Sound F N code (closing F N code L calls)
sound_closing F N code L s [] = s
sound_closing F N code L s (call ∷ calls) = sound_closing F N code (after F N code L call) (sound_after F N code L s call) calls

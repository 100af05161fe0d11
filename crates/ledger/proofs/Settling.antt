-- A settle is accepted exactly when all segments came.
use Rattle.std.proofs.Common.{◌≡◌, ℕ, suc, ◌+◌, ◌-◌, ◌≤◌, Bool, true, false, cond, ◌&&◌, ◌||◌, eqb, ◌⊎◌, List, [], ◌∷◌, ◌++◌, length, Ok, Err, sym, refl, ap, ◌∙◌, subst, ap₂, inl, inr, arith}
use Rattle.std.proofs.lemmas.Bool.{false≢true, or_cases, or_left, or_right, eqb-true, eq-eqb, ne_eqb, both_ways, cases_Bool, cond-true, cond-false, and_parts, lt-ltb, ltb-true, cases_eq}
use Rattle.refusal.specs.declared.denial.Denial.{Denial}
use Rattle.refusal.specs.declared.denial.Denial.TheVariants.{Missing}
use Rattle.refusal.specs.Checks.{check, and_then}
use Rattle.field.specs.Laws.{Ops}
use Rattle.beehive.specs.declared.numbers.Numbers.{Numbers}
use Rattle.ledger.specs.Blocks.{Encoder}
use Rattle.ledger.specs.Calls.{Lent, settle, Reply, denied, counted}
use Rattle.ledger.specs.Ledger.{Ledger, Segment, named, newcomers_of, helpers_of, came_of, is_from_to, times_came, all_to, from_to}
use Rattle.ledger.specs.Checks.{Check, ◌then◌, each, helped, passed, arrived}
use Rattle.ledger.specs.Judge.{settle_earlier, answer, reply_by, judge}
use Rattle.ledger.specs.Laws.{Iff, OneFromEach}
use Rattle.ledger.proofs.Passing.{parts, both, held, holds, each_passed, each_passes, then_either}
use Rattle.ledger.proofs.Lists.{Distinct, distinct_left, distinct_right, apart, named_left, named_right}
use Rattle.ledger.proofs.Counts.{total, total_append, total_same, same_total, wanted, wanted_outside, wanted_inside, from_each}
use Rattle.ledger.proofs.Sound.{AllParts, Sound, earlier_passed}

pub named_split : (b : ℕ) (xs ys : List ℕ) → named b (xs ++ ys) ≡ true → (named b xs ≡ true) ⊎ (named b ys ≡ true)
named_split b [] ys h = inr h
named_split b (x ∷ xs) ys h = go (or_cases (eqb b x) (named b (xs ++ ys)) h) (named_split b xs ys)
  where
    further : (named b xs ≡ true) ⊎ (named b ys ≡ true) → ((eqb b x || named b xs) ≡ true) ⊎ (named b ys ≡ true)
    further (inl e) = inl (or_right (eqb b x) (named b xs) e)
    further (inr e) = inr e

    go : (eqb b x ≡ true) ⊎ (named b (xs ++ ys) ≡ true) → (named b (xs ++ ys) ≡ true → (named b xs ≡ true) ⊎ (named b ys ≡ true)) → ((eqb b x || named b xs) ≡ true) ⊎ (named b ys ≡ true)
    go (inl e) rec = inl (or_left (eqb b x) (named b xs) e)
    go (inr e) rec = further (rec e)

-- What a repair that is going on has, by its lists alone.
pub record Ready (N : Numbers) (ns hs : List ℕ) (came : List Segment) : Type 0 where
  pub few : length ns ≡ N.t
  pub many : length hs ≡ N.d
  pub distinct : Distinct (ns ++ hs)
  pub parts : AllParts ns hs came
  pub once : (i j : ℕ) → times_came came i j ≤ 1

none_self : (ns hs : List ℕ) (came : List Segment) → AllParts ns hs came → (j : ℕ) → times_came came j j ≡ 0
none_self ns hs [] p j = refl
none_self ns hs (s ∷ came) p j = go (cases_Bool (is_from_to j j s)) (none_self ns hs came p.1 j)
  where
    go : (is_from_to j j s ≡ true) ⊎ (is_from_to j j s ≡ false) → times_came came j j ≡ 0 → cond (is_from_to j j s) 1 0 + times_came came j j ≡ 0
    go (inl e) r = let q = and_parts (eqb s.sender j) (eqb s.receiver j) e in absurd (p.0.2 (eqb-true s.sender j q.0 ∙ sym (eqb-true s.receiver j q.1)))
    go (inr e) r = let c : ◌≡◌ {A = ℕ} (cond (is_from_to j j s) 1 0) 0 = cond-false (is_from_to j j s) 1 0 e in omega arith

all_from : (ns hs : List ℕ) (came : List Segment) → AllParts ns hs came → (j : ℕ) → all_to came j ≡ from_to (ns ++ hs) came j
all_from ns hs [] p j = refl
all_from ns hs (s ∷ came) p j =
    ap₂ ◌+◌ (same (eqb s.receiver j) (named s.sender (ns ++ hs)) (in_parts p.0.1)) (all_from ns hs came p.1 j)
  where
    same : (a b : Bool) → b ≡ true → ◌≡◌ {A = ℕ} (cond a 1 0) (cond (a && b) 1 0)
    same true true h = refl
    same true false h = absurd (false≢true h)
    same false b h = refl

    in_parts : (named s.sender hs ≡ true) ⊎ (named s.sender ns ≡ true) → named s.sender (ns ++ hs) ≡ true
    in_parts (inl h) = named_right s.sender ns hs h
    in_parts (inr h) = named_left s.sender ns hs h

module _ (N : Numbers) (ns hs : List ℕ) (came : List Segment) (r : Ready N ns hs came) (j : ℕ) (newcomer : named j ns ≡ true) where
  times : ℕ → ℕ
  times p = times_came came p j

  outside : named j hs ≡ false
  outside = go (cases_Bool (named j hs))
    where
      go : (named j hs ≡ true) ⊎ (named j hs ≡ false) → named j hs ≡ false
      go (inl e) = absurd (apart ns hs r.distinct j newcomer e)
      go (inr e) = e

  at_most : (p : ℕ) → times p ≤ wanted j p
  unfolding times
  at_most p = go (cases_eq p j)
    where
      go : (p ≡ j) ⊎ (p ≡ j → ⊥) → times_came came p j ≤ wanted j p
      go (inl e) =
          let z : times_came came p j ≡ 0 = ap (λ c. times_came came c j) e ∙ none_self ns hs came r.parts j in
          omega arith
      go (inr e) =
          let c : wanted j p ≡ 1 = cond-false (eqb p j) 0 1 (ne_eqb p j e) in
          omega (arith, r.once p j)

  in_all : all_to came j ≡ total times (ns ++ hs)
  unfolding times
  in_all = all_from ns hs came r.parts j ∙ from_each (ns ++ hs) came j r.distinct

  wanted_newcomers : suc (total (wanted j) ns) ≡ N.t
  wanted_newcomers = wanted_inside j ns (distinct_left ns hs r.distinct) newcomer ∙ r.few

  wanted_helpers : total (wanted j) hs ≡ N.d
  wanted_helpers = wanted_outside j hs outside ∙ r.many

  wanted_all : total (wanted j) (ns ++ hs) ≡ N.d + N.t - 1
  wanted_all = omega (arith, total_append (wanted j) ns hs, wanted_newcomers, wanted_helpers)

  abbrev pub Each : Type 0
  Each = (p : ℕ) → named p (ns ++ hs) ≡ true → times_came came p j ≡ wanted j p

  pub each_when_all : all_to came j ≡ N.d + N.t - 1 → Each
  unfolding times
  each_when_all h = same_total times (wanted j) (ns ++ hs) at_most (sym in_all ∙ h ∙ sym wanted_all)

  pub all_when_each : Each → all_to came j ≡ N.d + N.t - 1
  unfolding times
  all_when_each h = in_all ∙ total_same times (wanted j) (ns ++ hs) h ∙ wanted_all

  pub from_helpers : Each → from_to hs came j ≡ N.d
  unfolding times
  from_helpers h = from_each hs came j (distinct_right ns hs r.distinct) ∙ total_same times (wanted j) hs (λ p n. h p (named_right p ns hs n)) ∙ wanted_helpers

  pub from_newcomers : Each → from_to ns came j ≡ N.t - 1
  unfolding times
  from_newcomers h =
      let e = from_each ns came j (distinct_left ns hs r.distinct) ∙ total_same times (wanted j) ns (λ p n. h p (named_left p ns hs n)) in
      omega (arith, wanted_newcomers)

  helper_wanted : (p : ℕ) → named p hs ≡ true → wanted j p ≡ 1
  helper_wanted p n = cond-false (eqb p j) 0 1 (ne_eqb p j (λ e. both_ways (named j hs) outside (ap (λ c. named c hs) (sym e) ∙ n)))

  other_wanted : (p : ℕ) → (p ≡ j → ⊥) → wanted j p ≡ 1
  other_wanted p n = cond-false (eqb p j) 0 1 (ne_eqb p j n)

  -- the same by parts
  abbrev pub Parted : Type 0
  Parted = ((i : ℕ) → named i hs ≡ true → times_came came i j ≡ 1) × ((e : ℕ) → named e ns ≡ true → (e ≡ j → ⊥) → times_came came e j ≡ 1)

  pub parted : Each → Parted
  parted h = (λ i n. h i (named_right i ns hs n) ∙ helper_wanted i n, λ e n ne. h e (named_left e ns hs n) ∙ other_wanted e ne)

  pub each_when_parted : Parted → Each
  each_when_parted h p n = go (named_split p ns hs n)
    where
      newer : named p ns ≡ true → (p ≡ j) ⊎ (p ≡ j → ⊥) → times_came came p j ≡ wanted j p
      newer m (inl e) = ap (λ c. times_came came c j) e ∙ none_self ns hs came r.parts j ∙ sym (cond-true (eqb p j) 0 1 (eq-eqb p j e))
      newer m (inr e) = h.1 p m e ∙ sym (other_wanted p e)

      go : (named p ns ≡ true) ⊎ (named p hs ≡ true) → times_came came p j ≡ wanted j p
      go (inl m) = newer m (cases_eq p j)
      go (inr m) = h.0 p m ∙ sym (helper_wanted p m)

-- a row of checks with one refusal passes, or gives it
each_either : (t : ℕ → Bool) (e : Denial) (bs : List ℕ) → (each (λ b. check (t b) e) bs ≡ Ok tt) ⊎ (each (λ b. check (t b) e) bs ≡ Err e)
each_either t e [] = inl refl
each_either t e (b ∷ bs) = go (t b) (each_either t e bs)
  where
    go : (v : Bool) → (each (λ b. check (t b) e) bs ≡ Ok tt) ⊎ (each (λ b. check (t b) e) bs ≡ Err e) → (and_then (check v e) (each (λ b. check (t b) e) bs) ≡ Ok tt) ⊎ (and_then (check v e) (each (λ b. check (t b) e) bs) ≡ Err e)
    go true rest = rest
    go false rest = inr refl

module _ {E : Type 0} (F : Ops E) (N : Numbers) (code : Encoder F N) (L : Ledger) (sound : Sound F N code L) (lent : Lent) (j : ℕ) (earlier : settle_earlier F N L lent j ≡ Ok tt) where
  ns : List ℕ
  ns = newcomers_of L.repair

  hs : List ℕ
  hs = helpers_of L.repair

  came : List Segment
  came = came_of L.repair

  newcomer : named j ns ≡ true
  unfolding ns
  newcomer = (earlier_passed F N L lent j earlier).newcomer

  ready : Ready N ns hs came
  unfolding ns hs came
  ready =
      let q = (earlier_passed F N L lent j earlier).repair in
      let g = sound.going q.0 q.1 in
      subst (λ o. Ready N (newcomers_of o) (helpers_of o) (came_of o)) (sym q.1)
      (record { few = g.newcomers; many = g.helpers; distinct = g.distinct; parts = g.parts; once = g.once })

  last : Check
  last = helped L j then passed L j

  last_either : (last ≡ Ok tt) ⊎ (last ≡ Err (Missing j))
  unfolding last
  last_either =
      then_either (helped L j) (passed L j) (Missing j)
      (each_either (λ i. arrived L i j) (Missing j) (helpers_of L.repair))
      (each_either (λ e. eqb e j || arrived L e j) (Missing j) (newcomers_of L.repair))

  came_once : (i : ℕ) → arrived L i j ≡ true → times_came came i j ≡ 1
  unfolding came
  came_once i h = let l = ltb-true 0 (times_came (came_of L.repair) i j) h in omega (arith, ready.once i j)

  missing_none : last ≡ Ok tt → Parted N ns hs came ready j newcomer
  unfolding last ns hs
  missing_none h =
      let p = parts (helped L j) (passed L j) h in (
        λ i n. came_once i (held (arrived L i j) (Missing j) (each_passed (λ i. check (arrived L i j) (Missing j)) (helpers_of L.repair) p.0 i n)),
        λ e n ne. came_once e (not_self e ne (or_cases (eqb e j) (arrived L e j) (held (eqb e j || arrived L e j) (Missing j) (each_passed (λ e. check (eqb e j || arrived L e j) (Missing j)) (newcomers_of L.repair) p.1 e n)))),
      )
    where
      not_self : (e : ℕ) → (e ≡ j → ⊥) → (eqb e j ≡ true) ⊎ (arrived L e j ≡ true) → arrived L e j ≡ true
      not_self e ne (inl h) = absurd (ne (eqb-true e j h))
      not_self e ne (inr h) = h

  none_missing : Parted N ns hs came ready j newcomer → last ≡ Ok tt
  unfolding last ns hs came
  none_missing h =
      both (helped L j) (passed L j)
      (each_passes (λ i. check (arrived L i j) (Missing j)) (helpers_of L.repair) (λ i n. holds (arrived L i j) (Missing j) (there i (h.0 i n))))
      (each_passes (λ e. check (eqb e j || arrived L e j) (Missing j)) (newcomers_of L.repair) (λ e n. holds (eqb e j || arrived L e j) (Missing j) (either e n (cases_eq e j))))
    where
      there : (i : ℕ) → times_came (came_of L.repair) i j ≡ 1 → arrived L i j ≡ true
      there i e = lt-ltb 0 (times_came (came_of L.repair) i j) (omega arith)

      either : (e : ℕ) → named e (newcomers_of L.repair) ≡ true → (e ≡ j) ⊎ (e ≡ j → ⊥) → (eqb e j || arrived L e j) ≡ true
      either e n (inl i) = or_left (eqb e j) (arrived L e j) (eq-eqb e j i)
      either e n (inr i) = or_right (eqb e j) (arrived L e j) (there e (h.1 e n i))

  -- the reply goes by the last check
  by_last : (a b : Check) (r : Reply) → a ≡ Ok tt → reply_by F N (and_then a b) r ≡ reply_by F N b r
  by_last (Ok _) b r h = refl
  by_last (Err e) b r h = let z : reply_by F N (Err e) r ≡ reply_by F N b r = absurd (not_ok e h) in z
    where
      not_ok : (e : Denial) → ◌≡◌ {A = Check} (Err e) (Ok tt) → ⊥
      not_ok e h = let z : ◌≡◌ {A = ℕ} 0 1 = cc in omega arith

  judged : judge F N L (settle lent j) ≡ reply_by F N last (answer F N L (settle lent j))
  unfolding last
  judged = by_last (settle_earlier F N L lent j) (helped L j then passed L j) (answer F N L (settle lent j)) earlier

  counts : Parted N ns hs came ready j newcomer → answer F N L (settle lent j) ≡ counted N.d (N.t - 1)
  unfolding ns hs came
  counts h =
      let e = each_when_parted N ns hs came ready j newcomer h in
      ap₂ counted (from_helpers N ns hs came ready j newcomer e) (from_newcomers N ns hs came ready j newcomer e)

  accepted : Parted N ns hs came ready j newcomer → judge F N L (settle lent j) ≡ counted N.d (N.t - 1)
  accepted h = judged ∙ ap (λ c. reply_by F N c (answer F N L (settle lent j))) (none_missing h) ∙ counts h

  denied≢counted : (e : Denial) (a b : ℕ) → denied e ≡ counted a b → ⊥
  denied≢counted e a b h = let z : ◌≡◌ {A = ℕ} 0 1 = cc in omega arith

  was_accepted : judge F N L (settle lent j) ≡ counted N.d (N.t - 1) → last ≡ Ok tt
  was_accepted h = go last_either
    where
      go : (last ≡ Ok tt) ⊎ (last ≡ Err (Missing j)) → last ≡ Ok tt
      go (inl e) = e
      go (inr e) = absurd (denied≢counted (Missing j) N.d (N.t - 1) (sym (judged ∙ ap (λ c. reply_by F N c (answer F N L (settle lent j))) e) ∙ h))

  pub settle_counts : (helped L j then passed L j) ≡ Ok tt → judge F N L (settle lent j) ≡ counted N.d (N.t - 1)
  unfolding last
  settle_counts h = accepted (missing_none h)

  pub settles : Iff (judge F N L (settle lent j) ≡ counted N.d (N.t - 1)) (all_to (came_of L.repair) j ≡ N.d + N.t - 1)
      × Iff (all_to (came_of L.repair) j ≡ N.d + N.t - 1) (OneFromEach F L (came_of L.repair) j)
      × ((all_to (came_of L.repair) j ≡ N.d + N.t - 1 → ⊥) → judge F N L (settle lent j) ≡ denied (Missing j))
  unfolding ns hs came
  settles = (
    (
      λ h. all_when_each N ns hs came ready j newcomer (each_when_parted N ns hs came ready j newcomer (missing_none (was_accepted h))),
      λ h. accepted (parted N ns hs came ready j newcomer (each_when_all N ns hs came ready j newcomer h)),
    ),
    (
      λ h. parted N ns hs came ready j newcomer (each_when_all N ns hs came ready j newcomer h),
      λ h. all_when_each N ns hs came ready j newcomer (each_when_parted N ns hs came ready j newcomer h),
    ),
    λ no_more. go no_more last_either,
  )
    where
      go : (all_to (came_of L.repair) j ≡ N.d + N.t - 1 → ⊥) → (last ≡ Ok tt) ⊎ (last ≡ Err (Missing j)) → judge F N L (settle lent j) ≡ denied (Missing j)
      go h (inl e) = absurd (h (all_when_each N ns hs came ready j newcomer (each_when_parted N ns hs came ready j newcomer (missing_none e))))
      go h (inr e) = judged ∙ ap (λ c. reply_by F N c (answer F N L (settle lent j))) e

-- The states of a repair's boxes.
use Rattle.std.proofs.Common.{◌≡◌, ℕ, Bool, true, false, cond, ◌&&◌, eqb, ◌⊎◌, List, [], ◌∷◌, Some, None, Ok, Option, sym, refl, ap, ◌∙◌, subst, inl, inr, arith}
use Rattle.std.proofs.lemmas.Bool.{false≢true, eqb-true, both_ways, cases_Bool, cond-true, cond-false, and_from}
use Rattle.field.specs.Laws.{Ops}
use Rattle.beehive.specs.declared.numbers.Numbers.{Numbers}
use Rattle.shelf.specs.Model.{Model}
use Rattle.ledger.specs.Blocks.{Encoder}
use Rattle.ledger.specs.Calls.{Lent, Call, load, read, show, lose, refit, «open», help, pass, settle, drop}
use Rattle.ledger.specs.Ledger.{Ledger, State, dead, blank, whole, filling, Repair, made, named, is_filling, newcomers_of, helpers_of}
use Rattle.ledger.specs.Judge.{checks, changed, after, with_segment}
use Rattle.ledger.specs.Runs.{closing}
use Rattle.ledger.specs.Laws.{PartsAreKept}
use Rattle.ledger.proofs.Passing.{either_way}
use Rattle.ledger.proofs.Lists.{apart}
use Rattle.ledger.proofs.Sound.{open_passed, open_before, refit_passed}

-- what a helper and a newcomer may be
abbrev pub Helps : State → Type 0
Helps s = (s ≡ whole) ⊎ (s ≡ dead)

abbrev pub Comes : State → Type 0
Comes s = (s ≡ filling) ⊎ ((s ≡ whole) ⊎ (s ≡ dead))

pub record Roles (L : Ledger) : Type 0 where
  pub helper : (b : ℕ) → named b (helpers_of L.repair) ≡ true → Helps (L.state b)
  pub newcomer : (b : ℕ) → named b (newcomers_of L.repair) ≡ true → Comes (L.state b)
  pub waiting : (b : ℕ) → L.state b ≡ filling → named b (newcomers_of L.repair) ≡ true

whole≢filling : ◌≡◌ {A = State} whole filling → ⊥
whole≢filling h = let z : ◌≡◌ {A = ℕ} 0 1 = cc in omega arith

blank≢filling : ◌≡◌ {A = State} blank filling → ⊥
blank≢filling h = let z : ◌≡◌ {A = ℕ} 0 1 = cc in omega arith

dead≢filling : ◌≡◌ {A = State} dead filling → ⊥
dead≢filling h = let z : ◌≡◌ {A = ℕ} 0 1 = cc in omega arith

-- one of two states
set_to : (P : State → Type 0) (t : Bool) (s x : State) → P s → P x → P (cond t s x)
set_to P true s x p q = p
set_to P false s x p q = q

not_set : (t : Bool) (s x : State) → (s ≡ filling → ⊥) → cond t s x ≡ filling → x ≡ filling
not_set true s x n h = absurd (n h)
not_set false s x n h = h

-- the state of another box than b
other_box : (P : State → Type 0) (b i : ℕ) (s x : State) (bs : List ℕ) → named b bs ≡ false → named i bs ≡ true → P x → P (cond (eqb i b) s x)
other_box P b i s x bs out n p = subst P (sym (cond-false (eqb i b) s x (go (cases_Bool (eqb i b))))) p
  where
    go : (eqb i b ≡ true) ⊎ (eqb i b ≡ false) → eqb i b ≡ false
    go (inl e) = absurd (both_ways (named b bs) out (ap (λ c. named c bs) (sym (eqb-true i b e)) ∙ n))
    go (inr e) = e

segment_newcomers : (i j : ℕ) (o : Option Repair) → newcomers_of (with_segment i j o) ≡ newcomers_of o
segment_newcomers i j None = refl
segment_newcomers i j (Some R) = refl

segment_helpers : (i j : ℕ) (o : Option Repair) → helpers_of (with_segment i j o) ≡ helpers_of o
segment_helpers i j None = refl
segment_helpers i j (Some R) = refl

is_filling_true : (s : State) → s ≡ filling → is_filling s ≡ true
is_filling_true s h = ap is_filling h

module _ {E : Type 0} (F : Ops E) (N : Numbers) (code : Encoder F N) (L : Ledger) (roles : Roles L) where
  roles_sent : (i j : ℕ) (M : Ledger) → M.state ≡ L.state → M.repair ≡ with_segment i j L.repair → Roles M
  roles_sent i j M es er =
      let en = ap newcomers_of er ∙ segment_newcomers i j L.repair in
      let eh = ap helpers_of er ∙ segment_helpers i j L.repair in
      record {
        helper = λ b n. subst (λ s. Helps (s b)) (sym es) (roles.helper b (ap (named b) (sym eh) ∙ n));
        newcomer = λ b n. subst (λ s. Comes (s b)) (sym es) (roles.newcomer b (ap (named b) (sym en) ∙ n));
        waiting = λ b h. ap (named b) en ∙ roles.waiting b (ap (λ s. s b) (sym es) ∙ h);
      }

  roles_open : (lent : Lent) (ns hs : List ℕ) → checks F N L («open» lent ns hs) ≡ Ok tt → Roles (changed F N code L («open» lent ns hs))
  roles_open lent ns hs h =
      let o = open_passed F N L lent ns hs h in
      let none = open_before F N L lent ns hs h in
      record {
        helper = λ b n. inl (cond-false (named b ns) filling (L.state b) (no_newcomer b (λ m. apart ns hs o.distinct b m n) (cases_Bool (named b ns))) ∙ o.wholes b n);
        newcomer = λ b n. inl (cond-true (named b ns) filling (L.state b) n);
        waiting = λ b w. waits none b (cases_Bool (named b ns)) w;
      }
    where
      no_newcomer : (b : ℕ) → (named b ns ≡ true → ⊥) → (named b ns ≡ true) ⊎ (named b ns ≡ false) → named b ns ≡ false
      no_newcomer b k (inl e) = absurd (k e)
      no_newcomer b k (inr e) = e

      waits : L.repair ≡ None → (b : ℕ) → (named b ns ≡ true) ⊎ (named b ns ≡ false) → cond (named b ns) filling (L.state b) ≡ filling → named b ns ≡ true
      waits none b (inl e) w = e
      waits none b (inr e) w =
          absurd (false≢true (ap (λ o. named b (newcomers_of o)) (sym none) ∙ roles.waiting b (sym (cond-false (named b ns) filling (L.state b) e) ∙ w)))

  roles_drop : Roles (changed F N code L drop)
  roles_drop = record { helper = λ b n. absurd (false≢true n); newcomer = λ b n. absurd (false≢true n); waiting = λ b w. absurd (never b w) }
    where
      never : (b : ℕ) → cond (named b (newcomers_of L.repair) && is_filling (L.state b)) blank (L.state b) ≡ filling → ⊥
      never b w =
          let s = not_set (named b (newcomers_of L.repair) && is_filling (L.state b)) blank (L.state b) blank≢filling w in
          blank≢filling (sym (cond-true (named b (newcomers_of L.repair) && is_filling (L.state b)) blank (L.state b) (and_from (named b (newcomers_of L.repair)) (is_filling (L.state b)) (roles.waiting b s) (is_filling_true (L.state b) s))) ∙ w)

  roles_changed : (call : Call) → checks F N L call ≡ Ok tt → Roles (changed F N code L call)
  roles_changed (load lent xs) h =
      record { helper = λ b n. inl refl; newcomer = λ b n. inr (inl refl); waiting = λ b w. absurd (whole≢filling w) }
  roles_changed (read lent bs) h = roles
  roles_changed (show lent b) h = roles
  roles_changed (lose lent b) h =
      record {
        helper = λ i n. set_to Helps (eqb i b) dead (L.state i) (inr refl) (roles.helper i n);
        newcomer = λ i n. set_to Comes (eqb i b) dead (L.state i) (inr (inr refl)) (roles.newcomer i n);
        waiting = λ i w. roles.waiting i (not_set (eqb i b) dead (L.state i) dead≢filling w);
      }
  roles_changed (refit lent b) h =
      let p = refit_passed F N L lent b h in
      record {
        helper = λ i n. other_box Helps b i blank (L.state i) (helpers_of L.repair) p.1 n (roles.helper i n);
        newcomer = λ i n. other_box Comes b i blank (L.state i) (newcomers_of L.repair) p.0 n (roles.newcomer i n);
        waiting = λ i w. roles.waiting i (not_set (eqb i b) blank (L.state i) blank≢filling w);
      }
  roles_changed («open» lent ns hs) h = roles_open lent ns hs h
  roles_changed (help lent i j) h = roles_sent i j (changed F N code L (help lent i j)) refl refl
  roles_changed (pass lent i j) h = roles_sent i j (changed F N code L (pass lent i j)) refl refl
  roles_changed (settle lent j) h =
      record {
        helper = λ i n. set_to Helps (eqb i j) whole (L.state i) (inl refl) (roles.helper i n);
        newcomer = λ i n. set_to Comes (eqb i j) whole (L.state i) (inr (inl refl)) (roles.newcomer i n);
        waiting = λ i w. roles.waiting i (not_set (eqb i j) whole (L.state i) whole≢filling w);
      }
  roles_changed drop h = roles_drop

  pub roles_after : (call : Call) → Roles (after F N code L call)
  roles_after call = either_way Roles (checks F N L call) (changed F N code L call) L (roles_changed call) roles

pub roles_made : (m : Model) → Roles (made m)
roles_made m = record { helper = λ b n. absurd (false≢true n); newcomer = λ b n. absurd (false≢true n); waiting = λ b w. absurd (blank≢filling w) }

pub roles_closing : {E : Type 0} (F : Ops E) (N : Numbers) (code : Encoder F N) (L : Ledger) → Roles L → (calls : List Call) → Roles (closing F N code L calls)
roles_closing F N code L r [] = r
roles_closing F N code L r (call ∷ calls) = roles_closing F N code (after F N code L call) (roles_after F N code L r call) calls

pub parts_kept : {E : Type 0} (F : Ops E) → PartsAreKept F
parts_kept F N suits code shelf calls =
    let r = roles_closing F N code (made shelf) (roles_made shelf) calls in (r.helper, r.newcomer, r.waiting)

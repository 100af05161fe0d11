-- The ledger does not depend on which lawful lists it goes by.
use Rattle.std.proofs.Common.{◌≡◌, ℕ, cond, eqb, List, [], ◌∷◌, replicate, None, Ok, Err, Option, sym, refl, ap, ◌∙◌, ap₂, arith}
use Rattle.refusal.specs.declared.denial.Denial.{Denial}
use Rattle.refusal.specs.Checks.{if_ok}
use Rattle.field.specs.Laws.{Ops, Laws}
use Rattle.beehive.specs.declared.numbers.Numbers.{Numbers}
use Rattle.beehive.specs.Numbers.{beta, Box}
use Rattle.beehive.specs.Points.{Suits}
use Rattle.ledger.specs.Blocks.{Encoder}
use Rattle.ledger.specs.Calls.{Call, load, read, show, lose, refit, «open», help, pass, settle, drop, told, counted}
use Rattle.ledger.specs.Ledger.{Ledger, State, dead, blank, whole, Repair, made, at, newcomers_of, helpers_of, came_of, from_to}
use Rattle.ledger.specs.Checks.{Check}
use Rattle.ledger.specs.Judge.{checks, answer, reply_by, judge, changed, after, lawful_rows, joined, data_or_none, with_segment, unfilled, all_filling}
use Rattle.ledger.specs.Runs.{replies, closing}
use Rattle.ledger.specs.Laws.{Alike, AnyEncoderAlike}
use Rattle.ledger.proofs.Encoders.{same_rows}
use Rattle.ledger.proofs.Sound.{show_passed, settle_passed}

-- a ledger without rows and data
abbrev bare : (ℕ → State) → Option Repair → Ledger
bare state repair = record { state = state; rows = λ b. []; original = None; repair = repair }

-- the checks look only at states and repair
checks_bare : {E : Type 0} (F : Ops E) (N : Numbers) (L : Ledger) (call : Call) → checks F N L call ≡ checks F N (bare L.state L.repair) call
checks_bare F N L (load lent xs) = refl
checks_bare F N L (read lent bs) = refl
checks_bare F N L (show lent b) = refl
checks_bare F N L (lose lent b) = refl
checks_bare F N L (refit lent b) = refl
checks_bare F N L («open» lent ns hs) = refl
checks_bare F N L (help lent i j) = refl
checks_bare F N L (pass lent i j) = refl
checks_bare F N L (settle lent j) = refl
checks_bare F N L drop = refl

module _ {E : Type 0} {F : Ops E} (laws : Laws F) (N : Numbers) (suits : Suits F N) (a b : Encoder F N) where
  rows_alike : (xs : List ℕ) (i : ℕ) → Box N i → lawful_rows F N a xs i ≡ lawful_rows F N b xs i
  rows_alike xs i box = same_rows laws N suits xs (a.blocks xs) (b.blocks xs) (a.lists xs) (b.lists xs) i box

  module _ (L M : Ledger) (same : Alike F N L M) where
    checks_alike : (call : Call) → checks F N L call ≡ checks F N M call
    checks_alike call = checks_bare F N L call ∙ ap₂ (λ s r. checks F N (bare s r) call) same.state same.repair ∙ sym (checks_bare F N M call)

    answer_alike : (call : Call) → checks F N L call ≡ Ok tt → answer F N L call ≡ answer F N M call
    answer_alike (load lent xs) h = refl
    answer_alike (read lent bs) h = ap (λ o. told (data_or_none o)) same.original
    answer_alike (show lent i) h = ap (λ rs. told (joined rs)) (same.rows i (show_passed F N L lent i h))
    answer_alike (lose lent i) h = refl
    answer_alike (refit lent i) h = refl
    answer_alike («open» lent ns hs) h = refl
    answer_alike (help lent i j) h = refl
    answer_alike (pass lent i j) h = refl
    answer_alike (settle lent j) h = ap (λ o. counted (from_to (helpers_of o) (came_of o) j) (from_to (newcomers_of o) (came_of o) j)) same.repair
    answer_alike drop h = refl

    judge_alike : (call : Call) → judge F N L call ≡ judge F N M call
    judge_alike call = go (checks F N L call) refl ∙ ap (λ r. reply_by F N r (answer F N M call)) (checks_alike call)
      where
        go : (r : Check) → checks F N L call ≡ r → reply_by F N r (answer F N L call) ≡ reply_by F N r (answer F N M call)
        go (Ok _) h = answer_alike call h
        go (Err e) h = refl

    changed_alike : (call : Call) → checks F N L call ≡ Ok tt → Alike F N (changed F N a L call) (changed F N b M call)
    changed_alike (load lent xs) h = record { state = refl; original = refl; repair = same.repair; rows = rows_alike xs }
    changed_alike (read lent bs) h = same
    changed_alike (show lent i) h = same
    changed_alike (lose lent i) h =
        record { state = ap (at i dead) same.state; original = same.original; repair = same.repair; rows = λ c box. ap (cond (eqb c i) []) (same.rows c box) }
    changed_alike (refit lent i) h =
        record { state = ap (at i blank) same.state; original = same.original; repair = same.repair; rows = λ c box. ap (cond (eqb c i) (replicate (beta N) (replicate N.w 0))) (same.rows c box) }
    changed_alike («open» lent ns hs) h = record { state = ap (all_filling ns) same.state; original = same.original; repair = refl; rows = same.rows }
    changed_alike (help lent i j) h = record { state = same.state; original = same.original; repair = ap (with_segment i j) same.repair; rows = same.rows }
    changed_alike (pass lent i j) h = record { state = same.state; original = same.original; repair = ap (with_segment i j) same.repair; rows = same.rows }
    changed_alike (settle lent j) h =
        let box = (settle_passed F N L lent j h).box in
        record {
          state = ap (at j whole) same.state;
          original = same.original;
          repair = same.repair;
          rows = λ c real. ap₂ (cond (eqb c j)) (rows_alike (data_or_none L.original) j box ∙ ap (λ o. lawful_rows F N b (data_or_none o) j) same.original) (same.rows c real);
        }
    changed_alike drop h =
        record { state = ap₂ unfilled (ap newcomers_of same.repair) same.state; original = same.original; repair = refl; rows = same.rows }

    after_alike : (call : Call) → Alike F N (after F N a L call) (after F N b M call)
    after_alike call = go (checks F N L call) refl (checks F N M call) refl
      where
        go : (r : Check) → checks F N L call ≡ r → (q : Check) → checks F N M call ≡ q → Alike F N (if_ok r (changed F N a L call) L) (if_ok q (changed F N b M call) M)
        go (Ok _) h (Ok _) k = changed_alike call h
        go (Ok _) h (Err e) k = absurd (not_both e (sym h ∙ checks_alike call ∙ k))
          where
            not_both : (e : Denial) → ◌≡◌ {A = Check} (Ok tt) (Err e) → ⊥
            not_both e z = let y : ◌≡◌ {A = ℕ} 0 1 = cc in omega arith
        go (Err e) h (Ok _) k = absurd (not_both e (sym k ∙ sym (checks_alike call) ∙ h))
          where
            not_both : (e : Denial) → ◌≡◌ {A = Check} (Ok tt) (Err e) → ⊥
            not_both e z = let y : ◌≡◌ {A = ℕ} 0 1 = cc in omega arith
        go (Err e) h (Err d) k = same

  runs_alike : (L M : Ledger) → Alike F N L M → (calls : List Call)
      → (replies F N a L calls ≡ replies F N b M calls) × Alike F N (closing F N a L calls) (closing F N b M calls)
  runs_alike L M same [] = (refl, same)
  runs_alike L M same (call ∷ calls) =
      let rest = runs_alike (after F N a L call) (after F N b M call) (after_alike L M same call) calls in
      (ap₂ ◌∷◌ (judge_alike L M same call) rest.0, rest.1)

pub any_encoder : {E : Type 0} {F : Ops E} → Laws F → AnyEncoderAlike F
any_encoder laws N suits a b shelf calls = runs_alike laws N suits a b (made shelf) (made shelf) (record { state = refl; original = refl; repair = refl; rows = λ c box. refl }) calls

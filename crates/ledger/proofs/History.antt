-- The ledger's data, segments and repair, from the calls and the replies.
use Rattle.std.proofs.Common.{◌≡◌, ℕ, true, List, [], ◌∷◌, Some, None, Ok, Err, Option, sym, refl, ap, ◌∙◌, subst}
use Rattle.refusal.specs.Checks.{if_ok}
use Rattle.field.specs.Laws.{Ops}
use Rattle.beehive.specs.declared.numbers.Numbers.{Numbers}
use Rattle.ledger.specs.Blocks.{Encoder}
use Rattle.ledger.specs.Calls.{Lent, Call, load, read, show, lose, refit, «open», help, pass, settle, drop, Reply, done}
use Rattle.ledger.specs.Ledger.{Ledger, whole, Repair, named, came_of}
use Rattle.ledger.specs.Checks.{Check}
use Rattle.ledger.specs.Judge.{checks, reply_by, judge, changed, after, with_segment}
use Rattle.ledger.specs.Runs.{replies, closing, unless_denied, kept, last_accepted, sent, sent_since, opening, last_opening}
use Rattle.ledger.proofs.Passing.{either_way}
use Rattle.ledger.proofs.Sound.{some≢none, some_is, open_passed, help_passed, pass_passed}

module _ {E : Type 0} (F : Ops E) (N : Numbers) (code : Encoder F N) where
  -- What the call makes of a part of the ledger goes by its reply.
  by_reply : {A : Type 0} (part : Ledger → A) (r : Check) (a : Reply) (x y : Ledger) (new : A) → ((r ≡ Ok tt) → part x ≡ new) → ((p q : A) → unless_denied a p q ≡ p)
      → part (if_ok r x y) ≡ unless_denied (reply_by F N r a) new (part y)
  by_reply part (Ok _) a x y new h k = h refl ∙ sym (k new (part y))
  by_reply part (Err e) a x y new h k = refl

  as_before : {A : Type 0} (part : Ledger → A) (r : Check) (x y : Ledger) → part x ≡ part y → part (if_ok r x y) ≡ part y
  as_before part (Ok _) x y h = h
  as_before part (Err e) x y h = refl

  module _ (L : Ledger) where
    same_data : (call : Call) → (changed F N code L call).original ≡ L.original → (after F N code L call).original ≡ L.original
    same_data call h = as_before (λ Q. Q.original) (checks F N L call) (changed F N code L call) L h

    data_step : (call : Call) → (after F N code L call).original ≡ kept L.original call (judge F N L call)
    data_step (load lent xs) = by_reply (λ Q. Q.original) (checks F N L (load lent xs)) done (changed F N code L (load lent xs)) L (Some xs) (λ _. refl) (λ p q. refl)
    data_step (read lent bs) = same_data (read lent bs) refl
    data_step (show lent b) = same_data (show lent b) refl
    data_step (lose lent b) = same_data (lose lent b) refl
    data_step (refit lent b) = same_data (refit lent b) refl
    data_step («open» lent ns hs) = same_data («open» lent ns hs) refl
    data_step (help lent i j) = same_data (help lent i j) refl
    data_step (pass lent i j) = same_data (pass lent i j) refl
    data_step (settle lent j) = same_data (settle lent j) refl
    data_step drop = same_data drop refl

    pub data_kept : (call : Call) → ((lent : Lent) (xs : List ℕ) → call ≡ load lent xs → ⊥) → (after F N code L call).original ≡ L.original
    data_kept (load lent xs) h = absurd (h lent xs refl)
    data_kept (read lent bs) h = same_data (read lent bs) refl
    data_kept (show lent b) h = same_data (show lent b) refl
    data_kept (lose lent b) h = same_data (lose lent b) refl
    data_kept (refit lent b) h = same_data (refit lent b) refl
    data_kept («open» lent ns hs) h = same_data («open» lent ns hs) refl
    data_kept (help lent i j) h = same_data (help lent i j) refl
    data_kept (pass lent i j) h = same_data (pass lent i j) refl
    data_kept (settle lent j) h = same_data (settle lent j) refl
    data_kept drop h = same_data drop refl

    same_came : (call : Call) → (changed F N code L call).repair ≡ L.repair → came_of (after F N code L call).repair ≡ came_of L.repair
    same_came call h = as_before (λ Q. came_of Q.repair) (checks F N L call) (changed F N code L call) L (ap came_of h)

    one_came : (i j : ℕ) (o : Option Repair) (R : Repair) → o ≡ Some R → came_of (with_segment i j o) ≡ record { sender = i; receiver = j } ∷ came_of o
    one_came i j None R h = absurd (some≢none (sym h))
    one_came i j (Some Q) R h = refl

    came_step : (call : Call) → came_of (after F N code L call).repair ≡ sent (came_of L.repair) call (judge F N L call)
    came_step (load lent xs) = same_came (load lent xs) refl
    came_step (read lent bs) = same_came (read lent bs) refl
    came_step (show lent b) = same_came (show lent b) refl
    came_step (lose lent b) = same_came (lose lent b) refl
    came_step (refit lent b) = same_came (refit lent b) refl
    came_step («open» lent ns hs) =
        by_reply (λ Q. came_of Q.repair) (checks F N L («open» lent ns hs)) done (changed F N code L («open» lent ns hs)) L [] (λ _. refl) (λ p q. refl)
    came_step (help lent i j) =
        by_reply (λ Q. came_of Q.repair) (checks F N L (help lent i j)) done (changed F N code L (help lent i j)) L (record { sender = i; receiver = j } ∷ came_of L.repair)
        (λ h. let r = (help_passed F N L lent i j h).repair in one_came i j L.repair r.0 r.1) (λ p q. refl)
    came_step (pass lent i j) =
        by_reply (λ Q. came_of Q.repair) (checks F N L (pass lent i j)) done (changed F N code L (pass lent i j)) L (record { sender = i; receiver = j } ∷ came_of L.repair)
        (λ h. let r = (pass_passed F N L lent i j h).repair in one_came i j L.repair r.0 r.1) (λ p q. refl)
    came_step (settle lent j) = same_came (settle lent j) refl
    came_step drop = by_reply (λ Q. came_of Q.repair) (checks F N L drop) done (changed F N code L drop) L [] (λ _. refl) (λ p q. refl)

    -- the helpers of the open repair were whole in the ledger of its opening
    abbrev pub Opened : Option Ledger → Option Repair → Type 0
    Opened o repair = (R : Repair) → repair ≡ Some R → (L₀ : Ledger) × (o ≡ Some L₀) × ((h : ℕ) → named h R.helpers ≡ true → L₀.state h ≡ whole)

    same_opening : (o : Option Ledger) (call : Call) → (changed F N code L call).repair ≡ L.repair → Opened o L.repair → Opened o (after F N code L call).repair
    same_opening o call h p = subst (Opened o) (sym (as_before (λ Q. Q.repair) (checks F N L call) (changed F N code L call) L h)) p

    with_opening : (o : Option Ledger) (i j : ℕ) (repair : Option Repair) → Opened o repair → Opened o (with_segment i j repair)
    with_opening o i j None p R h = p R h
    with_opening o i j (Some Q) p R h = let w = p Q refl in (w.0, w.1, λ b n. w.2 b (ap (λ X. named b X.helpers) (some_is h) ∙ n))

    opening_step : (o : Option Ledger) (call : Call) → Opened o L.repair → Opened (opening o L call (judge F N L call)) (after F N code L call).repair
    opening_step o (load lent xs) p = same_opening o (load lent xs) refl p
    opening_step o (read lent bs) p = same_opening o (read lent bs) refl p
    opening_step o (show lent b) p = same_opening o (show lent b) refl p
    opening_step o (lose lent b) p = same_opening o (lose lent b) refl p
    opening_step o (refit lent b) p = same_opening o (refit lent b) refl p
    opening_step o («open» lent ns hs) p = go (checks F N L («open» lent ns hs)) refl
      where
        go : (r : Check) → checks F N L («open» lent ns hs) ≡ r → Opened (unless_denied (reply_by F N r done) (Some L) o) (if_ok r (changed F N code L («open» lent ns hs)) L).repair
        go (Ok _) is R h =
            let w = open_passed F N L lent ns hs is in
            (L, refl, λ b n. w.wholes b (ap (λ X. named b X.helpers) (some_is h) ∙ n))
        go (Err e) is R h = p R h
    opening_step o (help lent i j) p = either_way (λ Q. Opened o Q.repair) (checks F N L (help lent i j)) (changed F N code L (help lent i j)) L (λ _. with_opening o i j L.repair p) p
    opening_step o (pass lent i j) p = either_way (λ Q. Opened o Q.repair) (checks F N L (pass lent i j)) (changed F N code L (pass lent i j)) L (λ _. with_opening o i j L.repair p) p
    opening_step o (settle lent j) p = same_opening o (settle lent j) refl p
    opening_step o drop p = either_way (λ Q. Opened o Q.repair) (checks F N L drop) (changed F N code L drop) L (λ _ R h. absurd (some≢none (sym h))) p

  pub closing_data : (L : Ledger) (calls : List Call) → (closing F N code L calls).original ≡ last_accepted L.original calls (replies F N code L calls)
  closing_data L [] = refl
  closing_data L (call ∷ calls) =
      closing_data (after F N code L call) calls ∙ ap (λ o. last_accepted o calls (replies F N code (after F N code L call) calls)) (data_step L call)

  pub closing_came : (L : Ledger) (calls : List Call) → came_of (closing F N code L calls).repair ≡ sent_since (came_of L.repair) calls (replies F N code L calls)
  closing_came L [] = refl
  closing_came L (call ∷ calls) =
      closing_came (after F N code L call) calls ∙ ap (λ o. sent_since o calls (replies F N code (after F N code L call) calls)) (came_step L call)

  pub closing_opened : (o : Option Ledger) (L : Ledger) (calls : List Call) → Opened L o L.repair → Opened L (last_opening F N code o L calls) (closing F N code L calls).repair
  closing_opened o L [] p = p
  closing_opened o L (call ∷ calls) p = closing_opened (opening o L call (judge F N L call)) (after F N code L call) calls (opening_step L o call p)

-- Places written one after another.
use Rattle.std.proofs.Common.{◌≡◌, ℕ, ◌+◌, sym, ap, ◌∙◌, inl, inr, arith}
use Rattle.std.proofs.lemmas.Bool.{cases_lt}
use Rattle.shelf.specs.Stored.{Written}

-- One more place.
pub written_more : (old new newer : ℕ → ℕ) (start n : ℕ) (v : ℕ → ℕ) → Written old new start n v
    → newer (start + n) ≡ v n → ((q : ℕ) → (q ≡ start + n → ⊥) → newer q ≡ new q) → Written old newer start (n + 1) v
written_more old new newer start n v w e o = record {
  inside = λ j h. elim (cases_lt j n) [
    | inl l ↦ o (start + j) (λ q. omega arith) ∙ w.inside j l
    | inr l ↦ (let q : j ≡ n = omega arith in ap (λ i. newer (start + i)) q ∙ e ∙ ap v (sym q))
  ];
  below = λ p h. o p (λ q. omega arith) ∙ w.below p h;
  above = λ p h. o p (λ q. omega arith) ∙ w.above p (omega arith);
}

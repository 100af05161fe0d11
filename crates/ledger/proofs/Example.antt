-- The example sessions, computed.
use Rattle.std.proofs.Common.{◌≡◌, ℕ, zero, suc, ◌+◌, ◌-◌, ◌*◌, ◌^◌, ◌<◌, Bool, true, false, cond, not, ◌&&◌, ◌||◌, T, eqb, [], ◌∷◌, ◌++◌, refl, ap, ap₂, arith, lit<, lit≤, eqb→eq}
use Rattle.std.proofs.lemmas.Bool.{both_ways, eq-eqb}
use Rattle.field.specs.Laws.{Laws}
use Rattle.field.specs.Figures.{nibble}
use Rattle.field.specs.Polynomials.{carryless, remainder, product, squares, inverse}
use Rattle.field.specs.declared.residue.Residue.{Residue}
use Rattle.field.specs.Fields.{laws, coded, same_code}
use Rattle.field.specs.Computed.{every, at, inverses}
use Rattle.algebra.specs.Poly.{sum, power}
use Rattle.beehive.specs.Numbers.{Box}
use Rattle.beehive.specs.Points.{dot, powers, mu, point, Suits}
use Rattle.beehive.specs.Rule.{phi_times, Lawful}
use Rattle.shelf.specs.Model.{Model}
use Rattle.ledger.specs.Blocks.{Encoder, block_rows, segment_codes, symbols, Lists}
use Rattle.ledger.specs.Calls.{denied, done, told, counted}
use Rattle.ledger.specs.Ledger.{made}
use Rattle.ledger.specs.Judge.{lawful_rows, joined}
use Rattle.ledger.specs.Runs.{replies}
use Rattle.ledger.specs.Example.{numbers, original, session, session_replies, before_repair, segments_sent, settled, settled_replies, each_done, Sessions}
use Rattle.refusal.specs.declared.denial.Denial.TheVariants.{Dead, Repair}
use Rattle.ledger.proofs.Encoders.{same_rows, same_segment, one_encoder}

pub nibble_laws : Laws nibble
unfolding carryless remainder product squares inverse
nibble_laws = laws {m = 4} {p = 19} (record { degree = (lit< tt, lit≤ tt, lit< tt); invertible = inverses 4 19 (2 ^ 4 - 1) tt }) (coded 4)

-- no two of the nodes 1 to 6 have the same point or the same square of it
told_apart : (f : ℕ → ℕ) → T (every (λ s. every (λ u. not (eqb (f s) (f u)) || eqb s u) 0 7) 0 7) → (s u : ℕ) → s < 7 → u < 7 → f s ≡ f u → s ≡ u
told_apart f t s u l m e = go (eqb (f s) (f u)) refl (at (λ v. not (eqb (f s) (f v)) || eqb s v) 7 (at (λ s. every (λ u. not (eqb (f s) (f u)) || eqb s u) 0 7) 7 t s l) u m)
  where
    go : (b : Bool) → eqb (f s) (f u) ≡ b → T (not b || eqb s u) → s ≡ u
    go true k h = eqb→eq s u h
    go false k h = absurd (both_ways (eqb (f s) (f u)) k (eq-eqb (f s) (f u) e))

pub nibble_suits : Suits nibble numbers
unfolding carryless remainder product power
nibble_suits = record {
  points_differ = λ s u a b e. told_apart (λ s. nibble.code (point nibble numbers s)) tt s u (omega arith) (omega arith) (ap nibble.code e);
  mus_differ = λ s u a b e. told_apart (λ s. nibble.code (mu nibble numbers s)) tt s u (omega arith) (omega arith) (ap nibble.code e);
}

-- S, T and Z of the example: b(s) = (1, p³) and c(s) = p
abbrev unit_at : ℕ → ℕ → ℕ → Residue 4
unit_at a i j = cond (eqb i a && eqb j a) nibble.one nibble.zero

abbrev S : ℕ → ℕ → Residue 4
S = unit_at 0

abbrev T₁ : ℕ → ℕ → Residue 4
T₁ = unit_at 1

abbrev Z : ℕ → ℕ → Residue 4
Z i q = cond (eqb i 1) nibble.one nibble.zero

abbrev first_of : ℕ → ℕ → Residue 4
first_of s j = nibble.add (phi_times nibble numbers s S j) (nibble.mul (mu nibble numbers s) (phi_times nibble numbers s T₁ j))

abbrev second_of : ℕ → ℕ → Residue 4
second_of s q = dot nibble 2 (powers nibble numbers s) (λ i. Z i q)

abbrev figure : ℕ → ℕ → ℕ → Residue 4
figure s zero q = first_of s 0
figure s (suc zero) q = first_of s 1
figure s (suc (suc j)) q = second_of s j

symmetric : (a i j : ℕ) → unit_at a i j ≡ unit_at a j i
symmetric a i j = ap (λ b. cond b nibble.one nibble.zero) (swap (eqb i a) (eqb j a))
  where
    swap : (x y : Bool) → (x && y) ≡ (y && x)
    swap true true = refl
    swap true false = refl
    swap false true = refl
    swap false false = refl

figure_lawful : (q : ℕ) → Lawful nibble numbers (λ s j. figure s j q)
figure_lawful q = record {
  S = S;
  T = T₁;
  Z = Z;
  s_symmetric = λ i j l m. symmetric 0 i j;
  t_symmetric = λ i j l m. symmetric 1 i j;
  first_part = λ s j real l. first_row s j l;
  second_part = λ s c real l. second_row s c l;
  virtual_zero = λ s j v l. absurd (omega arith);
}
  where
    first_row : (s j : ℕ) → j < 2 → figure s j q ≡ first_of s j
    first_row s zero l = refl
    first_row s (suc zero) l = refl
    first_row s (suc (suc j)) l = absurd (omega arith)

    second_row : (s c : ℕ) → c < 1 → figure s (2 + c) q ≡ second_of s c
    second_row s zero l = refl
    second_row s (suc c) l = absurd (omega arith)

figure_lists : Lists nibble numbers original figure
unfolding carryless remainder product power sum
figure_lists = (λ q l. figure_lawful q, λ q l i j a b c. holds q i j l a b c)
  where
    here : (x y : Residue 4) → x.code ≡ y.code → x ≡ y
    here x y e = same_code 4 x y e

    holds : (q i j : ℕ) → q < 1 → i < 3 → j < 3 → i * 3 + j < 8 → figure (0 + suc i) j q ≡ symbols nibble numbers original (i * 3 + j) q
    holds zero zero zero l a b c = here _ _ refl
    holds zero zero (suc zero) l a b c = here _ _ refl
    holds zero zero (suc (suc zero)) l a b c = here _ _ refl
    holds zero zero (suc (suc (suc j))) l a b c = absurd (omega arith)
    holds zero (suc zero) zero l a b c = here _ _ refl
    holds zero (suc zero) (suc zero) l a b c = here _ _ refl
    holds zero (suc zero) (suc (suc zero)) l a b c = here _ _ refl
    holds zero (suc zero) (suc (suc (suc j))) l a b c = absurd (omega arith)
    holds zero (suc (suc zero)) zero l a b c = here _ _ refl
    holds zero (suc (suc zero)) (suc zero) l a b c = here _ _ refl
    holds zero (suc (suc zero)) (suc (suc j)) l a b c = absurd (omega arith)
    holds zero (suc (suc (suc i))) j l a b c = absurd (omega arith)
    holds (suc q) i j l a b c = absurd (omega arith)

-- every choice of lawful lists gives these rows and segments
rows_are : (code : Encoder nibble numbers) (i : ℕ) → Box numbers i → lawful_rows nibble numbers code original i ≡ block_rows nibble numbers figure i
rows_are code i box = same_rows nibble_laws numbers nibble_suits original (code.blocks original) figure (code.lists original) figure_lists i box

segments_are : (code : Encoder nibble numbers) (i j : ℕ) → Box numbers i → segment_codes nibble numbers (code.blocks original) i j ≡ segment_codes nibble numbers figure i j
segments_are code i j box = same_segment nibble_laws numbers nibble_suits original (code.blocks original) figure (code.lists original) figure_lists i j box

first_session : (code : Encoder nibble numbers) (shelf : Model) → replies nibble numbers code (made shelf) session ≡ session_replies
unfolding carryless remainder product power sum
first_session code shelf =
    ap (λ rows. done ∷ told (joined rows) ∷ done ∷ denied (Dead 1) ∷ told original ∷ denied (Repair 0) ∷ []) (rows_are code 4 (lit≤ tt, lit≤ tt))

repair_session : (code : Encoder nibble numbers) (shelf : Model)
    → replies nibble numbers code (made shelf) (before_repair ++ segments_sent ++ settled) ≡ each_done (before_repair ++ segments_sent) ++ settled_replies
unfolding carryless remainder product power sum
repair_session code shelf =
    ap₂ (λ one two. each_done (before_repair ++ segments_sent) ++ counted 4 1 ∷ counted 4 1 ∷ told (joined one) ∷ told (joined two) ∷ told original ∷ done ∷ [])
    (rows_are code 1 (lit≤ tt, lit≤ tt)) (rows_are code 2 (lit≤ tt, lit≤ tt))

pub sessions : Sessions
unfolding carryless remainder product power sum squares inverse
sessions = record {
  suits = nibble_suits;
  some = (one_encoder nibble_laws numbers nibble_suits).0;
  first = first_session;
  repair = repair_session;
  segments = λ code shelf. record {
    to_box_1 = (segments_are code 3 1 (lit≤ tt, lit≤ tt), segments_are code 4 1 (lit≤ tt, lit≤ tt), segments_are code 5 1 (lit≤ tt, lit≤ tt), segments_are code 6 1 (lit≤ tt, lit≤ tt));
    to_box_2 = (segments_are code 3 2 (lit≤ tt, lit≤ tt), segments_are code 4 2 (lit≤ tt, lit≤ tt), segments_are code 5 2 (lit≤ tt, lit≤ tt), segments_are code 6 2 (lit≤ tt, lit≤ tt));
    passed = (segments_are code 2 1 (lit≤ tt, lit≤ tt), segments_are code 1 2 (lit≤ tt, lit≤ tt));
  };
}

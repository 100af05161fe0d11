-- The figures: explicit matrices give a lawful list for the data, so by uniqueness every lawful list shows its symbols.
use Rattle.std.proofs.Common.{◌≡◌, ℕ, zero, suc, ◌+◌, ◌-◌, ◌*◌, ◌<◌, Bool, true, false, cond, T, eqb, ltb, List, [], ◌∷◌, get_or, sym, refl, ap, ◌∙◌, subst, ap₂, arith, lit<, eqb→eq, le-ltb, lt-ltb}
use lib.Dec.{eqb_refl}
use Rattle.field.specs.Laws.{Ops, Laws}
use Rattle.field.specs.Polynomials.{carryless, remainder, product, squares, inverse}
use Rattle.field.specs.Figures.{nibble, byte}
use Rattle.field.specs.Computed.{every, at}
use Rattle.field.specs.Moduli.{nibble_laws, byte_laws}
use Rattle.algebra.specs.Poly.{sum, power}
use Rattle.algebra.proofs.Sum.{sum_cong}
use Rattle.beehive.specs.declared.numbers.Numbers.{Numbers}
use Rattle.beehive.specs.Numbers.{alpha, tail, beta, boxes, virtuals, data_rows, tail_length, Box, Virtual, node}
use Rattle.beehive.specs.Points.{dot, powers, mu, MusDiffer, Suits}
use Rattle.beehive.specs.Rule.{Symmetric, Lawful, Holds, SameBlocks, segment}
use Rattle.beehive.specs.Matrices.{from_matrices}
use Rattle.beehive.specs.Figures.{six_boxes, five_boxes, eight_rows, five_rows, LawfulList, Shows, Sends, Figures}
use Rattle.beehive.proofs.Fitting.{suited}
use Rattle.beehive.proofs.Exists.{one_list}

-- a property of each number below 2, and below 3
below_2 : (P : ℕ → Type 0) → P 0 → P 1 → (j : ℕ) → j < 2 → P j
below_2 P a b zero h = a
below_2 P a b (suc zero) h = b
below_2 P a b (suc (suc j)) h = absurd (omega arith)

below_3 : (P : ℕ → Type 0) → P 0 → P 1 → P 2 → (j : ℕ) → j < 3 → P j
below_3 P a b c zero h = a
below_3 P a b c (suc zero) h = b
below_3 P a b c (suc (suc zero)) h = c
below_3 P a b c (suc (suc (suc j))) h = absurd (omega arith)

cond_true : {A : Type 0} (b : Bool) (x y : A) → b ≡ true → cond b x y ≡ x
cond_true b x y e = ap (λ c. cond c x y) e

cond_false : {A : Type 0} (b : Bool) (x y : A) → b ≡ false → cond b x y ≡ y
cond_false b x y e = ap (λ c. cond c x y) e

module _ {E : Type 0} {F : Ops E} (L : Laws F) where
  by_code : (x y : E) → F.code x ≡ F.code y → x ≡ y
  by_code x y e = sym (L.element_code x) ∙ ap F.element e ∙ L.element_code y

  module _ (N : Numbers) where
    -- blocks from symmetric matrices, zero at the virtual nodes, are lawful
    matrices_lawful : (S T Z : ℕ → ℕ → E) → Symmetric (alpha N) S → Symmetric (alpha N) T
        → ((s j : ℕ) → Virtual N s → j < beta N → from_matrices F N S T Z s j ≡ F.zero) → Lawful F N (from_matrices F N S T Z)
    matrices_lawful S T' Z hs ht hv = record {
      S = S;
      T = T';
      Z = Z;
      s_symmetric = hs;
      t_symmetric = ht;
      first_part = λ s j there h. cond_true (ltb j (alpha N)) _ _ (lt-ltb j (alpha N) h);
      second_part = λ s q there h.
          cond_false (ltb (alpha N + q) (alpha N)) _ _ (le-ltb (alpha N + q) (alpha N) (omega arith))
          ∙ ap (λ (k : ℕ). dot F (tail_length N) (powers F N s) (λ i. Z i k)) (past q);
      virtual_zero = hv;
    }
      where
        past : (q : ℕ) → (alpha N + q) - alpha N ≡ q
        past q = omega arith

    -- lists with the same blocks send the same segments
    segment_same : (a b : ℕ → ℕ → E) → SameBlocks F N a b → (i j : ℕ) → Box N i → segment F N a (node N i) j ≡ segment F N b (node N i) j
    segment_same a b same i j box =
        ap₂ (λ u v. F.add u (F.mul (F.inv (F.add (mu F N (node N i)) (mu F N j))) v))
        (sum_cong F (tail N) _ _ (λ q h. ap (F.mul (powers F N j q)) (same i (alpha N + q) box (omega arith))))
        (sum_cong F (alpha N) _ _ (λ k h. ap (F.mul (powers F N j k)) (same i k box (omega arith))))

    -- all μ differ, by one test over their codes
    apart_at : ℕ → ℕ → Bool
    apart_at s u = cond (eqb (F.code (mu F N s)) (F.code (mu F N u))) (eqb s u) true

    abbrev all_apart : Bool
    all_apart = every (λ s. every (apart_at s) 0 (suc (virtuals N + boxes N))) 0 (suc (virtuals N + boxes N))

    implied : (a b : Bool) → T (cond a b true) → T a → T b
    implied true b t h = t
    implied false b t h = absurd h

    mus : T all_apart → MusDiffer F N
    unfolding apart_at
    mus t s u hs hu e =
        let n = suc (virtuals N + boxes N) in
        eqb→eq s u (implied (eqb (F.code (mu F N s)) (F.code (mu F N u))) (eqb s u)
        (at (apart_at s) n (at (λ s. every (apart_at s) 0 n) n t s (omega arith)) u (omega arith))
        (subst (λ (x : ℕ). T (eqb (F.code (mu F N s)) x)) (ap F.code e) (eqb_refl (F.code (mu F N s)))))

    -- what the list from the matrices shows, every lawful list for its data shows
    module _ (suits : Suits F N) (codes : List ℕ) (known : ℕ → ℕ → E) (lawful : Lawful F N known) (holds : Holds F N known (λ r. F.element (get_or codes r 0))) where
      same : (blocks : ℕ → ℕ → E) → Lawful F N blocks → Holds F N blocks (λ r. F.element (get_or codes r 0)) → SameBlocks F N blocks known
      same blocks l h = (one_list L N suits (λ r. F.element (get_or codes r 0))).1 blocks known l h lawful holds

      shows : (i : ℕ) → Box N i → (shown : List ℕ) → Shows F N known i shown → LawfulList F N codes (λ b. Shows F N b i shown)
      shows i box shown e blocks l h j lt = ap F.code (same blocks l h i j box lt) ∙ e j lt

      sends : (i j c : ℕ) → Box N i → Sends F N known i j c → LawfulList F N codes (λ b. Sends F N b i j c)
      sends i j c box e blocks l h = ap F.code (segment_same blocks known (same blocks l h) i (node N j) box) ∙ e

-- a matrix of two columns, by codes row after row
abbrev wide : {E : Type 0} → Ops E → List ℕ → ℕ → ℕ → E
wide F codes i j = F.element (get_or codes (i * 2 + j) 0)

abbrev tall : {E : Type 0} → Ops E → List ℕ → ℕ → ℕ → E
tall F codes i j = F.element (get_or codes i 0)

symmetric_2 : {E : Type 0} (A : ℕ → ℕ → E) → A 0 1 ≡ A 1 0 → Symmetric 2 A
symmetric_2 A e i j hi hj =
    below_2 (λ i. A i j ≡ A j i) (below_2 (λ j. A 0 j ≡ A j 0) refl e j hj) (below_2 (λ j. A 1 j ≡ A j 1) (sym e) refl j hj) i hi

-- S, T and Z of the six boxes, and of the five
abbrev of_six : {E : Type 0} → Ops E → ℕ → ℕ → E
of_six F = from_matrices F six_boxes (wide F (1 ∷ 0 ∷ 0 ∷ 0 ∷ [])) (wide F (0 ∷ 0 ∷ 0 ∷ 1 ∷ [])) (tall F (0 ∷ 1 ∷ []))

abbrev of_five : {E : Type 0} → Ops E → ℕ → ℕ → E
of_five F = from_matrices F five_boxes (wide F (1 ∷ 1 ∷ 1 ∷ 0 ∷ [])) (wide F (0 ∷ 0 ∷ 0 ∷ 1 ∷ [])) (tall F (1 ∷ 1 ∷ []))

six_lawful : {E : Type 0} {F : Ops E} (L : Laws F) → Lawful F six_boxes (of_six F)
six_lawful {F} L =
    matrices_lawful L six_boxes (wide F (1 ∷ 0 ∷ 0 ∷ 0 ∷ [])) (wide F (0 ∷ 0 ∷ 0 ∷ 1 ∷ [])) (tall F (0 ∷ 1 ∷ []))
    (symmetric_2 (wide F (1 ∷ 0 ∷ 0 ∷ 0 ∷ [])) refl) (symmetric_2 (wide F (0 ∷ 0 ∷ 0 ∷ 1 ∷ [])) refl) (λ s j there h. absurd (omega (arith, there.0, there.1)))

-- a computed equation of elements, by their codes
abbrev nib : (x y : _) → nibble.code x ≡ nibble.code y → x ≡ y
nib = by_code nibble_laws

nibble_holds : Holds nibble six_boxes (of_six nibble) (λ r. nibble.element (get_or eight_rows r 0))
unfolding sum power carryless remainder product
nibble_holds i j hi hj hb =
    below_3 (λ i. (j : ℕ) → j < 3 → i * beta six_boxes + j < data_rows six_boxes
    → of_six nibble (node six_boxes (suc i)) j ≡ nibble.element (get_or eight_rows (i * beta six_boxes + j) 0))
    (below_3 _ (λ h. nib _ _ refl) (λ h. nib _ _ refl) (λ h. nib _ _ refl))
    (below_3 _ (λ h. nib _ _ refl) (λ h. nib _ _ refl) (λ h. nib _ _ refl))
    (below_3 _ (λ h. nib _ _ refl) (λ h. nib _ _ refl) (λ h. absurd (omega (arith, h))))
    i hi j hj hb

byte_holds : Holds byte six_boxes (of_six byte) (λ r. byte.element (get_or eight_rows r 0))
unfolding sum power carryless remainder product
byte_holds i j hi hj hb =
    below_3 (λ i. (j : ℕ) → j < 3 → i * beta six_boxes + j < data_rows six_boxes
    → of_six byte (node six_boxes (suc i)) j ≡ byte.element (get_or eight_rows (i * beta six_boxes + j) 0))
    (below_3 _ (λ h. by_code byte_laws _ _ refl) (λ h. by_code byte_laws _ _ refl) (λ h. by_code byte_laws _ _ refl))
    (below_3 _ (λ h. by_code byte_laws _ _ refl) (λ h. by_code byte_laws _ _ refl) (λ h. by_code byte_laws _ _ refl))
    (below_3 _ (λ h. by_code byte_laws _ _ refl) (λ h. by_code byte_laws _ _ refl) (λ h. absurd (omega (arith, h))))
    i hi j hj hb

five_holds : Holds nibble five_boxes (of_five nibble) (λ r. nibble.element (get_or five_rows r 0))
unfolding sum power carryless remainder product
five_holds i j hi hj hb =
    below_2 (λ i. (j : ℕ) → j < 3 → i * beta five_boxes + j < data_rows five_boxes
    → of_five nibble (node five_boxes (suc i)) j ≡ nibble.element (get_or five_rows (i * beta five_boxes + j) 0))
    (below_3 _ (λ h. nib _ _ refl) (λ h. nib _ _ refl) (λ h. nib _ _ refl))
    (below_3 _ (λ h. nib _ _ refl) (λ h. nib _ _ refl) (λ h. absurd (omega (arith, h))))
    i hi j hj hb

five_lawful : Lawful nibble five_boxes (of_five nibble)
unfolding sum power carryless remainder product
five_lawful =
    matrices_lawful nibble_laws five_boxes (wide nibble (1 ∷ 1 ∷ 1 ∷ 0 ∷ [])) (wide nibble (0 ∷ 0 ∷ 0 ∷ 1 ∷ [])) (tall nibble (1 ∷ 1 ∷ []))
    (symmetric_2 (wide nibble (1 ∷ 1 ∷ 1 ∷ 0 ∷ [])) refl) (symmetric_2 (wide nibble (0 ∷ 0 ∷ 0 ∷ 1 ∷ [])) refl) zeros
  where
    zeros : (s j : ℕ) → Virtual five_boxes s → j < 3 → of_five nibble s j ≡ nibble.zero
    zeros zero j there h = absurd (omega (arith, there.0))
    zeros (suc zero) j there h = below_3 (λ j. of_five nibble 1 j ≡ nibble.zero) (nib _ _ refl) (nib _ _ refl) (nib _ _ refl) j h
    zeros (suc (suc s)) j there h = absurd (omega (arith, there.1))

six_suits : Suits nibble six_boxes
unfolding power carryless remainder product apart_at
six_suits = suited nibble_laws six_boxes (lit< tt) (mus nibble_laws six_boxes tt)

six_suits_byte : Suits byte six_boxes
unfolding power carryless remainder product apart_at
six_suits_byte = suited byte_laws six_boxes (lit< tt) (mus byte_laws six_boxes tt)

five_suits : Suits nibble five_boxes
unfolding power carryless remainder product apart_at
five_suits = suited nibble_laws five_boxes (lit< tt) (mus nibble_laws five_boxes tt)

-- a block of three rows
three : {E : Type 0} (F : Ops E) (N : Numbers) → beta N ≡ 3 → (b : ℕ → ℕ → E) (i x y z : ℕ)
    → F.code (b (node N i) 0) ≡ x → F.code (b (node N i) 1) ≡ y → F.code (b (node N i) 2) ≡ z → Shows F N b i (x ∷ y ∷ z ∷ [])
three F N e b i x y z p q r j h = below_3 (λ j. F.code (b (node N i) j) ≡ get_or (x ∷ y ∷ z ∷ []) j 0) p q r j (subst (λ (n : ℕ). j < n) e h)

pub figures : Figures
unfolding sum power carryless remainder product squares inverse
figures = record {
  nibble_blocks = λ b l h. (
    nibble_shows 3 1 15 3 (omega arith, omega arith) refl refl refl b l h,
    nibble_shows 4 1 12 4 (omega arith, omega arith) refl refl refl b l h,
    nibble_shows 5 1 10 5 (omega arith, omega arith) refl refl refl b l h,
    nibble_shows 6 1 1 6 (omega arith, omega arith) refl refl refl b l h,
  );
  byte_blocks = λ b l h. (
    byte_shows 4 1 64 4 (omega arith, omega arith) refl refl refl b l h,
    byte_shows 5 1 85 5 (omega arith, omega arith) refl refl refl b l h,
    byte_shows 6 1 120 6 (omega arith, omega arith) refl refl refl b l h,
  );
  box_1_gets = λ b l h. (
    sent 3 1 9 (omega arith, omega arith) refl b l h,
    sent 4 1 11 (omega arith, omega arith) refl b l h,
    sent 5 1 13 (omega arith, omega arith) refl b l h,
    sent 6 1 6 (omega arith, omega arith) refl b l h,
  );
  box_2_gets = λ b l h. (
    sent 3 2 15 (omega arith, omega arith) refl b l h,
    sent 4 2 13 (omega arith, omega arith) refl b l h,
    sent 5 2 4 (omega arith, omega arith) refl b l h,
    sent 6 2 7 (omega arith, omega arith) refl b l h,
  );
  passes = λ b l h. (sent 2 1 14 (omega arith, omega arith) refl b l h, sent 1 2 15 (omega arith, omega arith) refl b l h);
  with_a_virtual_node = λ b l h. (
    five_shows 3 5 13 5 (omega arith, omega arith) refl refl refl b l h,
    five_shows 4 4 11 4 (omega arith, omega arith) refl refl refl b l h,
    five_shows 5 7 0 7 (omega arith, omega arith) refl refl refl b l h,
  );
}
  where
    sent : (i j c : ℕ) → Box six_boxes i → Sends nibble six_boxes (of_six nibble) i j c → LawfulList nibble six_boxes eight_rows (λ b. Sends nibble six_boxes b i j c)
    sent = sends nibble_laws six_boxes six_suits eight_rows (of_six nibble) (six_lawful nibble_laws) nibble_holds

    nibble_shows : (i x y z : ℕ) → Box six_boxes i
        → nibble.code (of_six nibble (node six_boxes i) 0) ≡ x → nibble.code (of_six nibble (node six_boxes i) 1) ≡ y → nibble.code (of_six nibble (node six_boxes i) 2) ≡ z
        → LawfulList nibble six_boxes eight_rows (λ b. Shows nibble six_boxes b i (x ∷ y ∷ z ∷ []))
    nibble_shows i x y z box p q r =
        shows nibble_laws six_boxes six_suits eight_rows (of_six nibble) (six_lawful nibble_laws) nibble_holds i box (x ∷ y ∷ z ∷ [])
        (three nibble six_boxes refl (of_six nibble) i x y z p q r)

    byte_shows : (i x y z : ℕ) → Box six_boxes i
        → byte.code (of_six byte (node six_boxes i) 0) ≡ x → byte.code (of_six byte (node six_boxes i) 1) ≡ y → byte.code (of_six byte (node six_boxes i) 2) ≡ z
        → LawfulList byte six_boxes eight_rows (λ b. Shows byte six_boxes b i (x ∷ y ∷ z ∷ []))
    byte_shows i x y z box p q r =
        shows byte_laws six_boxes six_suits_byte eight_rows (of_six byte) (six_lawful byte_laws) byte_holds i box (x ∷ y ∷ z ∷ [])
        (three byte six_boxes refl (of_six byte) i x y z p q r)

    five_shows : (i x y z : ℕ) → Box five_boxes i
        → nibble.code (of_five nibble (node five_boxes i) 0) ≡ x → nibble.code (of_five nibble (node five_boxes i) 1) ≡ y → nibble.code (of_five nibble (node five_boxes i) 2) ≡ z
        → LawfulList nibble five_boxes five_rows (λ b. Shows nibble five_boxes b i (x ∷ y ∷ z ∷ []))
    five_shows i x y z box p q r =
        shows nibble_laws five_boxes five_suits five_rows (of_five nibble) five_lawful five_holds i box (x ∷ y ∷ z ∷ [])
        (three nibble five_boxes refl (of_five nibble) i x y z p q r)

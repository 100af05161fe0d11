-- Symbols of whole bytes.
use Rattle.std.proofs.Common.{◌≡◌, ℕ, ◌+◌, ◌*◌, ◌%◌, ◌^◌, ◌<◌, List, length, get_or, set, sym, ap, ◌∙◌, mod-eq_of_lt, arith, length-set, get_or-set_other, get_or-set_same}
use Rattle.shelf.specs.Bits.{bit_at, gather, symbol_at}
use Rattle.shelf.specs.Stored.{Written}
use Rattle.shelf.proofs.Gathers.{gather_split, gather_byte}
use Rattle.shelf.proofs.Packing.{symbol_below}
use Rattle.shelf.proofs.Writes.{written_more}

pub byte_symbol : (bytes : List ℕ) (p : ℕ) → symbol_at bytes 8 p ≡ get_or bytes p 0 % 256
byte_symbol bytes p = let e : p * 8 ≡ 8 * p = omega arith in ap (λ k. gather (bit_at bytes) k 8) e ∙ gather_byte bytes p

pub pair_symbol : (bytes : List ℕ) (p : ℕ) → symbol_at bytes 16 p ≡ (get_or bytes (2 * p) 0 % 256) * 256 + get_or bytes (2 * p + 1) 0 % 256
pair_symbol bytes p =
    let f = bit_at bytes in
    let e : p * 16 ≡ 8 * (2 * p) = omega arith in
    let g : 8 * (2 * p) + 8 ≡ 8 * (2 * p + 1) = omega arith in
    let a = gather_split f (8 * (2 * p)) 8 8 in
    let b = gather_byte bytes (2 * p) in
    let c : gather f (8 * (2 * p) + 8) 8 ≡ get_or bytes (2 * p + 1) 0 % 256 = ap (λ k. gather f k 8) g ∙ gather_byte bytes (2 * p + 1) in
    ap (λ k. gather f k 16) e ∙ a ∙ ap (λ x. x * 256 + gather f (8 * (2 * p) + 8) 8) b ∙ ap (λ x. (get_or bytes (2 * p) 0 % 256) * 256 + x) c

-- What is read of bytes.
pub byte_read : (bytes : List ℕ) (p : ℕ) → get_or bytes p 0 < 256 → get_or bytes p 0 ≡ symbol_at bytes 8 p % 2 ^ 8
byte_read bytes p h = sym (mod-eq_of_lt h) ∙ sym (byte_symbol bytes p) ∙ sym (mod-eq_of_lt (symbol_below bytes 8 p))

pub pair_read : (bytes : List ℕ) (p : ℕ) → get_or bytes (2 * p) 0 < 256 → get_or bytes (2 * p + 1) 0 < 256
    → get_or bytes (2 * p) 0 * 256 + get_or bytes (2 * p + 1) 0 ≡ symbol_at bytes 16 p % 2 ^ 16
pair_read bytes p h i =
    let e : get_or bytes (2 * p) 0 * 256 + get_or bytes (2 * p + 1) 0 ≡ (get_or bytes (2 * p) 0 % 256) * 256 + get_or bytes (2 * p + 1) 0 % 256 = omega arith in
    e ∙ sym (pair_symbol bytes p) ∙ sym (mod-eq_of_lt (symbol_below bytes 16 p))

pub byte_more : (old now : List ℕ) (start n x : ℕ) (v : ℕ → ℕ) → Written (symbol_at old 8) (symbol_at now 8) start n v
    → start + n < length now → x < 256 → x ≡ v n → Written (symbol_at old 8) (symbol_at (set now (start + n) x) 8) start (n + 1) v
byte_more old now start n x v w h l e =
    let new = set now (start + n) x in
    written_more (symbol_at old 8) (symbol_at now 8) (symbol_at new 8) start n v w
    (byte_symbol new (start + n) ∙ ap (λ t. t % 256) (get_or-set_same now (start + n) x 0 h) ∙ mod-eq_of_lt l ∙ e)
    (λ q o. byte_symbol new q ∙ ap (λ t. t % 256) (get_or-set_other now (start + n) q x 0 o) ∙ sym (byte_symbol now q))

pub pair_more : (old now : List ℕ) (start n a b : ℕ) (v : ℕ → ℕ) → Written (symbol_at old 16) (symbol_at now 16) start n v
    → 2 * (start + n) + 1 < length now → a < 256 → b < 256 → a * 256 + b ≡ v n
    → Written (symbol_at old 16) (symbol_at (set (set now (2 * (start + n)) a) (2 * (start + n) + 1) b) 16) start (n + 1) v
pair_more old now start n a b v w h i k e =
    let p = start + n in
    let one = set now (2 * p) a in
    let new = set one (2 * p + 1) b in
    let high : get_or new (2 * p) 0 ≡ a = get_or-set_other one (2 * p + 1) (2 * p) b 0 (λ q. omega arith) ∙ get_or-set_same now (2 * p) a 0 (omega arith) in
    let low : get_or new (2 * p + 1) 0 ≡ b = get_or-set_same one (2 * p + 1) b 0 (omega (arith, length-set now (2 * p) a)) in
    let both : (a % 256) * 256 + b % 256 ≡ a * 256 + b = omega arith in
    written_more (symbol_at old 16) (symbol_at now 16) (symbol_at new 16) start n v w
    (pair_symbol new p ∙ ap (λ t. (t % 256) * 256 + get_or new (2 * p + 1) 0 % 256) high ∙ ap (λ t. (a % 256) * 256 + t % 256) low ∙ both ∙ e)
    (λ q o. pair_symbol new q
    ∙ ap (λ t. (t % 256) * 256 + get_or new (2 * q + 1) 0 % 256) (get_or-set_other one (2 * p + 1) (2 * q) b 0 (λ z. omega arith) ∙ get_or-set_other now (2 * p) (2 * q) a 0 (λ z. o (omega arith)))
    ∙ ap (λ t. (get_or now (2 * q) 0 % 256) * 256 + t % 256) (get_or-set_other one (2 * p + 1) (2 * q + 1) b 0 (λ z. o (omega arith)) ∙ get_or-set_other now (2 * p) (2 * q + 1) a 0 (λ z. omega arith))
    ∙ sym (pair_symbol now q))

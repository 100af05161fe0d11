-- Symbols that follow one another in bytes.
use Rattle.std.proofs.Common.{◌≡◌, ℕ, ◌+◌, ◌*◌, ◌/◌, ◌^◌, ◌<◌, ◌≤◌, leb, List, sym, ◌∙◌, inl, inr, mul-le-mul_right, div-mul-le_self, arith}
use Rattle.std.specs.Int.{div_ceil}
use Rattle.std.proofs.lemmas.Nat.{le-div, div_below}
use Rattle.std.proofs.lemmas.Bool.{cases_lt, le-leb, lt-leb}
use Rattle.shelf.specs.Bits.{bit_at, gather, symbol_at}
use Rattle.shelf.specs.Stored.{Written}
use Rattle.shelf.proofs.Gathers.{bit_below, gather_below, gather_cong}
use Rattle.shelf.proofs.Index.{apart_lines}
use Rattle.shelf.proofs.Writes.{written_more}

pub symbol_below : (bytes : List ℕ) (m p : ℕ) → symbol_at bytes m p < 2 ^ m
symbol_below bytes m p = gather_below (bit_at bytes) (p * m) m (bit_below bytes)

-- One more symbol, where only its bits changed.
pub symbols_more : (old now new : List ℕ) (m start n x : ℕ) (v : ℕ → ℕ) → Written (symbol_at old m) (symbol_at now m) start n v
    → gather (bit_at new) ((start + n) * m) m ≡ x
    → ((k : ℕ) → k < (start + n) * m → bit_at new k ≡ bit_at now k) → ((k : ℕ) → (start + n) * m + m ≤ k → bit_at new k ≡ bit_at now k)
    → x ≡ v n → Written (symbol_at old m) (symbol_at new m) start (n + 1) v
symbols_more old now new m start n x v w here below above e = written_more (symbol_at old m) (symbol_at now m) (symbol_at new m) start n v w (here ∙ e)
    (λ q o. gather_cong (bit_at now) (bit_at new) (q * m) m
    (λ i h. elim (apart_lines q (start + n) m o) [ inl t ↦ below (q * m + i) (omega arith) | inr t ↦ above (q * m + i) (omega arith) ]))

-- The symbols that there is room for lie within the memory.
pub room_in : (bits m n : ℕ) → n ≤ bits / m → n * m ≤ bits
room_in bits m n h = let l : n * m ≤ bits / m * m = mul-le-mul_right m h in omega (arith, div-mul-le_self bits m)

-- Bytes for n symbols are there where there is room for n symbols.
pub room_is : (n m len : ℕ) → 1 ≤ m → leb (div_ceil (n * m) 8) len ≡ leb n ((8 * len) / m)
room_is n m len h = elim (cases_lt (8 * len) (n * m)) [
  | inl l ↦ lt-leb (div_ceil (n * m) 8) len (omega arith) ∙ sym (lt-leb n ((8 * len) / m) (div_below (8 * len) m n h l))
  | inr l ↦ le-leb (div_ceil (n * m) 8) len (omega arith) ∙ sym (le-leb n ((8 * len) / m) (le-div n (8 * len) m h l))
]

-- Symbols of m bits that follow one another in bytes without gaps, the most significant bit first.
use Rattle.std.specs.Prelude.{ℕ, zero, suc, ◌+◌, ◌-◌, ◌*◌, ◌/◌, ◌%◌, ◌^◌, List, slice_index}

-- Bit k of a memory of bytes: bit 0 is the most significant of byte 0.
abbrev pub bit_at : List ℕ → ℕ → ℕ
bit_at bytes k = slice_index bytes (k / 8) / 2 ^ (7 - k % 8) % 2

-- The number whose m bits stand at k, k + 1 .., the most significant first.
unfoldable pub gather : (bit : ℕ → ℕ) → (k m : ℕ) → ℕ
gather bit k zero = 0
gather bit k (suc m) = 2 * gather bit k m + bit (k + m)

-- The symbol of m bits at place p.
abbrev pub symbol_at : List ℕ → (m p : ℕ) → ℕ
symbol_at bytes m p = gather (bit_at bytes) (p * m) m

-- Numbers read from bits: cut, joined, and read from bytes.
use Rattle.std.proofs.Common.{◌≡◌, ℕ, zero, suc, ◌+◌, ◌-◌, ◌*◌, ◌/◌, ◌%◌, ◌^◌, ◌<◌, ◌≤◌, List, get_or, sym, refl, ap, ◌∙◌, mul_assoc, mul_comm, div-one, add-one, arith}
use native.Mathlib.Nat.{pow-succ', mod-one}
use Rattle.std.proofs.lemmas.Nat.{shr-shr, shr_high, mod_low, mod_below, mod-pow-add}
use Rattle.shelf.specs.Bits.{bit_at, gather}

pub bit_below : (bytes : List ℕ) (k : ℕ) → bit_at bytes k < 2
bit_below bytes k = mod_below (get_or bytes (k / 8) 0 / 2 ^ (7 - k % 8)) 2 (omega arith)

pub gather_below : (bit : ℕ → ℕ) (k m : ℕ) → ((j : ℕ) → bit j < 2) → gather bit k m < 2 ^ m
unfolding gather
gather_below bit k zero h = omega arith
gather_below bit k (suc m) h = let r = gather_below bit k m h in let b = h (k + m) in omega (arith, pow-succ' 2 m)

pub gather_cong : (old new : ℕ → ℕ) (k m : ℕ) → ((i : ℕ) → i < m → new (k + i) ≡ old (k + i)) → gather new k m ≡ gather old k m
unfolding gather
gather_cong old new k zero h = refl
gather_cong old new k (suc m) h =
    let r = gather_cong old new k m (λ i l. h i (omega arith)) in
    let b = h m (omega arith) in cc

-- The first a bits, then the b after them.
pub gather_split : (bit : ℕ → ℕ) (k a b : ℕ) → gather bit k (a + b) ≡ gather bit k a * 2 ^ b + gather bit (k + a) b
unfolding gather
gather_split bit k a zero =
    let z : a + 0 ≡ a = omega arith in
    ap (gather bit k) z ∙ (omega arith)
gather_split bit k a (suc b) =
    let z : a + suc b ≡ suc (a + b) = omega arith in
    let y : k + (a + b) ≡ (k + a) + b = omega arith in
    let r = gather_split bit k a b in
    let x : bit (k + (a + b)) ≡ bit ((k + a) + b) = ap bit y in
    let w : gather bit k a * 2 ^ suc b ≡ 2 * (gather bit k a * 2 ^ b) =
    ap (λ t. gather bit k a * t) (pow-succ' 2 b) ∙ sym (mul_assoc (gather bit k a) 2 (2 ^ b)) ∙ ap (λ t. t * 2 ^ b) (mul_comm (gather bit k a) 2) ∙ mul_assoc 2 (gather bit k a) (2 ^ b) in
    ap (gather bit k) z ∙ (omega arith)

-- The m bits after the first o, with r bits behind them.
pub gather_part : (bit : ℕ → ℕ) (k o m r : ℕ) → ((j : ℕ) → bit j < 2) → gather bit (k + o) m ≡ gather bit k ((o + m) + r) / 2 ^ r % 2 ^ m
gather_part bit k o m r h =
    let front = gather bit k o in
    let mine = gather bit (k + o) m in
    let back = gather bit (k + (o + m)) r in
    let e : gather bit k ((o + m) + r) ≡ (front * 2 ^ m + mine) * 2 ^ r + back = gather_split bit k (o + m) r ∙ ap (λ t. t * 2 ^ r + back) (gather_split bit k o m) in
    sym (ap (λ t. t / 2 ^ r % 2 ^ m) e ∙ ap (λ t. t % 2 ^ m) (shr_high (front * 2 ^ m + mine) r back (gather_below bit (k + (o + m)) r h))
    ∙ mod_low front m mine (gather_below bit (k + o) m h))

gather_one : (bit : ℕ → ℕ) (k : ℕ) → gather bit k 1 ≡ bit k
unfolding gather
gather_one bit k = let z : k + 0 ≡ k = omega arith in omega (arith, ap bit z)

-- One bit of a number that is gathered from n.
pub bit_of : (bit : ℕ → ℕ) (k n j : ℕ) → ((i : ℕ) → bit i < 2) → j < n → bit (k + j) ≡ gather bit k n / 2 ^ ((n - 1) - j) % 2
bit_of bit k n j h l =
    let e : (j + 1) + ((n - 1) - j) ≡ n = omega arith in
    sym (gather_one bit (k + j)) ∙ gather_part bit k j 1 ((n - 1) - j) h ∙ ap (λ t. gather bit k t / 2 ^ ((n - 1) - j) % 2) e

-- Bits that are those of a number x of n bits gather to it.
gather_front : (bit : ℕ → ℕ) (k n x m : ℕ) → ((j : ℕ) → j < n → bit (k + j) ≡ x / 2 ^ ((n - 1) - j) % 2) → m ≤ n → gather bit k m ≡ x / 2 ^ (n - m) % 2 ^ m
unfolding gather
gather_front bit k n x zero h l = sym (mod-one (x / 2 ^ (n - 0)))
gather_front bit k n x (suc m) h l =
    let r = gather_front bit k n x m h (omega arith) in
    let b = h m (omega arith) in
    let e = (n - 1) - m in
    let z : n - suc m ≡ e = omega arith in
    let y : n - m ≡ e + 1 = omega arith in
    let s : x / 2 ^ (n - m) ≡ x / 2 ^ e / 2 = ap (λ t. x / 2 ^ t) y ∙ sym (shr-shr x e 1) in
    let u : x / 2 ^ (n - suc m) ≡ x / 2 ^ e = ap (λ t. x / 2 ^ t) z in
    let p : x / 2 ^ e % 2 ^ suc m ≡ (x / 2 ^ e / 2 % 2 ^ m) * 2 + x / 2 ^ e % 2 = ap (λ t. x / 2 ^ e % 2 ^ t) (sym (add-one m)) ∙ mod-pow-add (x / 2 ^ e) m 1 in
    let q : x / 2 ^ (n - m) % 2 ^ m ≡ x / 2 ^ e / 2 % 2 ^ m = ap (λ t. t % 2 ^ m) s in
    let v : x / 2 ^ (n - suc m) % 2 ^ suc m ≡ x / 2 ^ e % 2 ^ suc m = ap (λ t. t % 2 ^ suc m) u in
    omega arith

-- The eight bits of a byte.
pub gather_byte : (bytes : List ℕ) (i : ℕ) → gather (bit_at bytes) (8 * i) 8 ≡ get_or bytes i 0 % 256
gather_byte bytes i =
    gather_front (bit_at bytes) (8 * i) 8 (get_or bytes i 0) 8
    (λ j h. let q : (8 * i + j) / 8 ≡ i = omega arith in
    let r : 7 - (8 * i + j) % 8 ≡ 7 - j = omega arith in
    ap (λ t. get_or bytes t 0 / 2 ^ (7 - (8 * i + j) % 8) % 2) q ∙ ap (λ t. get_or bytes i 0 / 2 ^ t % 2) r)
    (omega arith)
    ∙ ap (λ t. t % 256) (div-one (get_or bytes i 0))

-- The 24 bits of three bytes, and a symbol within them.
use Rattle.std.proofs.Common.{◌≡◌, ℕ, ◌+◌, ◌-◌, ◌*◌, ◌/◌, ◌%◌, ◌^◌, ◌<◌, ◌≤◌, ◌⊎◌, List, length, get_or, set, sym, ap, ◌∙◌, subst, inl, inr, mod-eq_of_lt, mul_assoc, mul_comm, add-mul, add_comm, arith, length-set, get_or-set_other, get_or-set_same}
use native.Mathlib.Nat.{mul-add-div_right, mul-mod_left, add-mul-mod_self_right}
use Rattle.std.proofs.lemmas.Nat.{pow_pos, pow-add, shr-shr, shr_split, shr_high, shr_below, mod_low, mod_below, mul-add-lt, shl_whole}
use Rattle.std.proofs.lemmas.List.{get_or_past, set_past}
use Rattle.std.proofs.lemmas.Bool.{cases_lt}
use Rattle.shelf.specs.Bits.{bit_at, gather}
use Rattle.shelf.proofs.Gathers.{bit_below, gather_below, gather_split, gather_part, gather_byte, bit_of}

-- The number of 24 bits of three bytes.
abbrev pub joined : (x y z : ℕ) → ℕ
joined x y z = ((x % 256) * 256 + y % 256) * 256 + z % 256

joined_parts : (w : ℕ) → w < 2 ^ 24 → joined (w / 65536) (w / 256 % 256) (w % 256) ≡ w
joined_parts w h = let e : w / 256 / 256 ≡ w / 65536 = shr-shr w 8 8 in omega arith

joined_low : (x y z : ℕ) → y ≡ 0 → z ≡ 0 → joined x y z % 65536 ≡ 0
joined_low x y z e f =
    let t = x % 256 in
    let g : joined x y z ≡ t * 65536 = omega arith in
    ap (λ n. n % 65536) g ∙ mul-mod_left t 65536

pub window_is : (bytes : List ℕ) (i : ℕ) → gather (bit_at bytes) (8 * i) 24 ≡ joined (get_or bytes i 0) (get_or bytes (i + 1) 0) (get_or bytes (i + 2) 0)
window_is bytes i =
    let f = bit_at bytes in
    let p : 8 * i + 8 ≡ 8 * (i + 1) = omega arith in
    let q : 8 * i + 16 ≡ 8 * (i + 2) = omega arith in
    let a : gather f (8 * i) 24 ≡ gather f (8 * i) 16 * 256 + gather f (8 * i + 16) 8 = gather_split f (8 * i) 16 8 in
    let b : gather f (8 * i) 16 ≡ gather f (8 * i) 8 * 256 + gather f (8 * i + 8) 8 = gather_split f (8 * i) 8 8 in
    let c = gather_byte bytes i in
    let d : gather f (8 * i + 8) 8 ≡ get_or bytes (i + 1) 0 % 256 = ap (λ k. gather f k 8) p ∙ gather_byte bytes (i + 1) in
    let e : gather f (8 * i + 16) 8 ≡ get_or bytes (i + 2) 0 % 256 = ap (λ k. gather f k 8) q ∙ gather_byte bytes (i + 2) in
    omega arith

-- The m bits at s, in the window of the byte that s lies in.
pub symbol_in : (bytes : List ℕ) (m s : ℕ) → m ≤ 16 → gather (bit_at bytes) s m ≡ gather (bit_at bytes) (8 * (s / 8)) 24 / 2 ^ ((24 - s % 8) - m) % 2 ^ m
symbol_in bytes m s h =
    let r = (24 - s % 8) - m in
    let p : 8 * (s / 8) + s % 8 ≡ s = omega arith in
    let q : (s % 8 + m) + r ≡ 24 = omega arith in
    ap (λ k. gather (bit_at bytes) k m) (sym p) ∙ gather_part (bit_at bytes) (8 * (s / 8)) (s % 8) m r (bit_below bytes)
    ∙ ap (λ n. gather (bit_at bytes) (8 * (s / 8)) n / 2 ^ r % 2 ^ m) q

-- Bit e of a number depends only on its last n bits, where e is one of these.
low_bit : (a b n e : ℕ) → e < n → (a * 2 ^ n + b) / 2 ^ e % 2 ≡ b / 2 ^ e % 2
low_bit a b n e h =
    let d = (n - 1) - e in
    let z : (d + 1) + e ≡ n = omega arith in
    let p : a * 2 ^ n ≡ ((a * 2 ^ d) * 2) * 2 ^ e =
    ap (λ t. a * 2 ^ t) (sym z) ∙ ap (λ t. a * t) (pow-add 2 (d + 1) e ∙ ap (λ t. t * 2 ^ e) (pow-add 2 d 1))
    ∙ sym (mul_assoc a (2 ^ d * 2) (2 ^ e)) ∙ ap (λ t. t * 2 ^ e) (sym (mul_assoc a (2 ^ d) 2)) in
    ap (λ t. (t + b) / 2 ^ e % 2) p ∙ ap (λ t. t % 2) (mul-add-div_right (pow_pos e) ((a * 2 ^ d) * 2) b)
    ∙ (omega arith)

-- A window w with the m bits before its last r replaced by v.
abbrev pub replaced : (w m r v : ℕ) → ℕ
replaced w m r v = (w - (w / 2 ^ r % 2 ^ m) * 2 ^ r) + v * 2 ^ r

module _ (w m r v : ℕ) where
  abbrev front : ℕ
  front = w / 2 ^ r / 2 ^ m

  abbrev old : ℕ
  old = w / 2 ^ r % 2 ^ m

  abbrev back : ℕ
  back = w % 2 ^ r

  before : w ≡ (front * 2 ^ m + old) * 2 ^ r + back
  before = let a = shr_split w r in let b = ap (λ t. t * 2 ^ r) (shr_split (w / 2 ^ r) m) in omega arith

  after : replaced w m r v ≡ (front * 2 ^ m + v) * 2 ^ r + back
  after =
      let a = before in
      let b = add-mul (front * 2 ^ m) old (2 ^ r) in
      let c = add-mul (front * 2 ^ m) v (2 ^ r) in
      omega arith

  back_below : back < 2 ^ r
  back_below = mod_below w (2 ^ r) (pow_pos r)

  high : (x : ℕ) → x < 2 ^ m → ((front * 2 ^ m + x) * 2 ^ r + back) / 2 ^ (r + m) ≡ front
  high x h = sym (shr-shr ((front * 2 ^ m + x) * 2 ^ r + back) r m)
      ∙ ap (λ t. t / 2 ^ m) (shr_high (front * 2 ^ m + x) r back back_below) ∙ shr_high front m x h

  -- The m bits are v,
  pub replaced_here : v < 2 ^ m → replaced w m r v / 2 ^ r % 2 ^ m ≡ v
  replaced_here h = ap (λ t. t / 2 ^ r % 2 ^ m) after ∙ ap (λ t. t % 2 ^ m) (shr_high (front * 2 ^ m + v) r back back_below) ∙ mod_low front m v h

  -- those before them stay,
  pub replaced_before : (e : ℕ) → v < 2 ^ m → r + m ≤ e → replaced w m r v / 2 ^ e % 2 ≡ w / 2 ^ e % 2
  replaced_before e h l =
      let d = e - (r + m) in
      let z : (r + m) + d ≡ e = omega arith in
      let same : replaced w m r v / 2 ^ (r + m) ≡ w / 2 ^ (r + m) =
      ap (λ t. t / 2 ^ (r + m)) after ∙ high v h ∙ sym (ap (λ t. t / 2 ^ (r + m)) before ∙ high old (mod_below (w / 2 ^ r) (2 ^ m) (pow_pos m))) in
      ap (λ t. replaced w m r v / 2 ^ t % 2) (sym z) ∙ ap (λ t. t % 2) (sym (shr-shr (replaced w m r v) (r + m) d) ∙ ap (λ t. t / 2 ^ d) same ∙ shr-shr w (r + m) d)
      ∙ ap (λ t. w / 2 ^ t % 2) z

  -- and so do those behind them.
  pub replaced_behind : (e : ℕ) → e < r → replaced w m r v / 2 ^ e % 2 ≡ w / 2 ^ e % 2
  replaced_behind e l =
      ap (λ t. t / 2 ^ e % 2) after ∙ low_bit (front * 2 ^ m + v) back r e l
      ∙ sym (ap (λ t. t / 2 ^ e % 2) before ∙ low_bit (front * 2 ^ m + old) back r e l)

  pub replaced_low : (n : ℕ) → n ≤ r → replaced w m r v % 2 ^ n ≡ w % 2 ^ n
  replaced_low n l =
      let d = r - n in
      let z : d + n ≡ r = omega arith in
      let cut : (x : ℕ) → (x * 2 ^ r + back) % 2 ^ n ≡ back % 2 ^ n = λ x.
      ap (λ t. (x * 2 ^ t + back) % 2 ^ n) (sym z) ∙ ap (λ t. (x * t + back) % 2 ^ n) (pow-add 2 d n) ∙ ap (λ t. (t + back) % 2 ^ n) (sym (mul_assoc x (2 ^ d) (2 ^ n)))
      ∙ ap (λ t. t % 2 ^ n) (add_comm ((x * 2 ^ d) * 2 ^ n) back) ∙ add-mul-mod_self_right back (x * 2 ^ d) (2 ^ n) in
      ap (λ t. t % 2 ^ n) after ∙ cut (front * 2 ^ m + v) ∙ sym (ap (λ t. t % 2 ^ n) before ∙ cut (front * 2 ^ m + old))

  pub replaced_fits : (o : ℕ) → v < 2 ^ m → w < 2 ^ ((o + m) + r) → replaced w m r v < 2 ^ ((o + m) + r)
  replaced_fits o h l =
      let f : front < 2 ^ o = shr_below (w / 2 ^ r) o m (shr_below w (o + m) r l) in
      let a : front * 2 ^ m + v < 2 ^ m * 2 ^ o = mul-add-lt front (2 ^ m) v (2 ^ o) f h in
      let b : (front * 2 ^ m + v) * 2 ^ r + back < 2 ^ r * (2 ^ m * 2 ^ o) = mul-add-lt (front * 2 ^ m + v) (2 ^ r) back (2 ^ m * 2 ^ o) a back_below in
      let c : 2 ^ ((o + m) + r) ≡ 2 ^ r * (2 ^ m * 2 ^ o) = pow-add 2 (o + m) r ∙ mul_comm (2 ^ (o + m)) (2 ^ r) ∙ ap (λ t. 2 ^ r * t) (pow-add 2 o m ∙ mul_comm (2 ^ o) (2 ^ m)) in
      omega (arith, after)

-- Three bytes from i on, replaced by a window w.
abbrev pub with_window : List ℕ → (i w : ℕ) → List ℕ
with_window bytes i w = set (set (set bytes i (w / 65536)) (i + 1) (w / 256 % 256)) (i + 2) (w % 256)

-- What is written at j, if there is such a byte, or if it is 0 as past the end.
set_or_past : (xs : List ℕ) (j x : ℕ) → (length xs ≤ j → x ≡ 0) → get_or (set xs j x) j 0 ≡ x
set_or_past xs j x h = elim (cases_lt j (length xs)) [
  | inl l ↦ get_or-set_same xs j x 0 l
  | inr l ↦ ap (λ ys. get_or ys j 0) (set_past xs j x l) ∙ get_or_past xs j 0 l ∙ sym (h l)
]

module _ (bytes : List ℕ) (i w : ℕ) where
  abbrev one : List ℕ
  one = set bytes i (w / 65536)

  abbrev two : List ℕ
  two = set one (i + 1) (w / 256 % 256)

  pub with_window_is : i < length bytes → w < 2 ^ 24 → (length bytes ≤ i + 1 → w % 2 ^ 16 ≡ 0) → (length bytes ≤ i + 2 → w % 2 ^ 8 ≡ 0)
      → gather (bit_at (with_window bytes i w)) (8 * i) 24 ≡ w
  with_window_is h l p q =
      let new = with_window bytes i w in
      let n1 = length-set bytes i (w / 65536) in
      let n2 = length-set one (i + 1) (w / 256 % 256) in
      let a : get_or new i 0 ≡ w / 65536 =
      get_or-set_other two (i + 2) i (w % 256) 0 (λ e. omega arith) ∙ get_or-set_other one (i + 1) i (w / 256 % 256) 0 (λ e. omega arith) ∙ get_or-set_same bytes i (w / 65536) 0 h in
      let b : get_or new (i + 1) 0 ≡ w / 256 % 256 =
      get_or-set_other two (i + 2) (i + 1) (w % 256) 0 (λ e. omega arith) ∙ set_or_past one (i + 1) (w / 256 % 256) (λ k. let z = p (omega arith) in omega arith) in
      let c : get_or new (i + 2) 0 ≡ w % 256 = set_or_past two (i + 2) (w % 256) (λ k. q (omega arith)) in
      window_is new i
      ∙ ap (λ x. joined x (get_or new (i + 1) 0) (get_or new (i + 2) 0)) a ∙ ap (λ x. joined (w / 65536) x (get_or new (i + 2) 0)) b ∙ ap (λ x. joined (w / 65536) (w / 256 % 256) x) c
      ∙ joined_parts w l

  pub with_window_outside : (k : ℕ) → (k < 8 * i) ⊎ (8 * i + 24 ≤ k) → bit_at (with_window bytes i w) k ≡ bit_at bytes k
  with_window_outside k h =
      let n0 : k / 8 ≡ i → ⊥ = λ e. elim h [ inl l ↦ (omega arith) | inr l ↦ (omega arith) ] in
      let n1 : k / 8 ≡ i + 1 → ⊥ = λ e. elim h [ inl l ↦ (omega arith) | inr l ↦ (omega arith) ] in
      let n2 : k / 8 ≡ i + 2 → ⊥ = λ e. elim h [ inl l ↦ (omega arith) | inr l ↦ (omega arith) ] in
      ap (λ x. x / 2 ^ (7 - k % 8) % 2)
      (get_or-set_other two (i + 2) (k / 8) (w % 256) 0 n2 ∙ get_or-set_other one (i + 1) (k / 8) (w / 256 % 256) 0 n1 ∙ get_or-set_other bytes i (k / 8) (w / 65536) 0 n0)

-- A symbol v of m bits written at bit s.
module _ (bytes : List ℕ) (m s v : ℕ) (tall : m ≤ 16) (inside : s + m ≤ 8 * length bytes) (some : 1 ≤ m) (small : v < 2 ^ m) where
  abbrev i : ℕ
  i = s / 8

  abbrev r : ℕ
  r = (24 - s % 8) - m

  abbrev seen : ℕ
  seen = gather (bit_at bytes) (8 * (s / 8)) 24

  abbrev w : ℕ
  w = replaced seen m r v

  abbrev new : List ℕ
  new = with_window bytes i w

  all : (s % 8 + m) + r ≡ 24
  all = omega arith

  seen_below : seen < 2 ^ 24
  seen_below = gather_below (bit_at bytes) (8 * i) 24 (bit_below bytes)

  pub put_below : w < 2 ^ 24
  put_below = let f = replaced_fits seen m r v (s % 8) small in
      let P : ℕ → Type 0 = λ n. seen < 2 ^ n → w < 2 ^ n in
      subst P all f seen_below

  -- The bytes past the end stay zeros.
  past : (n : ℕ) → n ≤ r → seen % 2 ^ n ≡ 0 → w % 2 ^ n ≡ 0
  past n h e = replaced_low seen m r v n h ∙ e

  put_is : gather (bit_at new) (8 * i) 24 ≡ w
  put_is =
      let e = window_is bytes i in
      with_window_is bytes i w (omega arith) put_below
      (λ l. past 16 (omega arith) (ap (λ n. n % 65536) e ∙ joined_low (get_or bytes i 0) (get_or bytes (i + 1) 0) (get_or bytes (i + 2) 0) (get_or_past bytes (i + 1) 0 l) (get_or_past bytes (i + 2) 0 (omega arith))))
      (λ l. past 8 (omega arith) (let b = get_or_past bytes (i + 2) 0 l in omega arith))

  pub put_here : gather (bit_at new) s m ≡ v
  put_here = symbol_in new m s tall ∙ ap (λ x. x / 2 ^ r % 2 ^ m) put_is ∙ replaced_here seen m r v small

  -- A bit of the window, before and after.
  in_window : (xs : List ℕ) (k : ℕ) → 8 * i ≤ k → k < 8 * i + 24 → bit_at xs k ≡ gather (bit_at xs) (8 * i) 24 / 2 ^ (23 - (k - 8 * i)) % 2
  in_window xs k h l =
      let e : 8 * i + (k - 8 * i) ≡ k = omega arith in
      ap (bit_at xs) (sym e) ∙ bit_of (bit_at xs) (8 * i) 24 (k - 8 * i) (bit_below xs) (omega arith)

  same_bit : (k : ℕ) → 8 * i ≤ k → k < 8 * i + 24 → w / 2 ^ (23 - (k - 8 * i)) % 2 ≡ seen / 2 ^ (23 - (k - 8 * i)) % 2 → bit_at new k ≡ bit_at bytes k
  same_bit k h l e = in_window new k h l ∙ ap (λ x. x / 2 ^ (23 - (k - 8 * i)) % 2) put_is ∙ e ∙ sym (in_window bytes k h l)

  pub put_before : (k : ℕ) → k < s → bit_at new k ≡ bit_at bytes k
  put_before k h = elim (cases_lt k (8 * i)) [
    | inl l ↦ with_window_outside bytes i w k (inl l)
    | inr l ↦ same_bit k l (omega arith) (replaced_before seen m r v (23 - (k - 8 * i)) small (omega arith))
  ]

  pub put_behind : (k : ℕ) → s + m ≤ k → bit_at new k ≡ bit_at bytes k
  put_behind k h = elim (cases_lt k (8 * i + 24)) [
    | inl l ↦ same_bit k (omega arith) l (replaced_behind seen m r v (23 - (k - 8 * i)) (omega arith))
    | inr l ↦ with_window_outside bytes i w k (inr l)
  ]

-- The shifts of the code lose nothing.
pub old_le : (w m r : ℕ) → (w / 2 ^ r % 2 ^ m) * 2 ^ r ≤ w
old_le w m r = let a = before w m r 0 in let b = add-mul (w / 2 ^ r / 2 ^ m * 2 ^ m) (w / 2 ^ r % 2 ^ m) (2 ^ r) in omega arith

pub old_shifted : (w m r : ℕ) → w < 2 ^ 24 → ((w / 2 ^ r % 2 ^ m) * 2 ^ r) % 2 ^ 32 ≡ (w / 2 ^ r % 2 ^ m) * 2 ^ r
old_shifted w m r h = let l : (w / 2 ^ r % 2 ^ m) * 2 ^ r < 2 ^ 32 = omega (arith, old_le w m r) in mod-eq_of_lt l

pub new_shifted : (m r v : ℕ) → v < 2 ^ m → m + r ≤ 24 → (v * 2 ^ r) % 2 ^ 32 ≡ v * 2 ^ r
new_shifted m r v h l = shl_whole v m r 32 h (omega arith)

-- The pairs over a field have the laws, where nu is no y · y + y.
use Rattle.std.specs.Prelude.{◌≡◌, ℕ, zero as zeroℕ, suc, ◌+◌, ◌*◌, ◌/◌, ◌%◌, ◌^◌, ◌<◌, ◌⊎◌, ◌≢◌, refl}
use Rattle.std.proofs.Common.{sym, ◌∙◌, ap, ap₂, subst, inl, inr, mul-zero as mul_zeroℕ, mul_comm as mul_commℕ, add_comm as add_commℕ, add-zero as add_zeroℕ, arith, pow-add}
use Rattle.std.proofs.Math.Arith.{digits_lt}
use Rattle.std.proofs.Math.Pow.{high as high_digits, low as low_digits}
use Rattle.std.proofs.lemmas.Nat.{mod-pow-add}
use Rattle.field.specs.Laws.{Ops, Laws, NoRoot}
use Rattle.field.specs.declared.pair.Pair.{Pair}
use Rattle.field.specs.Pairs.{pair_of, norm, pairs}

abbrev pair_path : {E : Type 0} {a b c d : E} → a ≡ c → b ≡ d → pair_of a b ≡ pair_of c d
pair_path p q = ap₂ pair_of p q

module _ {E : Type 0} {B : Ops E} (l : Laws B) where
  open B use {add, mul, zero, one, inv, code, element, bits}

  add_left : (x y z : E) → add x (add y z) ≡ add y (add x z)
  add_left x y z = sym (l.add_assoc x y z) ∙ ap (λ u. add u z) (l.add_comm x y) ∙ l.add_assoc y x z

  mul_left : (x y z : E) → mul x (mul y z) ≡ mul y (mul x z)
  mul_left x y z = sym (l.mul_assoc x y z) ∙ ap (λ u. mul u z) (l.mul_comm x y) ∙ l.mul_assoc y x z

  add_mul : (x y z : E) → mul (add x y) z ≡ add (mul x z) (mul y z)
  add_mul x y z = l.mul_comm (add x y) z ∙ l.mul_add z x y ∙ ap₂ add (l.mul_comm z x) (l.mul_comm z y)

  zero_plus : (x : E) → add zero x ≡ x
  zero_plus x = l.add_comm zero x ∙ l.add_zero x

  mul-zero : (x : E) → mul x zero ≡ zero
  mul-zero x = ap (mul x) (sym (l.add_self zero)) ∙ l.mul_add x zero zero ∙ l.add_self (mul x zero)

  zero_times : (x : E) → mul zero x ≡ zero
  zero_times x = l.mul_comm zero x ∙ mul-zero x

  -- in characteristic two a sum is zero only of equals
  equal_of : (x y : E) → add x y ≡ zero → x ≡ y
  equal_of x y e =
      sym (l.add_zero x) ∙ ap (add x) (sym (l.add_self y)) ∙ sym (l.add_assoc x y y) ∙ ap (λ u. add u y) e ∙ zero_plus y

  is_zero : (x : E) → (x ≡ zero) ⊎ (x ≢ zero)
  is_zero x = go (code x) refl
    where
      go : (k : ℕ) → code x ≡ k → (x ≡ zero) ⊎ (x ≢ zero)
      go zeroℕ e = inl (sym (l.element_code x) ∙ ap element (e ∙ sym l.code_zero) ∙ l.element_code zero)
      go (suc k) e = inr (λ h. let z : suc k ≡ 0 = sym e ∙ ap code h ∙ l.code_zero in omega arith)

  module _ (nu : E) where
    low_assoc : (a b c d e f : E)
        → add (mul (add (mul a c) (mul nu (mul b d))) e) (mul nu (mul (add (add (mul a d) (mul b c)) (mul b d)) f))
        ≡ add (mul a (add (mul c e) (mul nu (mul d f)))) (mul nu (mul b (add (add (mul c f) (mul d e)) (mul d f))))
    low_assoc a b c d e f = simp (l.mul_add, add_mul, l.add_assoc, add_left, l.mul_assoc, mul_left)

    high_assoc : (a b c d e f : E)
        → add (add (mul (add (mul a c) (mul nu (mul b d))) f) (mul (add (add (mul a d) (mul b c)) (mul b d)) e))
        (mul (add (add (mul a d) (mul b c)) (mul b d)) f)
        ≡ add (add (mul a (add (add (mul c f) (mul d e)) (mul d f))) (mul b (add (mul c e) (mul nu (mul d f)))))
        (mul b (add (add (mul c f) (mul d e)) (mul d f)))
    high_assoc a b c d e f = simp (l.mul_add, add_mul, l.add_assoc, l.add_comm, add_left, l.mul_assoc, mul_left)

    low_add : (a b c d e f : E)
        → add (mul a (add c e)) (mul nu (mul b (add d f))) ≡ add (add (mul a c) (mul nu (mul b d))) (add (mul a e) (mul nu (mul b f)))
    low_add a b c d e f = simp (l.mul_add, l.add_assoc, add_left)

    high_add : (a b c d e f : E)
        → add (add (mul a (add d f)) (mul b (add c e))) (mul b (add d f))
        ≡ add (add (add (mul a d) (mul b c)) (mul b d)) (add (add (mul a f) (mul b e)) (mul b f))
    high_add a b c d e f = simp (l.mul_add, l.add_assoc, add_left)

    inverse_low : (a b k : E) → add (mul a (mul (add a b) k)) (mul nu (mul b (mul b k))) ≡ mul (norm B nu a b) k
    inverse_low a b k = simp (add_mul, l.mul_assoc)

    inverse_high : (a b k : E) → add (add (mul a (mul b k)) (mul b (mul (add a b) k))) (mul b (mul b k)) ≡ zero
    inverse_high a b k =
        let u = mul a (mul b k) in
        let v = mul b (mul b k) in
        ap (λ x. add (add u x) v) (ap (mul b) (add_mul a b k) ∙ l.mul_add b (mul a k) (mul b k) ∙ ap (λ x. add x v) (mul_left b a k))
        ∙ ap (λ x. add x v) (sym (l.add_assoc u u v) ∙ ap (λ x. add x v) (l.add_self u) ∙ zero_plus v) ∙ l.add_self v

    -- over i · i, a (a + b) = nu b b says that a i is a root
    root : (a b i : E) → mul a (add a b) ≡ mul nu (mul b b) → mul b i ≡ one → add (mul (mul a i) (mul a i)) (mul a i) ≡ nu
    root a b i e inverse =
        ap (add (mul (mul a i) (mul a i))) (sym (l.mul_one (mul a i)) ∙ ap (mul (mul a i)) (sym inverse))
        ∙ parts ∙ ap (λ x. mul x (mul i i)) e ∙ regroup
        ∙ ap₂ (λ x y. mul nu (mul x y)) inverse inverse ∙ ap (mul nu) (l.mul_one one) ∙ l.mul_one nu
      where
        parts : add (mul (mul a i) (mul a i)) (mul (mul a i) (mul b i)) ≡ mul (mul a (add a b)) (mul i i)
        parts = simp (l.mul_add, add_mul, l.mul_assoc, mul_left)

        regroup : mul (mul nu (mul b b)) (mul i i) ≡ mul nu (mul (mul b i) (mul b i))
        regroup = simp (l.mul_assoc, mul_left)

    norm_of_zero : norm B nu zero zero ≡ zero
    norm_of_zero = ap₂ add (zero_times (add zero zero)) (ap (mul nu) (zero_times zero) ∙ mul-zero nu) ∙ l.add_zero zero

    module _ (rootless : NoRoot B nu) where
      norm_some : (a b : E) → (pair_of a b ≢ pair_of zero zero) → norm B nu a b ≢ zero
      norm_some a b some e = not_high (λ hb. not_low hb (λ ha. some (pair_path ha hb)))
        where
          parted : mul a (add a b) ≡ mul nu (mul b b)
          parted = equal_of (mul a (add a b)) (mul nu (mul b b)) e

          not_high : (b ≢ zero) → ⊥
          not_high h = rootless (mul a (inv b)) (root a b (inv b) parted (l.mul_inv b h))

          square : b ≡ zero → mul a a ≡ zero
          square hb =
              ap (mul a) (sym (l.add_zero a) ∙ ap (add a) (sym hb)) ∙ parted
              ∙ ap (λ x. mul nu (mul b x)) hb ∙ ap (mul nu) (mul-zero b) ∙ mul-zero nu

          not_low : b ≡ zero → (a ≢ zero) → ⊥
          not_low hb h =
              h (sym (l.mul_one a) ∙ ap (mul a) (sym (l.mul_inv a h)) ∙ sym (l.mul_assoc a a (inv a)) ∙ ap (λ x. mul x (inv a)) (square hb) ∙ zero_times (inv a))

      pub norm_zero : (x : Pair E) → norm B nu x.low x.high ≡ zero → x ≡ pair_of zero zero
      norm_zero x e = both_zero (is_zero x.low) (is_zero x.high)
        where
          both_zero : ((x.low ≡ zero) ⊎ (x.low ≢ zero)) → ((x.high ≡ zero) ⊎ (x.high ≢ zero)) → x ≡ pair_of zero zero
          both_zero (inl p) (inl q) = pair_path p q
          both_zero (inl p) (inr q) = absurd (norm_some x.low x.high (λ e. q (ap (λ y. y.high) e)) e)
          both_zero (inr p) u = absurd (norm_some x.low x.high (λ e. p (ap (λ y. y.low) e)) e)

      pub norm_apart : (x : Pair E) → (norm B nu x.low x.high ≢ zero) → x ≢ pair_of zero zero
      norm_apart x some e = some (ap₂ (norm B nu) (ap (λ y. y.low) e) (ap (λ y. y.high) e) ∙ norm_of_zero)

      pub pair_laws : Laws (pairs B nu)
      pair_laws = record {
        add_assoc = λ x y z. pair_path (l.add_assoc _ _ _) (l.add_assoc _ _ _);
        add_comm = λ x y. pair_path (l.add_comm _ _) (l.add_comm _ _);
        add_zero = λ x. pair_path (l.add_zero _) (l.add_zero _);
        add_self = λ x. pair_path (l.add_self _) (l.add_self _);
        mul_assoc = λ x y z. pair_path (low_assoc _ _ _ _ _ _) (high_assoc _ _ _ _ _ _);
        mul_comm = λ x y. pair_path
            (ap₂ (λ u v. add u (mul nu v)) (l.mul_comm _ _) (l.mul_comm _ _))
            (ap₂ add (l.add_comm _ _ ∙ ap₂ add (l.mul_comm _ _) (l.mul_comm _ _)) (l.mul_comm _ _));
        mul_one = λ x. pair_path (simp (mul-zero, l.mul_one, l.add_zero)) (simp (mul-zero, l.mul_one, l.add_zero, zero_plus));
        mul_add = λ x y z. pair_path (low_add _ _ _ _ _ _) (high_add _ _ _ _ _ _);
        mul_inv = λ x h.
            let i = inv (norm B nu x.low x.high) in
            pair_path (inverse_low x.low x.high i ∙ l.mul_inv (norm B nu x.low x.high) (norm_some x.low x.high h)) (inverse_high x.low x.high i);
        inv_zero =
            let i = inv (norm B nu zero zero) in
            pair_path (ap₂ mul (l.add_zero zero) refl ∙ zero_times i) (zero_times i);
        code_below = λ x. subst (λ (n : ℕ). n < 2 ^ (bits + bits)) (turned x.high x.low) (code_bound (code x.high) (code x.low) (l.code_below x.high) (l.code_below x.low));
        element_code = λ x. pair_path
            (low_bits (code x.low + 2 ^ bits * code x.high)
            ∙ ap element (ap (λ (n : ℕ). n % 2 ^ bits) (sym (turned x.high x.low)) ∙ low_digits (code x.high) bits (l.code_below x.low))
            ∙ l.element_code x.low)
            (ap element (ap (λ (n : ℕ). n / 2 ^ bits) (sym (turned x.high x.low)) ∙ high_digits (code x.high) bits (l.code_below x.low))
            ∙ l.element_code x.high);
        code_element = λ n.
            sym (turned (element (n / 2 ^ bits)) (element n))
            ∙ ap₂ (λ (u v : ℕ). u * 2 ^ bits + v) (l.code_element (n / 2 ^ bits)) (l.code_element n) ∙ sym (mod-pow-add n bits bits);
        code_zero = zero_digit 0 l.code_zero;
        code_one = zero_digit 1 l.code_one;
      }
        where
          low_bits : (n : ℕ) → element n ≡ element (n % 2 ^ bits)
          low_bits n = sym (l.element_code (element n)) ∙ ap element (l.code_element n)

          turned : (u v : E) → code u * 2 ^ bits + code v ≡ code v + 2 ^ bits * code u
          turned u v = add_commℕ (code u * 2 ^ bits) (code v) ∙ ap (λ (n : ℕ). code v + n) (mul_commℕ (code u) (2 ^ bits))

          code_bound : (u v : ℕ) → u < 2 ^ bits → v < 2 ^ bits → u * 2 ^ bits + v < 2 ^ (bits + bits)
          code_bound u v hu hv = subst (λ (x : ℕ). u * 2 ^ bits + v < x) (sym (pow-add 2 bits bits)) (digits_lt hu hv)

          zero_digit : (k : ℕ) {y : E} → code y ≡ k → code y + 2 ^ bits * code zero ≡ k
          zero_digit k e = ap₂ (λ (u v : ℕ). v + 2 ^ bits * u) l.code_zero e ∙ ap (λ (u : ℕ). k + u) (mul_zeroℕ (2 ^ bits)) ∙ add_zeroℕ k

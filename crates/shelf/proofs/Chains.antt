-- Chains of checks, taken apart.
use Rattle.std.proofs.Common.{◌≡◌, ℕ, Bool, true, false, eqb, Ok, Err, Result, refl}
use Rattle.std.proofs.lemmas.Bool.{eqb-true}
use Rattle.refusal.specs.declared.denial.Denial.{Denial}
use Rattle.refusal.specs.declared.denial.Denial.TheVariants.{Length, Range}
use Rattle.refusal.specs.Checks.{check, and_then}
use Rattle.shelf.specs.Limits.{within}
use Rattle.shelf.specs.Calls.{placed}

pub first_ok : {A E : Type 0} (a : Result Unit E) (b : Result A E) (x : A) → and_then a b ≡ Ok x → a ≡ Ok tt
first_ok (Ok u) b x e = refl
first_ok (Err f) b x e = cc

pub rest_ok : {A E : Type 0} (a : Result Unit E) (b : Result A E) (x : A) → and_then a b ≡ Ok x → b ≡ Ok x
rest_ok (Ok u) b x e = e
rest_ok (Err f) b x e = cc

pub check_ok : {E : Type 0} (t : Bool) (f : E) → check t f ≡ Ok tt → t ≡ true
check_ok true f e = refl
check_ok false f e = cc

-- What a call answered that gives x where its checks pass.
pub denied : {A E : Type 0} (a : Result Unit E) (x : A) (r : Result A E) (f : E) → r ≡ and_then a (Ok x) → r ≡ Err f → Err f ≡ a
denied (Ok u) x r f e d = cc
denied (Err g) x r f e d = cc

pub accepted : {A E : Type 0} (a : Result Unit E) (x y : A) → Ok y ≡ and_then a (Ok x) → (Ok tt ≡ a) × (y ≡ x)
accepted (Ok tt) x y e = (refl, cc)
accepted (Err g) x y e = (cc, cc)

-- What comes after a check matters only where it passed.
pub and_same : {A E : Type 0} (a : Result Unit E) (b c : Result A E) → (a ≡ Ok tt → b ≡ c) → and_then a b ≡ and_then a c
and_same (Ok tt) b c h = h refl
and_same (Err e) b c h = refl

pub record Placed (boxes rows width b row n : ℕ) : Type 0 where
  pub box_ok : within b boxes ≡ true
  pub row_ok : within row rows ≡ true
  pub long_ok : n ≡ width

pub placed_ok : (boxes rows width b row n : ℕ) → placed boxes rows width b row n ≡ Ok tt → Placed boxes rows width b row n
placed_ok boxes rows width b row n e =
    let f : Result Unit Denial = check (within b boxes) (Range b) in
    let g : Result Unit Denial = check (within row rows) (Range b) in
    let h : Result Unit Denial = check (eqb n width) Length in
    let r = rest_ok f (and_then g h) tt e in
    record {
      box_ok = check_ok (within b boxes) (Range b) (first_ok f (and_then g h) tt e);
      row_ok = check_ok (within row rows) (Range b) (first_ok g h tt r);
      long_ok = eqb-true n width (check_ok (eqb n width) Length (rest_ok g h tt r));
    }

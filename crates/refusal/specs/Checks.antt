-- Checks in an order: the first that fails is the one that is answered.
use Rattle.std.specs.Prelude.{Bool, true, false, Ok, Err, Result}

-- Where the test fails, e is the answer.
abbrev pub check : {E : Type 0} → Bool → E → Result Unit E
check true e = Ok tt
check false e = Err e

-- The second check is made only where the first passed.
abbrev pub and_then : {A E : Type 0} → Result Unit E → Result A E → Result A E
and_then (Ok _) y = y
and_then (Err e) y = Err e

-- What an accepted call gives, or what a denied call leaves.
abbrev pub if_ok : {A B E : Type 0} → Result B E → A → A → A
if_ok (Ok _) x y = x
if_ok (Err _) x y = y

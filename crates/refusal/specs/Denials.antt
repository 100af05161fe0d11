-- The number of each refusal, and the box that it names.
use Rattle.std.specs.Prelude.{ℕ}
use Rattle.refusal.specs.declared.denial.Denial.{Denial}
use Rattle.refusal.specs.declared.denial.Denial.TheVariants.{Limit, Helpers, Points, OtherShelf, Length, Range, Repeated, Symbol, Dead, State, Repair, Part, Already, Missing, Unreadable}

abbrev pub number_of : Denial → ℕ
number_of Limit = 1
number_of Helpers = 2
number_of Points = 3
number_of OtherShelf = 4
number_of Length = 5
number_of (Range b) = 6
number_of (Repeated b) = 7
number_of Symbol = 8
number_of (Dead b) = 9
number_of (State b) = 10
number_of (Repair b) = 11
number_of (Part b) = 12
number_of (Already b) = 13
number_of (Missing b) = 14
number_of Unreadable = 15

-- 0 where the refusal names no box.
abbrev pub box_named : Denial → ℕ
box_named Limit = 0
box_named Helpers = 0
box_named Points = 0
box_named OtherShelf = 0
box_named Length = 0
box_named (Range b) = b
box_named (Repeated b) = b
box_named Symbol = 0
box_named (Dead b) = b
box_named (State b) = b
box_named (Repair b) = b
box_named (Part b) = b
box_named (Already b) = b
box_named (Missing b) = b
box_named Unreadable = 0

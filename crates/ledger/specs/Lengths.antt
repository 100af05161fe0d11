-- How long the lists and buffers of a call have to be.
use Rattle.std.specs.Prelude.{ℕ, ◌+◌, ◌-◌, ◌*◌}
use Rattle.beehive.specs.declared.numbers.Numbers.{Numbers}
use Rattle.beehive.specs.Numbers.{beta, data_rows}

-- cells of 16 bits in the work area, at least
abbrev pub least_work : ℕ
least_work = 24576

-- elements of the field in the scratch, at least
abbrev pub least_scratch : ℕ
least_scratch = 12800

-- the symbols of the data: B rows of w
abbrev pub data_symbols : Numbers → ℕ
data_symbols N = data_rows N * N.w

-- the symbols of a box: β rows of w
abbrev pub box_symbols : Numbers → ℕ
box_symbols N = beta N * N.w

-- the cells of the tray: for each of t newcomers d rows from helpers and t − 1 from the other newcomers, of w cells
abbrev pub tray_cells : Numbers → ℕ
tray_cells N = N.t * (N.d + N.t - 1) * N.w

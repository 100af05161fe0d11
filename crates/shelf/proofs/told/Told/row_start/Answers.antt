use Rattle.std.proofs.Common.{◌≡◌, ◌-◌, true, arith}
use Rattle.shelf.specs.Limits.{within}
use Rattle.shelf.proofs.Index.{row_in, within_low, within_high, within_index, size_small}
use Rattle.shelf.proofs.told.Told.row_start.Goals as goal

pub returns-clause-ok : goal.returns-clause-ok
returns-clause-ok c =
    let s = c.args.self.shape in
    let b = c.args.b in
    let k = c.in_ok-i.ensures.ok in
    let r : within c.args.row s.rows ≡ true = grind arith in
    let q = row_in s.boxes c.in_ok-i.i (c.args.row - 1) s.rows s.width k.2 (within_index c.args.row s.rows r) in
    let e : c.from-row.result ≡ c.args.row = cc in
    let l = size_small c.args.self in
    (within_low b s.boxes k.0, within_high b s.boxes k.0, (rw e (omega arith), rw e (omega arith)))

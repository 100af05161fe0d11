use Rattle.coder.proofs.Cells.{apply_sums}
use Rattle.coder.proofs.theorems.apply_sums_rows.Goals as goal

pub returns : goal.returns
returns g c = apply_sums g.met.F.Field.laws

use Rattle.ledger.proofs.Runs.{whole_boxes}
use Rattle.ledger.proofs.theorems.whole_boxes_hold_the_code.Goals as goal

pub returns : goal.returns
returns g c = whole_boxes g.met.F.Field.laws

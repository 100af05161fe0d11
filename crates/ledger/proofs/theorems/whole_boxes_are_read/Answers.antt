use Rattle.ledger.proofs.Runs.{whole_are_read}
use Rattle.ledger.proofs.theorems.whole_boxes_are_read.Goals as goal

pub returns : goal.returns
returns g c = whole_are_read g.met.F.Field.laws

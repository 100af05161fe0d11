use Rattle.ledger.proofs.Runs.{settles_when}
use Rattle.ledger.proofs.theorems.settles_when_all_came.Goals as goal

pub returns : goal.returns
returns g c = settles_when g.met.F.Field.laws
